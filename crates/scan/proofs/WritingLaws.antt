-- How writes into a buffer join.
use Rattle.std.proofs.Common.{◌≡◌, ℕ, ◌+◌, ◌<◌, ◌≤◌, List, [], ◌∷◌, ◌++◌, length, take, drop, set, sym, refl, ap, ◌∙◌, subst, add-zero, add_assoc, add-one, arith}
use Rattle.std.proofs.lemmas.List.{append_assoc, length-append, length-take-le, length-drop, take-append-drop, take_at, drop_at, drop-drop, set_split}
use Rattle.scan.specs.Writing.{Wrote}

-- a write of nothing
pub wrote_none : (i : ℕ) (before : List ℕ) → i ≤ length before → Wrote [] i before before i
wrote_none i before l = record {
  fits = omega arith;
  end = omega arith;
  stands = sym (take-append-drop i before) ∙ ap (λ n. take i before ++ drop n before) (sym (add-zero i));
}

-- a write of one word
pub wrote_one : (x i : ℕ) (before : List ℕ) → i < length before → Wrote (x ∷ []) i before (set before i x) (i + 1)
wrote_one x i before l = record {
  fits = omega arith;
  end = refl;
  stands = set_split before i x l ∙ ap (λ n. take i before ++ (x ∷ drop n before)) (sym (add-one i));
}

pub wrote_as : {xs ys : List ℕ} {i : ℕ} {before after : List ℕ} {j : ℕ} → xs ≡ ys → Wrote xs i before after j → Wrote ys i before after j
wrote_as {i} {before} {after} {j} e h = subst (λ l. Wrote l i before after j) e h

-- a write keeps the length
pub wrote_length : {xs : List ℕ} {i : ℕ} {before after : List ℕ} {j : ℕ} → Wrote xs i before after j → length after ≡ length before
wrote_length {xs} {i} {before} h =
    ap length h.stands
    ∙ length-append (take i before) (xs ++ drop (i + length xs) before)
    ∙ omega (arith, h.fits, length-take-le i before (omega (arith, h.fits)), length-append xs (drop (i + length xs) before), length-drop (i + length xs) before)

-- a write, and another right behind it
pub wrote_then : {xs ys : List ℕ} {i j k : ℕ} {a b c : List ℕ} → Wrote xs i a b j → Wrote ys j b c k → Wrote (xs ++ ys) i a c k
wrote_then {xs} {ys} {i} {j} {k} {a} {b} {c} f g =
    let long : length (take i a) ≡ i = length-take-le i a (omega (arith, f.fits)) in
    let part : length (take i a ++ xs) ≡ j = omega (arith, length-append (take i a) xs, f.end) in
    let all : b ≡ (take i a ++ xs) ++ drop (i + length xs) a = f.stands ∙ sym (append_assoc (take i a) xs (drop (i + length xs) a)) in
    let front : take j b ≡ take i a ++ xs = ap (λ l. take j l) all ∙ take_at (take i a ++ xs) (drop (i + length xs) a) j part in
    let rest : drop j b ≡ drop (i + length xs) a = ap (λ l. drop j l) all ∙ drop_at (take i a ++ xs) (drop (i + length xs) a) j part in
    let both : length (xs ++ ys) ≡ length xs + length ys = length-append xs ys in
    let behind : drop (j + length ys) b ≡ drop (i + length (xs ++ ys)) a =
    sym (drop-drop (length ys) j b) ∙ ap (λ l. drop (length ys) l) rest ∙ drop-drop (length ys) (i + length xs) a
    ∙ ap (λ n. drop n a) (add_assoc i (length xs) (length ys) ∙ ap (λ n. i + n) (sym both)) in
    record {
      fits = omega (arith, f.end, g.fits, wrote_length f);
      end = omega (arith, f.end, g.end);
      stands = g.stands
          ∙ ap (λ l. l ++ (ys ++ drop (j + length ys) b)) front
          ∙ ap (λ l. (take i a ++ xs) ++ (ys ++ l)) behind
          ∙ append_assoc (take i a) xs (ys ++ drop (i + length (xs ++ ys)) a)
          ∙ ap (λ l. take i a ++ l) (sym (append_assoc xs ys (drop (i + length (xs ++ ys)) a)));
    }
