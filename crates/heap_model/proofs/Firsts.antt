-- The words of a list in order of first mention.
use Rattle.std.proofs.Common.{◌≡◌, ℕ, zero, suc, ◌+◌, ◌<◌, ◌≤◌, true, false, ◌||◌, eqb, ◌⊎◌, List, [], ◌∷◌, ◌++◌, length, get_or, fold, sym, refl, ◌∙◌, subst, ⊎_elim, append_assoc, append-nil, arith}
use Rattle.std.proofs.lemmas.Grind.{common_steps}
use Rattle.std.proofs.lemmas.Bool.{cases_eq, cases_lt, cases_Bool, or_cases, or_parts, or_from, or_left, or_right, eqb-true, eqb-false, eq-eqb, ne_eqb, true≢false}
use Rattle.std.proofs.lemmas.List.{length_push, length-append, get_or_push, get_or_append_left}
use Rattle.heap_model.specs.Live.{Member, First}
use Rattle.heap_model.specs.Moving.{has, noted, firsts}

pub has_member : (w : ℕ) (xs : List ℕ) → has w xs ≡ true → Member w xs
unfolding has
has_member w [] h = absurd (true≢false (sym h))
has_member w (x ∷ xs) h =
    ⊎_elim
    (λ (e : eqb x w ≡ true). (0, omega arith, eqb-true x w e))
    (λ (t : has w xs ≡ true). let m : Member w xs = has_member w xs t in (suc m.0, omega (arith, m.1), m.2))
    (or_cases (eqb x w) (has w xs) h)

pub has_not : (w : ℕ) (xs : List ℕ) → has w xs ≡ false → (n : ℕ) → n < length xs → get_or xs n 0 ≡ w → ⊥
unfolding has
has_not w [] h n l e = omega arith
has_not w (x ∷ xs) h zero l e = eqb-false x w (or_parts (eqb x w) (has w xs) h).0 e
has_not w (x ∷ xs) h (suc n) l e = has_not w xs (or_parts (eqb x w) (has w xs) h).1 n (omega arith) e

pub member_has : (w : ℕ) (xs : List ℕ) → Member w xs → has w xs ≡ true
member_has w xs m = grind (arith, has_not)

pub absent_has : (w : ℕ) (xs : List ℕ) → (Member w xs → ⊥) → has w xs ≡ false
absent_has w xs f = grind (arith, has_member)

pub noted_zero : (ps : List ℕ) (w : ℕ) → w ≡ 0 → noted ps w ≡ ps
unfolding noted
noted_zero ps w e = let t : (eqb w 0 || has w ps) ≡ true = or_left (eqb w 0) (has w ps) (eq-eqb w 0 e) in rw t

pub noted_had : (ps : List ℕ) (w : ℕ) → Member w ps → noted ps w ≡ ps
unfolding noted
noted_had ps w m = let t : (eqb w 0 || has w ps) ≡ true = or_right (eqb w 0) (has w ps) (member_has w ps m) in rw t

pub noted_new : (ps : List ℕ) (w : ℕ) → 0 < w → (Member w ps → ⊥) → noted ps w ≡ ps ++ w ∷ []
unfolding noted
noted_new ps w l f = let t : (eqb w 0 || has w ps) ≡ false = or_from (eqb w 0) (has w ps) (ne_eqb w 0 (λ e. omega arith)) (absent_has w ps f) in rw t

pub first_one : (xs : List ℕ) (w m n : ℕ) → First xs w m → First xs w n → m ≡ n
first_one xs w m n a b = grind arith

pub first_front : (xs ys : List ℕ) (w n : ℕ) → First xs w n → First (xs ++ ys) w n
first_front xs ys w n a = grind (arith, common_steps)

pub member_front : (xs ys : List ℕ) (w : ℕ) → Member w xs → Member w (xs ++ ys)
member_front xs ys w m = (m.0, omega (arith, length-append xs ys, m.1), get_or_append_left xs ys 0 m.0 m.1 ∙ m.2)

-- what stands somewhere stands somewhere first
pub first_there : (xs : List ℕ) (w : ℕ) → Member w xs → (n : ℕ) × First xs w n
first_there [] w m = absurd (omega (arith, m.1))
first_there (x ∷ xs) w m =
    ⊎_elim
    (λ (e : x ≡ w). (0, (omega arith, e, λ k l q. omega arith)))
    (λ (ne : x ≡ w → ⊥). let r : (n : ℕ) × First xs w n = first_there xs w (later x xs w ne m) in (suc r.0, (omega (arith, r.1.0), r.1.1, before x xs w ne r.0 r.1)))
    (cases_eq x w)
  where
    later : (x : ℕ) (xs : List ℕ) (w : ℕ) → (x ≡ w → ⊥) → Member w (x ∷ xs) → Member w xs
    later x xs w ne (zero, l, e) = absurd (ne e)
    later x xs w ne (suc n, l, e) = (n, omega arith, e)

    before : (x : ℕ) (xs : List ℕ) (w : ℕ) → (x ≡ w → ⊥) → (n : ℕ) → First xs w n → (k : ℕ) → k < suc n → get_or (x ∷ xs) k 0 ≡ w → ⊥
    before x xs w ne n f zero l e = ne e
    before x xs w ne n f (suc k) l e = f.2 k (omega arith) e

-- ps has the words of ms but 0, each once, in order of first mention
pub record Ordered (ms ps : List ℕ) : Type 0 where
  pub once : (i k : ℕ) → i < k → k < length ps → get_or ps i 0 ≡ get_or ps k 0 → ⊥
  pub some : (k : ℕ) → k < length ps → 0 < get_or ps k 0
  pub there : (k : ℕ) → k < length ps → (n : ℕ) × First ms (get_or ps k 0) n
  pub ordered : (i k m n : ℕ) → i < k → k < length ps → First ms (get_or ps i 0) m → First ms (get_or ps k 0) n → m < n
  pub closed : (w : ℕ) → 0 < w → Member w ms → Member w ps

pub pushed_cases : (xs : List ℕ) (y : ℕ) (w : ℕ) → Member w (xs ++ y ∷ []) → Member w xs ⊎ (y ≡ w)
pushed_cases xs y w m = grind (arith, common_steps)

module _ (ms ps : List ℕ) (o : Ordered ms ps) (w : ℕ) where
  -- a mention that adds nothing
  keeps : (0 < w → Member w ps) → Ordered (ms ++ w ∷ []) ps
  keeps had =
      record {
        once = o.once;
        some = o.some;
        there = λ k l. ((o.there k l).0, first_front ms (w ∷ []) (get_or ps k 0) (o.there k l).0 (o.there k l).1);
        ordered = λ i k m n l h a b.
            let i' : (n : ℕ) × First ms (get_or ps i 0) n = o.there i (omega arith) in
            let k' : (n : ℕ) × First ms (get_or ps k 0) n = o.there k h in
            let p : m ≡ i'.0 = first_one (ms ++ w ∷ []) (get_or ps i 0) m i'.0 a (first_front ms (w ∷ []) (get_or ps i 0) i'.0 i'.1) in
            let q : n ≡ k'.0 = first_one (ms ++ w ∷ []) (get_or ps k 0) n k'.0 b (first_front ms (w ∷ []) (get_or ps k 0) k'.0 k'.1) in
            let r : i'.0 < k'.0 = o.ordered i k i'.0 k'.0 l h i'.1 k'.1 in
            omega (arith, p, q, r);
        closed = λ v l m.
            ⊎_elim
            (λ (a : Member v ms). o.closed v l a)
            (λ (e : w ≡ v). subst (λ x. Member x ps) e (had (omega arith)))
            (pushed_cases ms w v m);
      }

  -- a mention of a word that is not there yet
  adds : 0 < w → (Member w ps → ⊥) → Ordered (ms ++ w ∷ []) (ps ++ w ∷ [])
  adds pos new =
      let old : (k : ℕ) → k < length ps → get_or (ps ++ w ∷ []) k 0 ≡ get_or ps k 0 = λ k l. get_or_append_left ps (w ∷ []) 0 k l in
      let last : (k : ℕ) → length ps ≡ k → get_or (ps ++ w ∷ []) k 0 ≡ w = λ k e. get_or_push ps w 0 k e in
      let len : length (ps ++ w ∷ []) ≡ length ps + 1 = length_push ps w in
      let here : First (ms ++ w ∷ []) w (length ms) = (
        omega (arith, length_push ms w),
        get_or_push ms w 0 (length ms) refl,
        λ k l e. new (o.closed w pos (k, l, sym (get_or_append_left ms (w ∷ []) 0 k l) ∙ e)),
      ) in
      let olds : (k : ℕ) → k < length ps → (n : ℕ) × (First (ms ++ w ∷ []) (get_or (ps ++ w ∷ []) k 0) n × First ms (get_or ps k 0) n) =
      λ k l. ((o.there k l).0, (subst (λ x. First (ms ++ w ∷ []) x (o.there k l).0) (sym (old k l)) (first_front ms (w ∷ []) (get_or ps k 0) (o.there k l).0 (o.there k l).1), (o.there k l).1)) in
      let lasts : (k : ℕ) → length ps ≡ k → First (ms ++ w ∷ []) (get_or (ps ++ w ∷ []) k 0) (length ms) =
      λ k e. subst (λ x. First (ms ++ w ∷ []) x (length ms)) (sym (last k e)) here in
      record {
        once = λ i k l h e.
            ⊎_elim
            (λ (b : k < length ps). o.once i k l b (sym (old i (omega arith)) ∙ e ∙ old k b))
            (λ (g : length ps ≤ k). new (i, omega arith, sym (old i (omega arith)) ∙ e ∙ last k (omega arith)))
            (cases_lt k (length ps));
        some = λ k h.
            ⊎_elim
            (λ (b : k < length ps). subst (λ x. 0 < x) (sym (old k b)) (o.some k b))
            (λ (g : length ps ≤ k). subst (λ x. 0 < x) (sym (last k (omega arith))) pos)
            (cases_lt k (length ps));
        there = λ k h.
            ⊎_elim
            (λ (b : k < length ps). ((olds k b).0, (olds k b).1.0))
            (λ (g : length ps ≤ k). (length ms, lasts k (omega arith)))
            (cases_lt k (length ps));
        ordered = λ i k m n l h a b.
            let i' : (n : ℕ) × (First (ms ++ w ∷ []) (get_or (ps ++ w ∷ []) i 0) n × First ms (get_or ps i 0) n) = olds i (omega arith) in
            let p : m ≡ i'.0 = first_one (ms ++ w ∷ []) (get_or (ps ++ w ∷ []) i 0) m i'.0 a i'.1.0 in
            ⊎_elim
            (λ (c : k < length ps).
            let k' : (n : ℕ) × (First (ms ++ w ∷ []) (get_or (ps ++ w ∷ []) k 0) n × First ms (get_or ps k 0) n) = olds k c in
            let q : n ≡ k'.0 = first_one (ms ++ w ∷ []) (get_or (ps ++ w ∷ []) k 0) n k'.0 b k'.1.0 in
            let r : i'.0 < k'.0 = o.ordered i k i'.0 k'.0 l c i'.1.1 k'.1.1 in
            omega (arith, p, q, r))
            (λ (g : length ps ≤ k).
            let q : n ≡ length ms = first_one (ms ++ w ∷ []) (get_or (ps ++ w ∷ []) k 0) n (length ms) b (lasts k (omega arith)) in
            omega (arith, p, q, i'.1.1.0))
            (cases_lt k (length ps));
        closed = λ v l m.
            ⊎_elim
            (λ (a : Member v ms). member_front ps (w ∷ []) v (o.closed v l a))
            (λ (e : w ≡ v). (length ps, omega arith, last (length ps) refl ∙ e))
            (pushed_cases ms w v m);
      }

  pub ordered_noted : Ordered (ms ++ w ∷ []) (noted ps w)
  ordered_noted =
      ⊎_elim
      (λ (z : w ≡ 0). subst (λ q. Ordered (ms ++ w ∷ []) q) (sym (noted_zero ps w z)) (keeps (λ l. absurd (omega arith))))
      (λ (nz : w ≡ 0 → ⊥).
      ⊎_elim
      (λ (y : has w ps ≡ true). subst (λ q. Ordered (ms ++ w ∷ []) q) (sym (noted_had ps w (has_member w ps y))) (keeps (λ l. has_member w ps y)))
      (λ (n : has w ps ≡ false). subst (λ q. Ordered (ms ++ w ∷ []) q) (sym (noted_new ps w (omega arith) (λ m. has_not w ps n m.0 m.1 m.2))) (adds (omega arith) (λ m. has_not w ps n m.0 m.1 m.2)))
      (cases_Bool (has w ps)))
      (cases_eq w 0)

pub ordered_folded : (ws ms ps : List ℕ) → Ordered ms ps → Ordered (ms ++ ws) (fold noted ps ws)
ordered_folded [] ms ps o = subst (λ q. Ordered q ps) (sym (append-nil ms)) o
ordered_folded (w ∷ ws) ms ps o =
    subst (λ q. Ordered q (fold noted (noted ps w) ws)) (append_assoc ms (w ∷ []) ws) (ordered_folded ws (ms ++ w ∷ []) (noted ps w) (ordered_noted ms ps o w))

pub ordered_firsts : (ms : List ℕ) → Ordered ms (firsts ms)
ordered_firsts ms =
    ordered_folded ms [] [] record {
      once = λ i k l h e. omega arith;
      some = λ k h. absurd (omega arith);
      there = λ k h. absurd (omega arith);
      ordered = λ i k m n l h a b. absurd (omega arith);
      closed = λ w l m. absurd (omega (arith, m.1));
    }
