-- How the reader's steps join.
use Rattle.std.proofs.Common.{◌≡◌, ℕ, zero, suc, ◌+◌, ◌-◌, ◌*◌, ◌^◌, ◌<◌, ◌≤◌, Bool, true, false, not, eqb, List, length, get_or, set, MatchBool, Some, None, sym, refl, ap, ◌∙◌, subst, pow-suc, add-one, arith}
use native.Mathlib.Nat.{pow-le-pow_right}
use Rattle.std.proofs.lemmas.List.{set-get_or, length-append}
use Rattle.words.specs.Bits.{Bit}
use Rattle.frame_map.specs.Rows.{Lawful}
use Rattle.frame_map.specs.declared.row.Entry.{Entry}
use Rattle.delta_layout.specs.Codes.{code}
use Rattle.delta_layout.specs.Parsing.{Parsed, and_then, only_if, stands, byte_in, number_in, changed_in, slot_in, slots_in, entry_in}
use Rattle.delta_code.specs.Reading.{rest, Took, GotRow, NoRow}
use Rattle.delta_code.specs.declared.reader.Reader.{Reader}
use Rattle.delta_code.specs.declared.reader.ReaderFault.{ReaderFault}
use Rattle.delta_layout.proofs.CodeLaws.{entry_sound, entry_whole, entry_length}
use Rattle.delta_layout.proofs.ParseLaws.{number_sound, then_some, if_some, same_value}

pub number_small : (n v : ℕ) (s t : Reader) → Took (number_in n) (Some v) s t → v < 256 ^ n
number_small n v s t h = (number_sound n (rest s) v (rest t) h.ran).1

-- a byte more fits as well
pub number_fits : (n b v : ℕ) → 0 < n → n ≤ 4 → b < 256 → v < 256 ^ (n - 1) → b + 256 * v < 2 ^ 32
number_fits n b v some most low h =
    let e : 256 ^ n ≡ 256 ^ (n - 1) * 256 = ap (λ m. 256 ^ m) (omega arith) ∙ pow-suc 256 (n - 1) in
    let m : 256 ^ n ≤ 256 ^ 4 = pow-le-pow_right (omega arith) most in
    omega arith

-- a field that is read keeps its width
pub changed_small : (n : ℕ) (t : Bool) (x v : ℕ) (s u : Reader) → x < 256 ^ n → Took (changed_in n t x) (Some v) s u → v < 256 ^ n
unfolding changed_in
changed_small n false x v s u h k = grind arith
changed_small n true x v s u h k =
    let t = then_some (number_in n (rest s)) (λ y r. only_if (not (eqb x y)) (Some (y, r))) v (rest u) k.ran in
    let w = if_some (not (eqb x t.0)) (Some (t.0, t.1)) (v, rest u) t.3 in
    subst (λ m. m < 256 ^ n) (same_value t.0 v t.1 (rest u) w.1) (number_sound n (rest s) t.0 t.1 t.2).1

slot_put : (o : Parsed ℕ) (k x : ℕ) (xs : List ℕ) → and_then o (λ y r. only_if (not (eqb x y)) (Some (set xs k y, r)))
    ≡ and_then (and_then (and_then o (λ b r. Some (b + 256 * 0, r))) (λ y r. only_if (not (eqb x y)) (Some (y, r)))) (λ y r. Some (set xs k y, r))
slot_put None k x xs = refl
slot_put (Some p) k x xs =
    let e : p.0 + 0 ≡ p.0 = omega arith in
    put (not (eqb x p.0)) ∙ sym (ap (λ y. and_then (only_if (not (eqb x y)) (Some (y, p.1))) (λ y r. Some (set xs k y, r))) e)
  where
    put : (b : Bool) → only_if b (Some (set xs k p.0, p.1)) ≡ and_then (only_if b (Some (p.0, p.1))) (λ y r. Some (set xs k y, r))
    put true = refl
    put false = refl

-- a saved slot is read as any field of a byte
pub slot_is : (t : Bool) (k : ℕ) (xs bs : List ℕ) → slot_in t k xs bs ≡ and_then (changed_in 1 t (get_or xs k 0) bs) (λ y r. Some (set xs k y, r))
unfolding slot_in changed_in number_in
slot_is false k xs bs = ap (λ l. Some (l, bs)) (sym (set-get_or xs k 0))
slot_is true k xs bs = slot_put (byte_in bs) k (get_or xs k 0) xs

-- how the slots go on at register 8 + k
abbrev pub on_slots : ℕ → ℕ → List ℕ → List ℕ → Parsed (List ℕ)
on_slots m k ys r = and_then (changed_in 1 (stands m k) (get_or ys k 0) r) (λ y q. Some (set ys k y, q))

pub slots_more : (m : ℕ) (xs : List ℕ) (k : ℕ) (bs : List ℕ) → slots_in m xs (k + 1) bs ≡ and_then (slots_in m xs k bs) (on_slots m k)
unfolding slots_in
slots_more m xs k bs = ap (λ n. slots_in m xs n bs) (add-one k) ∙ on (slots_in m xs k bs)
  where
    on : (o : Parsed (List ℕ)) → and_then o (λ ys r. slot_in (stands m k) k ys r) ≡ and_then o (on_slots m k)
    on None = refl
    on (Some p) = slot_is (stands m k) k p.0 p.1

-- what stops at a register stops the whole
pub slots_stop : (m : ℕ) (xs : List ℕ) (j k : ℕ) (bs : List ℕ) → slots_in m xs k bs ≡ None → slots_in m xs (k + j) bs ≡ None
unfolding slots_in
slots_stop m xs zero k bs h = grind arith
slots_stop m xs (suc j) k bs h =
    let e : k + suc j ≡ suc (k + j) = omega arith in
    ap (λ n. slots_in m xs n bs) e
    ∙ ap (λ o. and_then o (λ ys r. slot_in (stands m (k + j)) (k + j) ys r)) (slots_stop m xs j k bs h)

-- the slot of r(8 + k) is read as its bit tells
pub slot_read : (m k x : ℕ) (t : Bool) (xs ys : List ℕ) (y : ℕ) (s u w : Reader) → t ≡ stands m k → x ≡ get_or ys k 0 →
    Took (slots_in m xs k) (Some ys) s u → Took (changed_in 1 t x) (Some y) u w → Took (slots_in m xs (k + 1)) (Some (set ys k y)) s w
slot_read m k x t xs ys y s u w e g h r = record {
  same = r.same ∙ h.same;
  far = r.far ∙ h.far;
  ran = slots_more m xs k (rest s) ∙ ap (λ o. and_then o (on_slots m k)) h.ran
      ∙ ap (λ o. and_then o (λ y q. Some (set ys k y, q))) (ap (λ b. changed_in 1 b (get_or ys k 0) (rest u)) (sym e) ∙ ap (λ x. changed_in 1 t x (rest u)) (sym g) ∙ r.ran);
}

-- a slot that is not there stops the whole
pub slot_missing : (m k x : ℕ) (t : Bool) (xs ys : List ℕ) (s u w : Reader) → k < 8 → t ≡ stands m k → x ≡ get_or ys k 0 →
    Took (slots_in m xs k) (Some ys) s u → Took (changed_in 1 t x) None u w → Took (slots_in m xs 8) None s w
slot_missing m k x t xs ys s u w l e g h r =
    let all : 8 ≡ k + 1 + (8 - (k + 1)) = omega arith in
    record {
      same = r.same ∙ h.same;
      far = r.far ∙ h.far;
      ran = ap (λ n. slots_in m xs n (rest s)) all ∙ slots_stop m xs (8 - (k + 1)) (k + 1) (rest s)
          (slots_more m xs k (rest s) ∙ ap (λ o. and_then o (on_slots m k)) h.ran
          ∙ ap (λ o. and_then o (λ y q. Some (set ys k y, q))) (ap (λ b. changed_in 1 b (get_or ys k 0) (rest u)) (sym e) ∙ ap (λ x. changed_in 1 t x (rest u)) (sym g) ∙ r.ran));
    }

-- what a test of a bit tells
pub bit_told : (b : Bool) (m n i : ℕ) → n ≡ m → MatchBool b (Bit n i) (Bit n i → ⊥) → b ≡ stands m i
bit_told true m n i e h = grind arith
bit_told false m n i e h = grind arith

-- the three ends of a row
pub no_row : (b : Entry) (s t u : Reader) (f : ReaderFault) → Took (entry_in b) None s t → f.byte ≡ s.at → u.at ≡ s.at → u.image.now ≡ t.image.now → NoRow b s u f
no_row b s t u f h e place image = record {
  byte = e;
  none = λ lb x q n k. let a = sym h.ran ∙ ap (λ l. entry_in b l) k ∙ entry_whole b x q lb n in cc;
  image = image ∙ h.same;
  place = place;
}

pub bad_row : (b w : Entry) (s t u : Reader) (f : ReaderFault) → Took (entry_in b) (Some w) s t → (Lawful w.row → ⊥) → f.byte ≡ s.at → u.at ≡ s.at → u.image.now ≡ t.image.now → NoRow b s u f
bad_row b w s t u f h bad e place image = record {
  byte = e;
  none = λ lb x q n k. bad (subst (λ y. Lawful y.row) (same_value x w q (rest t) (sym (entry_whole b x q lb n) ∙ ap (λ l. entry_in b l) (sym k) ∙ h.ran)) n.lawful);
  image = image ∙ h.same;
  place = place;
}

pub got_row : (b w : Entry) (s t : Reader) → Took (entry_in b) (Some w) s t → Lawful w.row → GotRow b s t w
got_row b w s t h l =
    let eight : length b.row.saved ≡ 8 = sym (entry_length b (rest s) w (rest t) h.ran) ∙ l.saves.eight in
    let r = entry_sound b (rest s) w (rest t) eight h.ran in
    record {
      follows = record { lawful = l; above = r.above; fits = r.fits };
      coded = r.laid;
      image = h.same;
      place = omega (arith, h.far, ap length r.laid, length-append (code b w) (rest t));
    }
