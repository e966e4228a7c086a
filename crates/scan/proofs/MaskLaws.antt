-- The scan's masks have the bits that the rules of roots say.
use Rattle.std.proofs.Common.{◌≡◌, ℕ, zero, suc, ◌+◌, ◌-◌, ◌*◌, ◌/◌, ◌%◌, ◌^◌, ◌<◌, ◌≤◌, Bool, true, false, MatchBool, cond, ◌&&◌, ltb, ◌⊎◌, List, [], Some, None, Option, sym, refl, ap, ◌∙◌, subst, inl, inr, ⊎_elim, mul_assoc, mul_comm, pow-suc, arith}
use native.Mathlib.Nat.{add-mul-div_right}
use lib.Bits.{bit_and}
use Rattle.std.proofs.lemmas.Nat.{pow_pos, pow-add, shr-shr}
use Rattle.std.proofs.lemmas.Bool.{and_from, and_parts, cases_Bool, cases_lt, cond-true, cond-false, eq-eqb, eqb-true, lt-ltb, ltb-true}
use Rattle.words.specs.Bits.{Bit}
use Rattle.words.proofs.BitLaws.{bit_and_from, bit_and_left, bit_and_right, bit_of_zero, bit_or_cases, bit_or_left, bit_or_right, bit_pow_other, bit_pow_same, bit_shr, shr_bit}
use Rattle.frame_map.specs.Rows.{Lawful, saved_slot}
use Rattle.frame_map.specs.declared.row.Row.{Row}
use Rattle.scan.specs.Roots.{Passes, PointerSlot, SavedPointer, Scratch, SlotRoot}
use Rattle.scan.specs.Masks.{bit, held_by, registers_by, roots_by, saved_mask}
use Rattle.scan.specs.Writing.{Steps}

-- the test of a bit
pub bit_true : (m i : ℕ) → bit m i ≡ true → Bit m i
bit_true m i e = eqb-true (m / 2 ^ i % 2) 1 e

pub true_bit : (m i : ℕ) → Bit m i → bit m i ≡ true
true_bit m i b = eq-eqb (m / 2 ^ i % 2) 1 b

-- an answered bit is the tested one
pub tested : (m i : ℕ) (b : Bool) → MatchBool b (Bit m i) (Bit m i → ⊥) → b ≡ bit m i
tested m i true h = sym (true_bit m i h)
tested m i false h = elim (cases_Bool (bit m i)) [ inl t ↦ absurd (h (bit_true m i t)) | inr f ↦ sym f ]

-- the saved slots of a lawful row are bits of a mask
pub low_slot : (r : Row) (k : ℕ) → Lawful r → saved_slot r k < 32
low_slot r k l =
    ⊎_elim
    (λ (none : saved_slot r k < 1). omega arith)
    (λ (some : 1 ≤ saved_slot r k). omega (arith, (l.saves.inside k some).1, l.sized.most))
    (cases_lt (saved_slot r k) 1)

-- r(8 + k) is saved in slot i, for a register below r(8 + n) that is in h
abbrev pub SavedBelow : Row → ℕ → ℕ → ℕ → Type 0
SavedBelow r h n i = (k : ℕ) × (k < n) × (0 < i) × (saved_slot r k ≡ i) × Bit h k

-- one register's bit in the mask of saved slots
abbrev pub saved_one : Row → ℕ → ℕ → ℕ
saved_one r h k = cond (bit h k && ltb 0 (saved_slot r k)) (2 ^ saved_slot r k) 0

one_is : (r : Row) (h k i : ℕ) → Bit (saved_one r h k) i → (0 < i) × (saved_slot r k ≡ i) × Bit h k
one_is r h k i b =
    ⊎_elim
    (λ (t : (bit h k && ltb 0 (saved_slot r k)) ≡ true).
    let both = and_parts (bit h k) (ltb 0 (saved_slot r k)) t in
    let e : i ≡ saved_slot r k = bit_pow_other (saved_slot r k) i (subst (λ m. Bit m i) (cond-true (bit h k && ltb 0 (saved_slot r k)) (2 ^ saved_slot r k) 0 t) b) in
    let l = ltb-true 0 (saved_slot r k) both.1 in
    (omega arith, sym e, bit_true h k both.0))
    (λ (t : (bit h k && ltb 0 (saved_slot r k)) ≡ false).
    absurd (bit_of_zero i (subst (λ m. Bit m i) (cond-false (bit h k && ltb 0 (saved_slot r k)) (2 ^ saved_slot r k) 0 t) b)))
    (cases_Bool (bit h k && ltb 0 (saved_slot r k)))

is_one : (r : Row) (h k i : ℕ) → 0 < i → saved_slot r k ≡ i → Bit h k → Bit (saved_one r h k) i
is_one r h k i l e b =
    let t : (bit h k && ltb 0 (saved_slot r k)) ≡ true = and_from (bit h k) (ltb 0 (saved_slot r k)) (true_bit h k b) (lt-ltb 0 (saved_slot r k) (omega arith)) in
    subst (λ m. Bit m i) (sym (cond-true (bit h k && ltb 0 (saved_slot r k)) (2 ^ saved_slot r k) 0 t))
    (subst (λ j. Bit (2 ^ saved_slot r k) j) e (bit_pow_same (saved_slot r k)))

pub saved_is : (r : Row) (h n i : ℕ) → Bit (saved_mask r h n) i → SavedBelow r h n i
unfolding saved_mask
saved_is r h zero i b = absurd (bit_of_zero i b)
saved_is r h (suc n) i b =
    ⊎_elim
    (λ (before : Bit (saved_mask r h n) i). let s = saved_is r h n i before in (s.0, omega arith, s.2, s.3, s.4))
    (λ (now : Bit (saved_one r h n) i). let s = one_is r h n i now in (n, omega arith, s.0, s.1, s.2))
    (bit_or_cases (saved_mask r h n) (saved_one r h n) i b)

pub is_saved : (r : Row) (h n i : ℕ) → SavedBelow r h n i → Bit (saved_mask r h n) i
unfolding saved_mask
is_saved r h zero i s = absurd (let l = s.1 in omega arith)
is_saved r h (suc n) i s =
    ⊎_elim
    (λ (l : s.0 < n). bit_or_left (saved_mask r h n) (saved_one r h n) i (is_saved r h n i (s.0, l, s.2, s.3, s.4)))
    (λ (l : n ≤ s.0).
    let m = s.1 in
    let e : s.0 ≡ n = omega arith in
    bit_or_right (saved_mask r h n) (saved_one r h n) i (subst (λ k. Bit (saved_one r h k) i) e (is_one r h s.0 i s.2 s.3 s.4)))
    (cases_lt s.0 n)

-- the slots of a frame that are roots
pub slots_are : (o : Option Row) (ws : List ℕ) (h i : ℕ) → Bit (roots_by o ws h) i → SlotRoot o ws (λ k. Bit h k) i
slots_are None ws h i b = absurd (bit_of_zero i b)
slots_are (Some r) ws h i b =
    ⊎_elim (λ (p : Bit r.slots i). inl p) (λ (s : Bit (saved_mask r h 8) i). inr (saved_is r h 8 i s)) (bit_or_cases r.slots (saved_mask r h 8) i b)

pub are_slots : (o : Option Row) (ws : List ℕ) (h i : ℕ) → SlotRoot o ws (λ k. Bit h k) i → Bit (roots_by o ws h) i
are_slots None ws h i s = absurd s
are_slots (Some r) ws h i s =
    ⊎_elim
    (λ (p : PointerSlot r ws i). bit_or_left r.slots (saved_mask r h 8) i p)
    (λ (q : SavedPointer r (λ k. Bit h k) i). bit_or_right r.slots (saved_mask r h 8) i (is_saved r h 8 i q))
    s

-- a root stays one where the registers at entry mean the same
pub slot_root_as : (o : Option Row) (ws : List ℕ) (P Q : ℕ → Type 0) (i : ℕ) → ((k : ℕ) → P k → Q k) → SlotRoot o ws P i → SlotRoot o ws Q i
slot_root_as None ws P Q i f s = s
slot_root_as (Some r) ws P Q i f s =
    ⊎_elim
    (λ (p : PointerSlot r ws i). inl p)
    (λ (q : SavedPointer r P i). inr (q.0, q.1, q.2, q.3, f q.0 q.4))
    s

-- the callee-save registers that hold pointers behind a frame
pub passing_is : (o : Option Row) (h k : ℕ) → Bit (held_by o h) k → Passes o k (Bit h k)
passing_is None h k b = absurd (bit_of_zero k b)
passing_is (Some r) h k b =
    ⊎_elim
    (λ (p : Bit (r.registers / 2 ^ 8) k). inl (bit_shr r.registers 8 k p))
    (λ (q : Bit (bit_and r.untouched h) k). inr (bit_and_left r.untouched h k q, bit_and_right r.untouched h k q))
    (bit_or_cases (r.registers / 256) (bit_and r.untouched h) k b)

pub is_passing : (o : Option Row) (h k : ℕ) → Passes o k (Bit h k) → Bit (held_by o h) k
is_passing None h k p = absurd p
is_passing (Some r) h k p =
    ⊎_elim
    (λ (b : Bit r.registers (8 + k)). bit_or_left (r.registers / 256) (bit_and r.untouched h) k (shr_bit r.registers 8 k b))
    (λ (q : Bit r.untouched k × Bit h k). bit_or_right (r.registers / 256) (bit_and r.untouched h) k (bit_and_from r.untouched h k q.0 q.1))
    p

pub passes_as : (o : Option Row) (k : ℕ) (P Q : Type 0) → (P → Q) → Passes o k P → Passes o k Q
passes_as None k P Q f p = p
passes_as (Some r) k P Q f p =
    ⊎_elim (λ (b : Bit r.registers (8 + k)). inl b) (λ (q : Bit r.untouched k × P). inr (q.0, f q.1)) p

-- a step by masks is a step
pub steps : (r : Row) (h roots behind : ℕ) → roots ≡ roots_by (Some r) [] h → behind ≡ held_by (Some r) h → Steps r h roots behind
steps r h roots behind e d = record {
  roots_are = λ ws i b. slots_are (Some r) ws h i (subst (λ m. Bit m i) e b);
  are_roots = λ ws i s. subst (λ m. Bit m i) (sym e) (are_slots (Some r) ws h i s);
  held_are = λ k b. passing_is (Some r) h k (subst (λ m. Bit m k) d b);
  are_held = λ k p. subst (λ m. Bit m k) (sym d) (is_passing (Some r) h k p);
  roots_mask = λ ws. e;
  held_mask = d;
}

-- bit i is not changed by what is added above it
high_part : (a b i : ℕ) → i < 8 → (a + 256 * b) / 2 ^ i % 2 ≡ a / 2 ^ i % 2
high_part a b i l =
    let d : ℕ = 7 - i in
    let e : suc d + i ≡ 8 = omega arith in
    let p : 2 ^ suc d * 2 ^ i ≡ 256 = sym (pow-add 2 (suc d) i) ∙ ap (λ n. 2 ^ n) e in
    let q : 256 * b ≡ b * 2 ^ suc d * 2 ^ i = mul_comm 256 b ∙ ap (λ x. b * x) (sym p) ∙ sym (mul_assoc b (2 ^ suc d) (2 ^ i)) in
    let s : (a + 256 * b) / 2 ^ i ≡ a / 2 ^ i + b * 2 ^ suc d = ap (λ x. (a + x) / 2 ^ i) q ∙ add-mul-div_right a (b * 2 ^ suc d) (pow_pos i) in
    let t : b * 2 ^ suc d ≡ b * 2 ^ d * 2 = ap (λ x. b * x) (pow-suc 2 d) ∙ sym (mul_assoc b (2 ^ d) 2) in
    ap (λ x. x % 2) (s ∙ ap (λ x. a / 2 ^ i + x) t) ∙ even (a / 2 ^ i) (b * 2 ^ d)
  where
    even : (x y : ℕ) → (x + y * 2) % 2 ≡ x % 2
    even x y = omega arith

pub low_registers : (a h i : ℕ) → i < 8 → (a % 256 + 256 * h) / 2 ^ i % 2 ≡ a / 2 ^ i % 2
low_registers a h i l =
    let e : a ≡ a % 256 + 256 * (a / 256) = omega arith in
    high_part (a % 256) h i l ∙ sym (high_part (a % 256) (a / 256) i l) ∙ ap (λ x. x / 2 ^ i % 2) (sym e)

pub high_registers : (a h j : ℕ) → (a % 256 + 256 * h) / 2 ^ (8 + j) % 2 ≡ h / 2 ^ j % 2
high_registers a h j =
    let e : (a % 256 + 256 * h) / 256 ≡ h = omega arith in
    ap (λ x. x % 2) (sym (shr-shr (a % 256 + 256 * h) 8 j) ∙ ap (λ x. x / 2 ^ j) e)

-- the registers that are roots: a scratch register by the row alone, a callee-save register by the mask
pub registers_are : (o : Option Row) (h k : ℕ) → k < 16 → Bit (registers_by o h) k → Scratch o k ⊎ ((j : ℕ) × (j < 8) × (k ≡ 8 + j) × Bit h j)
registers_are None h k l b = absurd (bit_of_zero k b)
registers_are (Some r) h k l b =
    ⊎_elim
    (λ (s : k < 8). inl (s, sym (low_registers r.registers h k s) ∙ b))
    (λ (s : 8 ≤ k).
    let e : k ≡ 8 + (k - 8) = omega arith in
    inr (k - 8, omega arith, e, sym (high_registers r.registers h (k - 8)) ∙ subst (λ n. Bit (r.registers % 256 + 256 * h) n) e b))
    (cases_lt k 8)

pub are_registers : (o : Option Row) (h k : ℕ) → (o ≡ None → h ≡ 0) → Scratch o k ⊎ ((j : ℕ) × (j < 8) × (k ≡ 8 + j) × Bit h j) → Bit (registers_by o h) k × (k < 16)
are_registers None h k z s =
    ⊎_elim
    (λ (a : ⊥). absurd a)
    (λ (q : (j : ℕ) × (j < 8) × (k ≡ 8 + j) × Bit h j). absurd (bit_of_zero q.0 (subst (λ m. Bit m q.0) (z refl) q.3)))
    s
are_registers (Some r) h k z s =
    ⊎_elim
    (λ (a : (k < 8) × Bit r.registers k). (low_registers r.registers h k a.0 ∙ a.1, let l = a.0 in omega arith))
    (λ (q : (j : ℕ) × (j < 8) × (k ≡ 8 + j) × Bit h j).
    (subst (λ n. Bit (r.registers % 256 + 256 * h) n) (sym q.2) (high_registers r.registers h q.0 ∙ q.3), let l = q.1 in let e = q.2 in omega arith))
    s
