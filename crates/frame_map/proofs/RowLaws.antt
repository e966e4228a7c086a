-- The tests of a row's masks, by what they compute.
use Rattle.std.proofs.Common.{◌≡◌, ℕ, ◌+◌, ◌*◌, ◌/◌, ◌%◌, ◌^◌, ◌<◌, ◌≤◌, min, ◌⊎◌, length, sym, ap, subst, inl, inr, ⊎_elim, arith}
use lib.Bits.{bit_and, bit_or}
use Rattle.std.proofs.lemmas.Nat.{pow_pos, div-add-mod'}
use Rattle.std.proofs.lemmas.Bool.{cases_eq, cases_lt}
use Rattle.std.proofs.lemmas.List.{get_or_past}
use borrow.Author.Count.{below_more}
use Rattle.words.specs.Bits.{Bit}
use Rattle.words.proofs.BitLaws.{bit_below, bits_below, bit_put_same, bit_put_kept, bit_put_other, bit_and_from, bit_and_left, bit_and_right, no_bits, bit_of_zero, bit_shr, shr_bit, bit_low}
use Rattle.frame_map.specs.Rows.{Slot, Slotted, Masked, Saved, saved_slot}
use Rattle.frame_map.specs.Taking.{Untakable}
use Rattle.frame_map.specs.declared.row.Row.{Row}

pub disjoint_from : (r : Row) → bit_and (r.registers / 256) r.untouched ≡ 0 → (k : ℕ) → Bit r.registers (8 + k) → Bit r.untouched k → ⊥
disjoint_from r e k p q = bit_of_zero k (subst (λ x. Bit x k) e (bit_and_from (r.registers / 256) r.untouched k (shr_bit r.registers 8 k p) q))

pub disjoint_to : (r : Row) → Masked r → bit_and (r.registers / 256) r.untouched ≡ 0
disjoint_to r d =
    no_bits (bit_and (r.registers / 256) r.untouched)
    (λ i b. d.disjoint i (bit_shr r.registers 8 i (bit_and_left (r.registers / 256) r.untouched i b)) (bit_and_right (r.registers / 256) r.untouched i b))

-- no bit 0, and nothing from the size on
pub slotted_from : (r : Row) (n : ℕ) → n ≤ r.size → (r.slots % 2 ≡ 1 → ⊥) → r.slots / 2 ^ n ≡ 0 → Slotted r
slotted_from r n l even z i b =
    let small : r.slots < 2 ^ n = omega (arith, div-add-mod' r.slots (2 ^ n), pow_pos n, ap (λ x. x * 2 ^ n) z) in
    ⊎_elim
    (λ (e : i ≡ 0). absurd (even (bit_low r.slots (subst (λ x. Bit r.slots x) e b))))
    (λ (e : i ≡ 0 → ⊥).
    ⊎_elim
    (λ (below : i < n). (omega arith, omega arith))
    (λ (above : n ≤ i). absurd (bit_below r.slots i n small above b))
    (cases_lt i n))
    (cases_eq i 0)

pub slotted_to : (r : Row) → r.slots < 2 ^ 32 → Slotted r → r.slots / 2 ^ min r.size 32 ≡ 0
slotted_to r fits s =
    bits_below r.slots (min r.size 32)
    (λ i b.
    ⊎_elim
    (λ (below : i < 32). let t : i < r.size = (s i b).1 in omega arith)
    (λ (above : 32 ≤ i). absurd (bit_below r.slots i 32 fits above b))
    (cases_lt i 32))

-- the saved slots of the first k registers keep the rules, and what is taken are the pointer slots and these
pub record Fair (r : Row) (k taken : ℕ) : Type 0 where
  pub inside : (j : ℕ) → j < k → 0 < saved_slot r j → Slot r (saved_slot r j)
  pub apart : (i j : ℕ) → i < j → j < k → 0 < saved_slot r j → saved_slot r i ≡ saved_slot r j → ⊥
  pub plain : (j : ℕ) → j < k → 0 < saved_slot r j → Bit r.slots (saved_slot r j) → ⊥
  pub has_slots : (b : ℕ) → Bit r.slots b → Bit taken b
  pub has_saved : (j : ℕ) → j < k → 0 < saved_slot r j → Bit taken (saved_slot r j)
  pub only : (b : ℕ) → Bit taken b → Bit r.slots b ⊎ ((j : ℕ) × (j < k) × (saved_slot r j ≡ b))

pub fair_none : (r : Row) → Fair r 0 r.slots
fair_none r = record {
  inside = λ j l. absurd (omega arith);
  apart = λ i j h l. absurd (omega arith);
  plain = λ j l. absurd (omega arith);
  has_slots = λ b h. h;
  has_saved = λ j l. absurd (omega arith);
  only = λ b h. inl h;
}

pub fair_skip : (r : Row) (k taken : ℕ) → Fair r k taken → saved_slot r k ≡ 0 → Fair r (k + 1) taken
fair_skip r k taken f z = record {
  inside = below_more (λ j. 0 < saved_slot r j → Slot r (saved_slot r j)) k f.inside (λ p. absurd (omega arith));
  apart = λ i j h l. below_more (λ j. i < j → 0 < saved_slot r j → saved_slot r i ≡ saved_slot r j → ⊥) k (λ j l h. f.apart i j h l) (λ h p. absurd (omega arith)) j l h;
  plain = below_more (λ j. 0 < saved_slot r j → Bit r.slots (saved_slot r j) → ⊥) k f.plain (λ p. absurd (omega arith));
  has_slots = f.has_slots;
  has_saved = below_more (λ j. 0 < saved_slot r j → Bit taken (saved_slot r j)) k f.has_saved (λ p. absurd (omega arith));
  only = λ b h. ⊎_elim (λ (s : Bit r.slots b). inl s) (λ (s : (j : ℕ) × (j < k) × (saved_slot r j ≡ b)). inr (s.0, omega arith, s.2)) (f.only b h);
}

pub fair_take : (r : Row) (k taken : ℕ) → Fair r k taken → 0 < saved_slot r k → saved_slot r k < r.size → (Bit taken (saved_slot r k) → ⊥) → Fair r (k + 1) (bit_or taken (2 ^ saved_slot r k))
fair_take r k taken f pos small free = record {
  inside = below_more (λ j. 0 < saved_slot r j → Slot r (saved_slot r j)) k f.inside (λ p. (p, small));
  apart = λ i j h l. below_more (λ j. i < j → 0 < saved_slot r j → saved_slot r i ≡ saved_slot r j → ⊥) k (λ j l h. f.apart i j h l)
      (λ h p e. free (subst (λ x. Bit taken x) e (f.has_saved i h (omega arith)))) j l h;
  plain = below_more (λ j. 0 < saved_slot r j → Bit r.slots (saved_slot r j) → ⊥) k f.plain (λ p b. free (f.has_slots (saved_slot r k) b));
  has_slots = λ b h. bit_put_kept taken (saved_slot r k) b (f.has_slots b h);
  has_saved = below_more (λ j. 0 < saved_slot r j → Bit (bit_or taken (2 ^ saved_slot r k)) (saved_slot r j)) k
      (λ j l p. bit_put_kept taken (saved_slot r k) (saved_slot r j) (f.has_saved j l p))
      (λ p. bit_put_same taken (saved_slot r k));
  only = λ b h.
      ⊎_elim
      (λ (e : b ≡ saved_slot r k). inr (k, omega arith, sym e))
      (λ (ne : b ≡ saved_slot r k → ⊥).
      ⊎_elim (λ (s : Bit r.slots b). inl s) (λ (s : (j : ℕ) × (j < k) × (saved_slot r j ≡ b)). inr (s.0, omega arith, s.2))
      (f.only b (bit_put_other taken (saved_slot r k) b ne h)))
      (cases_eq b (saved_slot r k));
}

-- a saved slot that is no slot, or is taken, breaks the rules
pub unfair : (r : Row) (k taken : ℕ) → Fair r k taken → Untakable r taken (saved_slot r k) → Saved r → ⊥
unfair r k taken f u s =
    ⊎_elim
    (λ (big : r.size ≤ saved_slot r k). let h : saved_slot r k < r.size = (s.inside k u.0).1 in omega arith)
    (λ (b : Bit taken (saved_slot r k)).
    ⊎_elim
    (λ (p : Bit r.slots (saved_slot r k)). s.plain k u.0 p)
    (λ (p : (j : ℕ) × (j < k) × (saved_slot r j ≡ saved_slot r k)). s.apart p.0 k p.1 u.0 p.2)
    (f.only (saved_slot r k) b))
    u.1

pub saved_from : (r : Row) (taken : ℕ) → length r.saved ≡ 8 → Fair r 8 taken → Saved r
saved_from r taken eight f = record {
  eight = eight;
  inside = λ k p. ⊎_elim (λ (l : k < 8). f.inside k l p) (λ (l : 8 ≤ k). absurd (past k l p)) (cases_lt k 8);
  apart = λ j k h p. ⊎_elim (λ (l : k < 8). f.apart j k h l p) (λ (l : 8 ≤ k). absurd (past k l p)) (cases_lt k 8);
  plain = λ k p. ⊎_elim (λ (l : k < 8). f.plain k l p) (λ (l : 8 ≤ k). absurd (past k l p)) (cases_lt k 8);
}
  where
    past : (k : ℕ) → 8 ≤ k → 0 < saved_slot r k → ⊥
    past k l p = omega (arith, get_or_past r.saved k 0 (omega arith))
