-- The saved slots that differ are read exactly if their code stands there.
use Rattle.std.proofs.lemmas.Grind.{common_steps}
use Rattle.std.proofs.Common.{◌≡◌, ℕ, zero, suc, ◌/◌, ◌%◌, ◌^◌, ◌<◌, ◌≤◌, Bool, true, false, cond, not, eqb, List, [], ◌∷◌, ◌++◌, length, get_or, set, Some, sym, refl, ap, ◌∙◌, ⊎_elim, arith, below_more}
use Rattle.std.proofs.lemmas.List.{append_assoc, length-set, get_or-set_same, get_or-set_other, ext_get_or}
use Rattle.std.proofs.lemmas.Bool.{eqb-true, eq-eqb, not-true, not-false, not_from_false, not_from_true, cases_Bool}
use Rattle.words.proofs.BitLaws.{bit_of_zero}
use Rattle.delta_layout.specs.Codes.{moved, moved_mask, moved_slots, resaved}
use Rattle.delta_layout.specs.Parsing.{only_if, stands, byte_in, slot_in, slots_in, saved_in}
use Rattle.delta_layout.proofs.MaskLaws.{mask_bit, mask_low, mask_unique, mask_none}
use Rattle.delta_layout.proofs.ParseLaws.{then_some, if_some, then_at, if_at, same_value, same_rest, byte_sound, byte_whole}

-- the slots of the first registers tell their code
slots_same : (xs ys zs : List ℕ) (n : ℕ) → ((k : ℕ) → k < n → get_or ys k 0 ≡ get_or zs k 0) → moved_slots xs ys n ≡ moved_slots xs zs n
unfolding moved_slots
slots_same xs ys zs zero h = refl
slots_same xs ys zs (suc n) h =
    ap (λ l. l ++ cond (moved xs ys n) (get_or ys n 0 ∷ []) []) (slots_same xs ys zs n (λ k l. h k (omega arith)))
    ∙ ap (λ v. moved_slots xs zs n ++ cond (not (eqb (get_or xs n 0) v)) (v ∷ []) []) (h n (omega arith))

-- what is known of the slots ys that are read below n, by the mask m, from the slots xs
pub record Slots (m : ℕ) (xs : List ℕ) (n : ℕ) (bs ys r : List ℕ) : Type 0 where
  pub long : length ys ≡ length xs
  pub told : (k : ℕ) → k < n → stands m k ≡ moved xs ys k
  pub laid : bs ≡ moved_slots xs ys n ++ r
  pub above : (k : ℕ) → n ≤ k → get_or ys k 0 ≡ get_or xs k 0

-- what holds below n, and at n, holds below n + 1
below_next : (P : ℕ → Type 0) (n : ℕ) → ((k : ℕ) → k < n → P k) → P n → (k : ℕ) → k < suc n → P k
below_next P n f p k l = below_more P n f p k (omega arith)

-- one register more
slot_sound : (t : Bool) (m : ℕ) (xs : List ℕ) (n : ℕ) (bs zs q ys r : List ℕ) → n < length xs → Slots m xs n bs zs q → stands m n ≡ t → slot_in t n zs q ≡ Some (ys, r) → Slots m xs (suc n) bs ys r
unfolding slot_in moved_slots
slot_sound false m xs n bs zs q ys r l s e h =
    let same : zs ≡ ys = same_value zs ys q r h in
    let at : get_or ys n 0 ≡ get_or xs n 0 = ap (λ l. get_or l n 0) (sym same) ∙ s.above n (omega arith) in
    let still : moved xs ys n ≡ false = not_from_true (eqb (get_or xs n 0) (get_or ys n 0)) (eq-eqb (get_or xs n 0) (get_or ys n 0) (sym at)) in
    record {
      long = ap length (sym same) ∙ s.long;
      told = below_next (λ k. stands m k ≡ moved xs ys k) n (λ k l. s.told k l ∙ ap (λ l. moved xs l k) same) (e ∙ sym still);
      laid = s.laid ∙ ap (λ l. moved_slots xs l n ++ q) same ∙ ap (λ l. moved_slots xs ys n ++ l) (same_rest zs ys q r h)
          ∙ sym (append_assoc (moved_slots xs ys n) [] r) ∙ ap (λ b. (moved_slots xs ys n ++ cond b (get_or ys n 0 ∷ []) []) ++ r) (sym still);
      above = λ k l. ap (λ l. get_or l k 0) (sym same) ∙ s.above k (omega arith);
    }
slot_sound true m xs n bs zs q ys r l s e h =
    let t = then_some (byte_in q) (λ y r. only_if (not (eqb (get_or zs n 0) y)) (Some (set zs n y, r))) ys r h in
    let y : ℕ = t.0 in
    let u = if_some (not (eqb (get_or zs n 0) t.0)) (Some (set zs n t.0, t.1)) (ys, r) t.3 in
    let same : set zs n t.0 ≡ ys = same_value (set zs n t.0) ys t.1 r u.1 in
    let b = byte_sound q t.0 t.1 t.2 in
    let inside : n < length zs = omega (arith, s.long) in
    let at : get_or ys n 0 ≡ t.0 = ap (λ l. get_or l n 0) (sym same) ∙ get_or-set_same zs n t.0 0 inside in
    let other : (k : ℕ) → (k ≡ n → ⊥) → get_or ys k 0 ≡ get_or zs k 0 = λ k ne. ap (λ l. get_or l k 0) (sym same) ∙ get_or-set_other zs n k t.0 0 ne in
    let moves : moved xs ys n ≡ true = ap (λ v. not (eqb v (get_or ys n 0))) (sym (s.above n (omega arith))) ∙ ap (λ v. not (eqb (get_or zs n 0) v)) at ∙ u.0 in
    record {
      long = ap length (sym same) ∙ length-set zs n t.0 ∙ s.long;
      told = below_next (λ k. stands m k ≡ moved xs ys k) n
          (λ k l. s.told k l ∙ ap (λ v. not (eqb (get_or xs k 0) v)) (sym (other k (λ z. omega arith))))
          (e ∙ sym moves);
      laid = s.laid
          ∙ ap (λ l. l ++ q) (slots_same xs zs ys n (λ k l. sym (other k (λ z. omega arith))))
          ∙ ap (λ l. moved_slots xs ys n ++ l) (b.0 ∙ ap (λ l. t.0 ∷ l) (same_rest (set zs n t.0) ys t.1 r u.1) ∙ ap (λ v. v ∷ r) (sym at))
          ∙ sym (append_assoc (moved_slots xs ys n) (get_or ys n 0 ∷ []) r)
          ∙ ap (λ b. (moved_slots xs ys n ++ cond b (get_or ys n 0 ∷ []) []) ++ r) (sym moves);
      above = λ k l. other k (λ z. omega arith) ∙ s.above k (omega arith);
    }

pub slots_sound : (m : ℕ) (xs : List ℕ) (n : ℕ) (bs ys r : List ℕ) → n ≤ length xs → slots_in m xs n bs ≡ Some (ys, r) → Slots m xs n bs ys r
unfolding slots_in moved_slots
slots_sound m xs zero bs ys r l h = grind arith
slots_sound m xs (suc n) bs ys r l h =
    let t = then_some (slots_in m xs n bs) (λ zs q. slot_in (stands m n) n zs q) ys r h in
    slot_sound (stands m n) m xs n bs t.0 t.1 ys r (omega arith) (slots_sound m xs n bs t.0 t.1 (omega arith) t.2) refl t.3

-- what is known of the slots ws that are read below n on the way to ys
record Way (m : ℕ) (xs ys : List ℕ) (n : ℕ) (q ws : List ℕ) : Type 0 where
  long : length ws ≡ length xs
  new : (k : ℕ) → k < n → get_or ws k 0 ≡ get_or ys k 0
  old : (k : ℕ) → n ≤ k → get_or ws k 0 ≡ get_or xs k 0
  ran : slots_in m xs n (moved_slots xs ys n ++ q) ≡ Some (ws, q)

slot_whole : (t : Bool) (xs ys ws : List ℕ) (n : ℕ) (q : List ℕ) → moved xs ys n ≡ t → get_or ws n 0 ≡ get_or xs n 0 → get_or ys n 0 < 256 → slot_in t n ws (cond t (get_or ys n 0 ∷ []) [] ++ q) ≡ Some (cond t (set ws n (get_or ys n 0)) ws, q)
unfolding slot_in
slot_whole false xs ys ws n q e at small = refl
slot_whole true xs ys ws n q e at small = grind arith

way_next : (t : Bool) (m : ℕ) (xs ys : List ℕ) (n : ℕ) (q ws : List ℕ) → n < length xs → moved xs ys n ≡ t → stands m n ≡ t → get_or ys n 0 < 256 → Way m xs ys n (cond t (get_or ys n 0 ∷ []) [] ++ q) ws → Way m xs ys (suc n) q (cond t (set ws n (get_or ys n 0)) ws)
unfolding slots_in moved_slots
way_next t m xs ys n q ws l e st small w = record {
  long = cond_length t ∙ w.long;
  new = below_next (λ k. get_or (cond t (set ws n (get_or ys n 0)) ws) k 0 ≡ get_or ys k 0) n (λ k l. kept_at t k (λ z. omega arith) ∙ w.new k l) (put t e);
  old = λ k l. kept_at t k (λ z. omega arith) ∙ w.old k (omega arith);
  ran = ap (λ b. slots_in m xs (suc n) ((moved_slots xs ys n ++ cond b (get_or ys n 0 ∷ []) []) ++ q)) e
      ∙ ap (λ l. slots_in m xs (suc n) l) (append_assoc (moved_slots xs ys n) (cond t (get_or ys n 0 ∷ []) []) q)
      ∙ then_at (slots_in m xs n (moved_slots xs ys n ++ (cond t (get_or ys n 0 ∷ []) [] ++ q))) (λ zs r. slot_in (stands m n) n zs r) ws (cond t (get_or ys n 0 ∷ []) [] ++ q) w.ran
      ∙ ap (λ b. slot_in b n ws (cond t (get_or ys n 0 ∷ []) [] ++ q)) st
      ∙ slot_whole t xs ys ws n q e (w.old n (omega arith)) small;
}
  where
    cond_length : (b : Bool) → length (cond b (set ws n (get_or ys n 0)) ws) ≡ length ws
    cond_length true = length-set ws n (get_or ys n 0)
    cond_length false = refl

    kept_at : (b : Bool) (k : ℕ) → (k ≡ n → ⊥) → get_or (cond b (set ws n (get_or ys n 0)) ws) k 0 ≡ get_or ws k 0
    kept_at true k ne = get_or-set_other ws n k (get_or ys n 0) 0 ne
    kept_at false k ne = refl

    put : (b : Bool) → moved xs ys n ≡ b → get_or (cond b (set ws n (get_or ys n 0)) ws) n 0 ≡ get_or ys n 0
    put true h = grind (arith, common_steps)
    put false h = grind arith

way : (m : ℕ) (xs ys : List ℕ) (n : ℕ) (q : List ℕ) → n ≤ length xs → ((k : ℕ) → k < n → stands m k ≡ moved xs ys k) → ((k : ℕ) → get_or ys k 0 < 256) → (ws : List ℕ) × Way m xs ys n q ws
unfolding slots_in moved_slots
way m xs ys zero q l told small = grind arith
way m xs ys (suc n) q l told small =
    let t : Bool = moved xs ys n in
    let w = way m xs ys n (cond t (get_or ys n 0 ∷ []) [] ++ q) (omega arith) (λ k l. told k (omega arith)) small in
    (cond t (set w.0 n (get_or ys n 0)) w.0, way_next t m xs ys n q w.0 (omega arith) refl (told n (omega arith)) (small n) w.1)

pub slots_whole : (m : ℕ) (xs ys q : List ℕ) → length xs ≡ 8 → length ys ≡ 8 → ((k : ℕ) → k < 8 → stands m k ≡ moved xs ys k) → ((k : ℕ) → get_or ys k 0 < 256) → slots_in m xs 8 (moved_slots xs ys 8 ++ q) ≡ Some (ys, q)
slots_whole m xs ys q lx ly told small =
    let w = way m xs ys 8 q (omega arith) told small in
    let same : w.0 ≡ ys = ext_get_or 0 w.0 ys (w.1.long ∙ lx ∙ sym ly) (λ k l. w.1.new k (omega (arith, w.1.long))) in
    w.1.ran ∙ ap (λ l. Some (l, q)) same

-- all saved slots
pub saved_sound : (t : Bool) (xs bs ys r : List ℕ) → length xs ≡ 8 → saved_in t xs bs ≡ Some (ys, r) → (t ≡ not (eqb (moved_mask xs ys) 0)) × (bs ≡ resaved xs ys ++ r)
unfolding saved_in
saved_sound false xs bs ys r l h =
    let same : xs ≡ ys = same_value xs ys bs r h in
    let still : (k : ℕ) → k < 8 → moved xs ys k ≡ false = λ k l. not_from_true (eqb (get_or xs k 0) (get_or ys k 0)) (eq-eqb (get_or xs k 0) (get_or ys k 0) (ap (λ l. get_or l k 0) same)) in
    let e : eqb (moved_mask xs ys) 0 ≡ true = eq-eqb (moved_mask xs ys) 0 (mask_none (moved xs ys) 8 still) in
    (ap not (sym e), same_rest xs ys bs r h ∙ ap (λ b. cond b [] (moved_mask xs ys ∷ moved_slots xs ys 8) ++ r) (sym e))
saved_sound true xs bs ys r l h =
    let t = then_some (byte_in bs) (λ m r. only_if (not (eqb m 0)) (slots_in m xs 8 r)) ys r h in
    let u = if_some (not (eqb t.0 0)) (slots_in t.0 xs 8 t.1) (ys, r) t.3 in
    let b = byte_sound bs t.0 t.1 t.2 in
    let s = slots_sound t.0 xs 8 t.1 ys r (omega arith) u.1 in
    let m : t.0 ≡ moved_mask xs ys = mask_unique t.0 (moved xs ys) 8 b.1 s.told in
    let e : eqb (moved_mask xs ys) 0 ≡ false = ap (λ v. eqb v 0) (sym m) ∙ not-true (eqb t.0 0) u.0 in (
      ap not (sym e),
      b.0 ∙ ap (λ v. v ∷ t.1) m ∙ ap (λ l. moved_mask xs ys ∷ l) s.laid ∙ ap (λ b. cond b [] (moved_mask xs ys ∷ moved_slots xs ys 8) ++ r) (sym e),
    )

saved_whole_at : (b : Bool) (xs ys q : List ℕ) → eqb (moved_mask xs ys) 0 ≡ b → length xs ≡ 8 → length ys ≡ 8 → ((k : ℕ) → get_or ys k 0 < 256) → saved_in (not b) xs (cond b [] (moved_mask xs ys ∷ moved_slots xs ys 8) ++ q) ≡ Some (ys, q)
unfolding saved_in
saved_whole_at true xs ys q e lx ly small =
    let zero_mask : moved_mask xs ys ≡ 0 = eqb-true (moved_mask xs ys) 0 e in
    let at : (k : ℕ) → k < 8 → get_or xs k 0 ≡ get_or ys k 0 = λ k l.
    ⊎_elim
    (λ (m : moved xs ys k ≡ true). absurd (bit_of_zero k (eqb-true (0 / 2 ^ k % 2) 1 (ap (λ v. stands v k) (sym zero_mask) ∙ mask_bit (moved xs ys) 8 k l ∙ m))))
    (λ (m : moved xs ys k ≡ false). eqb-true (get_or xs k 0) (get_or ys k 0) (not-false (eqb (get_or xs k 0) (get_or ys k 0)) m))
    (cases_Bool (moved xs ys k)) in
    ap (λ l. Some (l, q)) (ext_get_or 0 xs ys (lx ∙ sym ly) (λ k l. at k (omega arith)))
saved_whole_at false xs ys q e lx ly small =
    let m : ℕ = moved_mask xs ys in
    then_at (byte_in (m ∷ (moved_slots xs ys 8 ++ q))) (λ m r. only_if (not (eqb m 0)) (slots_in m xs 8 r)) m (moved_slots xs ys 8 ++ q) (byte_whole m (moved_slots xs ys 8 ++ q) (mask_low (moved xs ys) 8))
    ∙ if_at (not (eqb m 0)) (slots_in m xs 8 (moved_slots xs ys 8 ++ q)) (not_from_false (eqb m 0) e)
    ∙ slots_whole m xs ys q lx ly (λ k l. mask_bit (moved xs ys) 8 k l) small

pub saved_whole : (xs ys q : List ℕ) → length xs ≡ 8 → length ys ≡ 8 → ((k : ℕ) → get_or ys k 0 < 256) → saved_in (not (eqb (moved_mask xs ys) 0)) xs (resaved xs ys ++ q) ≡ Some (ys, q)
saved_whole xs ys q lx ly small = saved_whole_at (eqb (moved_mask xs ys) 0) xs ys q refl lx ly small

-- reading keeps the number of registers
slot_length : (b : Bool) (k : ℕ) (zs bs ys r : List ℕ) → slot_in b k zs bs ≡ Some (ys, r) → length ys ≡ length zs
unfolding slot_in
slot_length false k zs bs ys r h = ap length (sym (same_value zs ys bs r h))
slot_length true k zs bs ys r h = grind (arith, common_steps)

slots_length : (m : ℕ) (xs : List ℕ) (n : ℕ) (bs ys r : List ℕ) → slots_in m xs n bs ≡ Some (ys, r) → length ys ≡ length xs
unfolding slots_in
slots_length m xs zero bs ys r h = ap length (sym (same_value xs ys bs r h))
slots_length m xs (suc n) bs ys r h =
    let t = then_some (slots_in m xs n bs) (λ zs q. slot_in (stands m n) n zs q) ys r h in
    slot_length (stands m n) n t.0 t.1 ys r t.3 ∙ slots_length m xs n bs t.0 t.1 t.2

pub saved_length : (b : Bool) (xs bs ys r : List ℕ) → saved_in b xs bs ≡ Some (ys, r) → length ys ≡ length xs
unfolding saved_in
saved_length false xs bs ys r h = ap length (sym (same_value xs ys bs r h))
saved_length true xs bs ys r h =
    let t = then_some (byte_in bs) (λ m r. only_if (not (eqb m 0)) (slots_in m xs 8 r)) ys r h in
    let u = if_some (not (eqb t.0 0)) (slots_in t.0 xs 8 t.1) (ys, r) t.3 in
    slots_length t.0 xs 8 t.1 ys r u.1
