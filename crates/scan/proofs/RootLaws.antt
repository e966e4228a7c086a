-- The scan by masks lists the roots.
use Rattle.std.proofs.Common.{◌≡◌, ℕ, zero, suc, ◌+◌, ◌<◌, ◌≤◌, true, false, cond, List, [], ◌∷◌, length, None, sym, refl, ap, ◌∙◌, subst, inl, inr, ⊎_elim, arith}
use Rattle.std.proofs.lemmas.List.{length-append}
use Rattle.std.proofs.lemmas.Bool.{cases_Bool, cases_lt, cond-true, cond-false, cond_both}
use Rattle.words.specs.Bits.{Bit}
use Rattle.words.proofs.BitLaws.{bit_of_zero}
use Rattle.frame_map.specs.Maps.{Rows}
use Rattle.scan.specs.Frames.{Frame, size, top}
use Rattle.scan.specs.Roots.{Held, RegisterRoot, Root, RootList, Scratch, SlotRoot, StackRoot}
use Rattle.scan.specs.Masks.{bit, codes, held, held_by, registers_by, root_codes, roots_by, stack_codes}
use Rattle.scan.proofs.MaskLaws.{are_registers, are_slots, bit_true, is_passing, passes_as, passing_is, registers_are, slot_root_as, slots_are, true_bit}
use Rattle.scan.proofs.Members.{In, Rises, determined, in_cases, in_left, in_member, in_right, member_in, rises_append, rises_from, rises_pairs}

-- the mask of the callee-save registers that hold pointers
pub held_is : (rows : Rows) (p : ℕ) (fs : List Frame) (k : ℕ) → Bit (held rows p fs) k → Held rows p fs k
unfolding held Held
held_is rows p [] k b = absurd (bit_of_zero k b)
held_is rows p (f ∷ fs) k b =
    passes_as (rows p) k (Bit (held rows f.back fs) k) (Held rows f.back fs k) (held_is rows f.back fs k) (passing_is (rows p) (held rows f.back fs) k b)

pub is_held : (rows : Rows) (p : ℕ) (fs : List Frame) (k : ℕ) → Held rows p fs k → Bit (held rows p fs) k
unfolding held Held
is_held rows p [] k h = absurd h
is_held rows p (f ∷ fs) k h =
    is_passing (rows p) (held rows f.back fs) k (passes_as (rows p) k (Held rows f.back fs k) (Bit (held rows f.back fs) k) (is_held rows f.back fs k) h)

-- the codes of a mask
pub codes_are : (base mask n c : ℕ) → In c (codes base mask n) → (i : ℕ) × (i < n) × (c ≡ base + i) × Bit mask i
unfolding codes
codes_are base mask zero c h = absurd h
codes_are base mask (suc n) c h =
    ⊎_elim
    (λ (before : In c (codes base mask n)). let s = codes_are base mask n c before in (s.0, omega arith, s.2, s.3))
    (λ (last : In c (cond (bit mask n) ((base + n) ∷ []) [])).
    ⊎_elim
    (λ (t : bit mask n ≡ true).
    ⊎_elim
    (λ (e : c ≡ base + n). (n, omega arith, e, bit_true mask n t))
    (λ (z : ⊥). absurd z)
    (subst (λ l. In c l) (cond-true (bit mask n) ((base + n) ∷ []) [] t) last))
    (λ (t : bit mask n ≡ false). absurd (subst (λ l. In c l) (cond-false (bit mask n) ((base + n) ∷ []) [] t) last))
    (cases_Bool (bit mask n)))
    (in_cases c (codes base mask n) (cond (bit mask n) ((base + n) ∷ []) []) h)

pub are_codes : (base mask n c : ℕ) → (i : ℕ) × (i < n) × (c ≡ base + i) × Bit mask i → In c (codes base mask n)
unfolding codes
are_codes base mask zero c s = absurd (let l = s.1 in omega arith)
are_codes base mask (suc n) c s =
    ⊎_elim
    (λ (l : s.0 < n). in_left c (codes base mask n) (cond (bit mask n) ((base + n) ∷ []) []) (are_codes base mask n c (s.0, l, s.2, s.3)))
    (λ (l : n ≤ s.0).
    let m = s.1 in
    let e : s.0 ≡ n = omega arith in
    let here : In c ((base + n) ∷ []) = inl (s.2 ∙ ap (λ i. base + i) e) in
    in_right c (codes base mask n) (cond (bit mask n) ((base + n) ∷ []) [])
    (subst (λ l. In c l) (sym (cond-true (bit mask n) ((base + n) ∷ []) [] (true_bit mask n (subst (λ i. Bit mask i) e s.3)))) here))
    (cases_lt s.0 n)

one_rises : (base mask n : ℕ) → Rises (base + n) (cond (bit mask n) ((base + n) ∷ []) [])
one_rises base mask n = cond_both (bit mask n) ((base + n) ∷ []) [] (λ l. Rises (base + n) l) (λ e. (omega arith, tt)) (λ e. tt)

pub codes_rise : (base mask n : ℕ) → Rises base (codes base mask n)
unfolding codes
codes_rise base mask zero = tt
codes_rise base mask (suc n) =
    rises_append base (base + n) (codes base mask n) (cond (bit mask n) ((base + n) ∷ []) []) (omega arith) (codes_rise base mask n)
    (λ c i. let s = codes_are base mask n c i in let e = s.2 in let l = s.1 in omega arith)
    (one_rises base mask n)

pub length-codes : (base mask n : ℕ) → length (codes base mask n) ≤ n
unfolding codes
length-codes base mask zero = omega arith
length-codes base mask (suc n) =
    omega (
      arith,
      length-codes base mask n,
      length-append (codes base mask n) (cond (bit mask n) ((base + n) ∷ []) []),
      cond_both (bit mask n) ((base + n) ∷ []) [] (λ l. length l ≤ 1) (λ e. omega arith) (λ e. omega arith),
    )

-- the roots in the stack
pub stack_below : (rows : Rows) (p : ℕ) (fs : List Frame) (c : ℕ) → StackRoot rows p fs c → c < top fs
unfolding StackRoot top
stack_below rows p [] c s = absurd s
stack_below rows p (f ∷ fs) c s =
    ⊎_elim
    (λ (older : StackRoot rows f.back fs c). let l = stack_below rows f.back fs c older in omega arith)
    (λ (own : (i : ℕ) × (i < size f) × (c ≡ top fs + i) × SlotRoot (rows p) f.slots (Held rows f.back fs) i). let e = own.2 in let l = own.1 in omega arith)
    s

pub stack_codes_are : (rows : Rows) (p : ℕ) (fs : List Frame) (c : ℕ) → In c (stack_codes rows p fs) → StackRoot rows p fs c
unfolding stack_codes StackRoot
stack_codes_are rows p [] c i = absurd i
stack_codes_are rows p (f ∷ fs) c i =
    ⊎_elim
    (λ (older : In c (stack_codes rows f.back fs)). inl (stack_codes_are rows f.back fs c older))
    (λ (own : In c (codes (top fs) (roots_by (rows p) f.slots (held rows f.back fs)) (size f))).
    let s = codes_are (top fs) (roots_by (rows p) f.slots (held rows f.back fs)) (size f) c own in
    inr (
      s.0,
      s.1,
      s.2,
      slot_root_as (rows p) f.slots (λ k. Bit (held rows f.back fs) k) (Held rows f.back fs) s.0 (held_is rows f.back fs)
          (slots_are (rows p) f.slots (held rows f.back fs) s.0 s.3),
    ))
    (in_cases c (stack_codes rows f.back fs) (codes (top fs) (roots_by (rows p) f.slots (held rows f.back fs)) (size f)) i)

pub are_stack_codes : (rows : Rows) (p : ℕ) (fs : List Frame) (c : ℕ) → StackRoot rows p fs c → In c (stack_codes rows p fs)
unfolding stack_codes StackRoot
are_stack_codes rows p [] c s = absurd s
are_stack_codes rows p (f ∷ fs) c s =
    let own_codes : List ℕ = codes (top fs) (roots_by (rows p) f.slots (held rows f.back fs)) (size f) in
    ⊎_elim
    (λ (older : StackRoot rows f.back fs c). in_left c (stack_codes rows f.back fs) own_codes (are_stack_codes rows f.back fs c older))
    (λ (own : (i : ℕ) × (i < size f) × (c ≡ top fs + i) × SlotRoot (rows p) f.slots (Held rows f.back fs) i).
    in_right c (stack_codes rows f.back fs) own_codes
    (are_codes (top fs) (roots_by (rows p) f.slots (held rows f.back fs)) (size f) c (
      own.0,
      own.1,
      own.2,
      are_slots (rows p) f.slots (held rows f.back fs) own.0
          (slot_root_as (rows p) f.slots (Held rows f.back fs) (λ k. Bit (held rows f.back fs) k) own.0 (is_held rows f.back fs) own.3),
    )))
    s

pub stack_codes_rise : (rows : Rows) (p : ℕ) (fs : List Frame) → Rises 0 (stack_codes rows p fs)
unfolding stack_codes
stack_codes_rise rows p [] = tt
stack_codes_rise rows p (f ∷ fs) =
    rises_append 0 (top fs) (stack_codes rows f.back fs) (codes (top fs) (roots_by (rows p) f.slots (held rows f.back fs)) (size f)) (omega arith)
    (stack_codes_rise rows f.back fs)
    (λ c i. stack_below rows f.back fs c (stack_codes_are rows f.back fs c i))
    (codes_rise (top fs) (roots_by (rows p) f.slots (held rows f.back fs)) (size f))

pub length-stack_codes : (rows : Rows) (p : ℕ) (fs : List Frame) → length (stack_codes rows p fs) ≤ top fs
unfolding stack_codes top
length-stack_codes rows p [] = omega arith
length-stack_codes rows p (f ∷ fs) =
    let own_codes : List ℕ = codes (top fs) (roots_by (rows p) f.slots (held rows f.back fs)) (size f) in
    omega (arith, length-append (stack_codes rows f.back fs) own_codes, length-stack_codes rows f.back fs, length-codes (top fs) (roots_by (rows p) f.slots (held rows f.back fs)) (size f))

-- where no row is known no register is held
none_held : (rows : Rows) (p : ℕ) (fs : List Frame) → rows p ≡ None → held rows p fs ≡ 0
unfolding held
none_held rows p [] e = refl
none_held rows p (f ∷ fs) e = ap (λ o. held_by o (held rows f.back fs)) e

-- the registers that are roots
pub register_codes_are : (rows : Rows) (p : ℕ) (fs : List Frame) (k : ℕ) → k < 16 → Bit (registers_by (rows p) (held rows p fs)) k → RegisterRoot rows p fs k
register_codes_are rows p fs k l b =
    ⊎_elim
    (λ (s : Scratch (rows p) k). inl s)
    (λ (q : (j : ℕ) × (j < 8) × (k ≡ 8 + j) × Bit (held rows p fs) j). inr (q.0, q.1, q.2, held_is rows p fs q.0 q.3))
    (registers_are (rows p) (held rows p fs) k l b)

pub are_register_codes : (rows : Rows) (p : ℕ) (fs : List Frame) (k : ℕ) → RegisterRoot rows p fs k → Bit (registers_by (rows p) (held rows p fs)) k × (k < 16)
are_register_codes rows p fs k r =
    are_registers (rows p) (held rows p fs) k (none_held rows p fs)
    (⊎_elim
    (λ (s : Scratch (rows p) k). inl s)
    (λ (q : (j : ℕ) × (j < 8) × (k ≡ 8 + j) × Held rows p fs j). inr (q.0, q.1, q.2, is_held rows p fs q.0 q.3))
    r)

-- all roots
pub root_codes_are : (rows : Rows) (p : ℕ) (fs : List Frame) (c : ℕ) → In c (root_codes rows p fs) → Root rows p fs c
unfolding root_codes
root_codes_are rows p fs c i =
    ⊎_elim
    (λ (s : In c (stack_codes rows p fs)). inl (stack_codes_are rows p fs c s))
    (λ (r : In c (codes 65536 (registers_by (rows p) (held rows p fs)) 16)).
    let s = codes_are 65536 (registers_by (rows p) (held rows p fs)) 16 c r in
    inr (s.0, s.2, register_codes_are rows p fs s.0 s.1 s.3))
    (in_cases c (stack_codes rows p fs) (codes 65536 (registers_by (rows p) (held rows p fs)) 16) i)

pub are_root_codes : (rows : Rows) (p : ℕ) (fs : List Frame) (c : ℕ) → Root rows p fs c → In c (root_codes rows p fs)
unfolding root_codes
are_root_codes rows p fs c r =
    ⊎_elim
    (λ (s : StackRoot rows p fs c). in_left c (stack_codes rows p fs) (codes 65536 (registers_by (rows p) (held rows p fs)) 16) (are_stack_codes rows p fs c s))
    (λ (q : (k : ℕ) × (c ≡ 65536 + k) × RegisterRoot rows p fs k).
    let b = are_register_codes rows p fs q.0 q.2 in
    in_right c (stack_codes rows p fs) (codes 65536 (registers_by (rows p) (held rows p fs)) 16)
    (are_codes 65536 (registers_by (rows p) (held rows p fs)) 16 c (q.0, b.1, q.1, b.0)))
    r

pub root_codes_rise : (rows : Rows) (p : ℕ) (fs : List Frame) → top fs ≤ 65536 → Rises 0 (root_codes rows p fs)
unfolding root_codes
root_codes_rise rows p fs l =
    rises_append 0 65536 (stack_codes rows p fs) (codes 65536 (registers_by (rows p) (held rows p fs)) 16) (omega arith)
    (stack_codes_rise rows p fs)
    (λ c i. let b = stack_below rows p fs c (stack_codes_are rows p fs c i) in omega arith)
    (codes_rise 65536 (registers_by (rows p) (held rows p fs)) 16)

pub length-root_codes : (rows : Rows) (p : ℕ) (fs : List Frame) → length (root_codes rows p fs) ≤ top fs + 16
unfolding root_codes
length-root_codes rows p fs =
    omega (arith, length-append (stack_codes rows p fs) (codes 65536 (registers_by (rows p) (held rows p fs)) 16), length-stack_codes rows p fs, length-codes 65536 (registers_by (rows p) (held rows p fs)) 16)

-- the scan's list is the list of all roots
pub root_codes_list : (rows : Rows) (p : ℕ) (fs : List Frame) → top fs ≤ 65536 → RootList rows p fs (root_codes rows p fs)
root_codes_list rows p fs l = record {
  rises = rises_pairs 0 (root_codes rows p fs) (root_codes_rise rows p fs l);
  sound = λ c m. root_codes_are rows p fs c (member_in c (root_codes rows p fs) m);
  whole = λ c r. in_member c (root_codes rows p fs) (are_root_codes rows p fs c r);
}

-- and there is no other
pub only_root_list : (rows : Rows) (p : ℕ) (fs : List Frame) (xs ys : List ℕ) → RootList rows p fs xs → RootList rows p fs ys → xs ≡ ys
only_root_list rows p fs xs ys a b =
    determined 0 0 xs ys (rises_from 0 xs (λ i l. omega arith) a.rises) (rises_from 0 ys (λ i l. omega arith) b.rises)
    (λ c i. member_in c ys (b.whole c (a.sound c (in_member c xs i))))
    (λ c i. member_in c xs (a.whole c (b.sound c (in_member c ys i))))
