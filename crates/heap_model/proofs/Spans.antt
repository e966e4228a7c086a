-- Where packed objects lie, and the renaming.
use Rattle.std.proofs.Common.{◌≡◌, ℕ, zero, suc, ◌+◌, ◌<◌, ◌≤◌, true, false, eqb, ◌⊎◌, List, [], ◌∷◌, ◌++◌, length, get_or, take, sym, refl, ap, ◌∙◌, subst, inl, inr, ⊎_elim, add_assoc, add-one, arith}
use Rattle.std.proofs.lemmas.Grind.{common_steps}
use Rattle.std.proofs.lemmas.Bool.{cases_eq, cases_order, eq-eqb, ne_eqb}
use Rattle.std.proofs.lemmas.List.{take-append-le, take_all, take_more, get_or_push, length_push}
use Rattle.heap_model.specs.Objects.{Space, size}
use Rattle.heap_model.specs.Live.{Member}
use Rattle.heap_model.specs.Packing.{span, packed, renamed_from, renamed, Renaming}
use Rattle.heap_model.specs.Moving.{base, Renamed}

pub span-append : (s : Space) (ps qs : List ℕ) → span s (ps ++ qs) ≡ span s ps + span s qs
unfolding span
span-append s [] qs = omega arith
span-append s (p ∷ ps) qs = omega (arith, span-append s ps qs)

pub span-push : (s : Space) (ps : List ℕ) (p : ℕ) → span s (ps ++ p ∷ []) ≡ span s ps + size s p
unfolding span
span-push s ps p = omega (arith, span-append s ps (p ∷ []))

pub span_none : (s : Space) → span s [] ≡ 0
unfolding span
span_none s = refl

pub base_all : (s : Space) (ps : List ℕ) → base s ps (length ps) ≡ span s ps
base_all s ps = ap (λ z. span s z) (take_all (length ps) ps (omega arith))

pub base_more : (s : Space) (ps : List ℕ) (k : ℕ) → k < length ps → base s ps (k + 1) ≡ base s ps k + size s (get_or ps k 0)
base_more s ps k l = ap (λ z. span s z) (take_more ps k 0 l) ∙ span-push s (take k ps) (get_or ps k 0)

pub base_rises : (s : Space) (ps : List ℕ) (k n : ℕ) → k < length ps → k < n → n ≤ length ps → base s ps k + size s (get_or ps k 0) ≤ base s ps n
base_rises s ps k zero l h g = absurd (omega arith)
base_rises s ps k (suc n) l h g =
    ⊎_elim
    (λ (e : k ≡ n). let r : base s ps (n + 1) ≡ base s ps k + size s (get_or ps k 0) = subst (λ z. base s ps (z + 1) ≡ base s ps k + size s (get_or ps k 0)) e (base_more s ps k l) in
    let f : base s ps (n + 1) ≡ base s ps (suc n) = ap (λ z. base s ps z) (add-one n) in omega (arith, r, f))
    (λ (ne : k ≡ n → ⊥).
    let r : base s ps k + size s (get_or ps k 0) ≤ base s ps n = base_rises s ps k n l (omega arith) (omega arith) in
    let q : base s ps (n + 1) ≡ base s ps n + size s (get_or ps n 0) = base_more s ps n (omega arith) in
    let f : base s ps (n + 1) ≡ base s ps (suc n) = ap (λ z. base s ps z) (add-one n) in
    omega (arith, r, q, f))
    (cases_eq k n)

pub base_ends : (s : Space) (ps : List ℕ) (k : ℕ) → k < length ps → base s ps k + size s (get_or ps k 0) ≤ span s ps
base_ends s ps k l = omega (arith, base_rises s ps k (length ps) l l (omega arith), base_all s ps)

-- an index belongs to one packed object, at one offset
pub one_packed : (s : Space) (ps : List ℕ) (k n i j : ℕ) → k < length ps → n < length ps → i < size s (get_or ps k 0) → j < size s (get_or ps n 0) → base s ps k + i ≡ base s ps n + j → k ≡ n
one_packed s ps k n i j kl nl il jl e =
    ⊎_elim
    (λ (q : k ≡ n). q)
    (λ (o : (k < n) ⊎ (n < k)).
    ⊎_elim
    (λ (l : k < n). absurd (omega (arith, base_rises s ps k n kl l (omega arith))))
    (λ (l : n < k). absurd (omega (arith, base_rises s ps n k nl l (omega arith))))
    o)
    (cases_order k n)

-- a fact of each place and its packed header, with one object more
pub push_all : (s : Space) (ps : List ℕ) (p : ℕ) (P : ℕ → ℕ → Type 0) → ((k : ℕ) → k < length ps → P (get_or ps k 0) (base s ps k)) → P p (span s ps)
    → (k : ℕ) → k < length (ps ++ p ∷ []) → P (get_or (ps ++ p ∷ []) k 0) (base s (ps ++ p ∷ []) k)
push_all s ps p P old new k l = grind (arith, common_steps)

-- what was renamed stays so with one object more
pub renamed-push : (s : Space) (ps : List ℕ) (p w v : ℕ) → Renamed s ps w v → Renamed s (ps ++ p ∷ []) w v
renamed-push s ps p w v r = grind (arith, common_steps)

pub renamed_last : (s : Space) (ps : List ℕ) (p v : ℕ) → v ≡ 1 + span s ps → Renamed s (ps ++ p ∷ []) p v
renamed_last s ps p v e =
    inr (
      length ps,
      omega (arith, length_push ps p),
      get_or_push ps p 0 (length ps) refl,
      e ∙ ap (λ z. 1 + z) (sym (ap (λ z. span s z) (take-append-le (length ps) ps (p ∷ []) (omega arith)) ∙ base_all s ps)),
    )

-- the renaming function does what `Renamed` says
abbrev Once : List ℕ → Type 0
Once ps = (i k : ℕ) → i < k → k < length ps → get_or ps i 0 ≡ get_or ps k 0 → ⊥

pub renamed_none : (s : Space) (ps : List ℕ) (at : ℕ) → ((k : ℕ) → k < length ps → 0 < get_or ps k 0) → renamed_from s at ps 0 ≡ 0
unfolding renamed_from
renamed_none s [] at some = refl
renamed_none s (p ∷ ps) at some =
    let ne : eqb 0 p ≡ false = ne_eqb 0 p (λ e. omega (arith, some 0 (omega arith))) in
    rw ne (renamed_none s ps (at + size s p) (λ k l. some (suc k) (omega arith)))

pub renamed_at : (s : Space) (ps : List ℕ) (at : ℕ) → Once ps → (k : ℕ) → k < length ps → renamed_from s at ps (get_or ps k 0) ≡ at + span s (take k ps)
unfolding renamed_from span
renamed_at s [] at once k l = absurd (omega arith)
renamed_at s (p ∷ ps) at once zero l = let y : eqb p p ≡ true = eq-eqb p p refl in rw y (omega arith)
renamed_at s (p ∷ ps) at once (suc k) l =
    let ne : eqb (get_or ps k 0) p ≡ false = ne_eqb (get_or ps k 0) p (λ e. once 0 (suc k) (omega arith) l (sym e)) in
    let r : renamed_from s (at + size s p) ps (get_or ps k 0) ≡ at + size s p + span s (take k ps) = renamed_at s ps (at + size s p) (λ i n h g. once (suc i) (suc n) (omega arith) (omega arith)) k (omega arith) in
    rw ne (r ∙ add_assoc at (size s p) (span s (take k ps)))

module _ (s : Space) (ps : List ℕ) (once : (i k : ℕ) → i < k → k < length ps → get_or ps i 0 ≡ get_or ps k 0 → ⊥) (some : (k : ℕ) → k < length ps → 0 < get_or ps k 0) where
  pub renamed_is : (w v : ℕ) → Renamed s ps w v → v ≡ renamed s ps w
  renamed_is w v r =
      ⊎_elim
      (λ (z : (w ≡ 0) × (v ≡ 0)). z.1 ∙ sym (ap (λ x. renamed s ps x) z.0 ∙ renamed_none s ps 1 some))
      (λ (m : (k : ℕ) × (k < length ps) × (get_or ps k 0 ≡ w) × (v ≡ packed s ps k)).
      m.3 ∙ sym (renamed_at s ps 1 once m.0 m.1) ∙ ap (λ x. renamed s ps x) m.2)
      r

  packed_one : (i k : ℕ) → i < length ps → k < length ps → packed s ps i ≡ packed s ps k → i ≡ k
  packed_one i k il kl e = one_packed s ps i k 0 0 il kl (omega arith) (omega arith) (omega arith)

  front : (w : ℕ) → Member w (0 ∷ ps) → (w ≡ 0) ⊎ Member w ps
  front w (zero, l, e) = inl (sym e)
  front w (suc n, l, e) = inr (n, omega arith, e)

  pub renaming_is : Renaming s ps (renamed s ps)
  renaming_is =
      let zero_at : renamed s ps 0 ≡ 0 = renamed_none s ps 1 some in
      let there : (w : ℕ) (m : Member w ps) → renamed s ps w ≡ packed s ps m.0 = λ w m. ap (λ x. renamed s ps x) (sym m.2) ∙ renamed_at s ps 1 once m.0 m.1 in
      record {
        none = zero_at;
        moves = λ k l. renamed_at s ps 1 once k l;
        one_to_one = λ v w a b e.
            ⊎_elim
            (λ (vz : v ≡ 0).
            ⊎_elim
            (λ (wz : w ≡ 0). vz ∙ sym wz)
            (λ (wm : Member w ps). absurd (omega (arith, zero_at, ap (λ x. renamed s ps x) vz, there w wm, e)))
            (front w b))
            (λ (vm : Member v ps).
            ⊎_elim
            (λ (wz : w ≡ 0). absurd (omega (arith, zero_at, ap (λ x. renamed s ps x) wz, there v vm, e)))
            (λ (wm : Member w ps).
            let q : vm.0 ≡ wm.0 = packed_one vm.0 wm.0 vm.1 wm.1 (sym (there v vm) ∙ e ∙ there w wm) in
            sym vm.2 ∙ ap (λ x. get_or ps x 0) q ∙ wm.2)
            (front w b))
            (front v a);
      }
