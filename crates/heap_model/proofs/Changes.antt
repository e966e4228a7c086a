-- A space stays sound when an object is made and when a field is stored.
use Rattle.std.proofs.Common.{◌≡◌, ℕ, ◌+◌, ◌<◌, Bool, List, length, get_or, set, sym, ap, ◌∙◌, subst, ⊎_elim, arith}
use Rattle.std.proofs.lemmas.Grind.{common_steps}
use Rattle.std.proofs.lemmas.Bool.{cases_eq}
use Rattle.std.proofs.lemmas.List.{get_or-set_same, get_or-set_other}
use Rattle.heap_model.specs.Objects.{Space, space, refs_in, plain_in, Start, Pointer, weigh, Tiled, Sound}
use Rattle.heap_model.proofs.Spaces.{one_object, tiled_kept, Appended, appended_starts, appended_old, tiled_appended}

-- what a pointer field of a sound space holds
pub pointer_at : (s : Space) → Sound s → (i j : ℕ) → Start s i → j < refs_in (get_or s.words i 0) → Pointer s (get_or s.words (i + 1 + j) 0)
pointer_at s p i j a l = λ g. (g, (omega (arith, p.near i j (a, l)), p.closed i j (a, l, g)))

-- a tiled space whose pointer fields are pointers is sound
pub sound_from : (s : Space) → Tiled s → ((i j : ℕ) → Start s i → j < refs_in (get_or s.words i 0) → Pointer s (get_or s.words (i + 1 + j) 0)) → Sound s
sound_from s t f =
    record {
      tiled = t;
      near = λ i j a.
          ⊎_elim
          (λ (z : get_or s.words (i + 1 + j) 0 ≡ 0). omega arith)
          (λ (n : get_or s.words (i + 1 + j) 0 ≡ 0 → ⊥). omega (arith, (f i j a.0 a.1 (omega arith)).1.0))
          (cases_eq (get_or s.words (i + 1 + j) 0) 0);
      closed = λ i j a. (f i j a.0 a.1 a.2).1.1;
    }

-- an object with fields 0 is appended
pub sound_made : (s t : Space) (h : ℕ) → Appended s t h → ((i : ℕ) → s.used < i → i < t.used → get_or t.words i 0 ≡ 0) → Sound s → Sound t
sound_made s t h a zeros p =
    sound_from t (tiled_appended s t h a p.tiled) (λ i j b l.
    ⊎_elim
    (λ (o : Start s i).
    let e : get_or t.words i 0 ≡ get_or s.words i 0 = a.same i o.0 in
    let m : j < refs_in (get_or s.words i 0) = subst (λ x. j < refs_in x) e l in
    let inn : i + 1 + j < s.used = omega (arith, p.tiled.inside i o) in
    let f : get_or t.words (i + 1 + j) 0 ≡ get_or s.words (i + 1 + j) 0 = a.same (i + 1 + j) inn in
    subst (λ x. Pointer t x) (sym f) (λ g. (g, appended_old s t h a _ (pointer_at s p i j o m g).1)))
    (λ (e : i ≡ s.used).
    let f : get_or t.words i 0 ≡ h = ap (λ x. get_or t.words x 0) e ∙ a.head in
    let m : j < refs_in h = subst (λ x. j < refs_in x) f l in
    let z : get_or t.words (i + 1 + j) 0 ≡ 0 = zeros (i + 1 + j) (omega arith) (omega (arith, a.grown)) in
    λ g. absurd (omega (arith, z)))
    (appended_starts s t h a i b))

module _ (s : Space) (p : Sound s) (i j w : ℕ) (a : Start s i) (l : j < refs_in (get_or s.words i 0) + plain_in (get_or s.words i 0))
    (x : ℕ) (at : x ≡ i + 1 + j) where
  -- a stored field is no header
  pub headers_kept : (k : ℕ) → Start s k → get_or (set s.words x w) k 0 ≡ get_or s.words k 0
  headers_kept k b = grind (arith, common_steps)

  pub sound_stored : x < length s.words → (j < refs_in (get_or s.words i 0) → Pointer s w) → Sound (space (set s.words x w) s.starts s.used)
  sound_stored within good =
      let t : Space = space (set s.words x w) s.starts s.used in
      sound_from t (tiled_kept s (set s.words x w) p.tiled headers_kept) (λ k n b m.
      let m' : n < refs_in (get_or s.words k 0) = subst (λ y. n < refs_in y) (headers_kept k b) m in
      ⊎_elim
      (λ (e : k + 1 + n ≡ x).
      let one : i ≡ k = one_object s p.tiled i k x a b (omega arith) (omega arith) (omega arith) (omega arith) in
      let j' : j < refs_in (get_or s.words i 0) = subst (λ y. j < refs_in (get_or s.words y 0)) (sym one) (omega arith) in
      let v : get_or (set s.words x w) (k + 1 + n) 0 ≡ w = ap (λ y. get_or (set s.words x w) y 0) e ∙ get_or-set_same s.words x w 0 within in
      subst (λ y. Pointer t y) (sym v) (good j'))
      (λ (ne : k + 1 + n ≡ x → ⊥).
      subst (λ y. Pointer t y) (sym (get_or-set_other s.words x (k + 1 + n) w 0 ne)) (pointer_at s p k n b m'))
      (cases_eq (k + 1 + n) x))

-- a space with nothing in it
pub sound_none : (ws : List ℕ) (ms : List Bool) → Sound (space ws ms 0)
unfolding weigh
sound_none ws ms = grind arith
