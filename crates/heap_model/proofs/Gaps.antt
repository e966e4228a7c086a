-- Objects lie without gaps.
use Rattle.std.proofs.Common.{◌≡◌, ℕ, zero, suc, ◌+◌, ◌<◌, ◌≤◌, Bool, true, false, ◌⊎◌, List, get_or, sym, refl, ap, ◌∙◌, subst, inl, inr, ⊎_elim, arith}
use Rattle.std.proofs.lemmas.Bool.{cases_eq, cases_order, cases_Bool}
use Rattle.heap_model.specs.Objects.{Space, size_in, Start, weigh, Tiled, Gapless}
use Rattle.heap_model.proofs.Spaces.{weigh_start}

abbrev end : Space → ℕ → ℕ
end s i = i + size_in (get_or s.words i 0)

abbrev flag : Space → ℕ → Bool
flag s i = get_or s.starts i false

weigh_skip : (t : ℕ → Bool) (ws : List ℕ) (n : ℕ) → t n ≡ false → weigh t ws (suc n) ≡ weigh t ws n
unfolding weigh
weigh_skip t ws n z = rw z (omega arith)

module _ (s : Space) (t : Tiled s) where
  -- an object that begins before another ends before it
  ends_before : (i k : ℕ) → Start s i → Start s k → i < k → end s i ≤ k
  ends_before i k a b l = grind arith

  -- objects that end by e weigh at most e
  weigh_below : (n e : ℕ) → n ≤ s.used → ((i : ℕ) → Start s i → i < n → end s i ≤ e) → weigh (flag s) s.words n ≤ e
  unfolding weigh
  weigh_below zero e l h = omega arith
  weigh_below (suc n) e l h =
      ⊎_elim
      (λ (y : flag s n ≡ true).
      let r : weigh (flag s) s.words n ≤ n = weigh_below n n (omega arith) (λ i a g. ends_before i n a (omega arith, y) g) in
      let q : end s n ≤ e = h n (omega arith, y) (omega arith) in
      omega (arith, r, q, weigh_start (flag s) s.words n (get_or s.words n 0) y refl))
      (λ (z : flag s n ≡ false).
      let r : weigh (flag s) s.words n ≤ e = weigh_below n e (omega arith) (λ i a g. h i a (omega arith)) in
      omega (arith, r, weigh_skip (flag s) s.words n z))
      (cases_Bool (flag s n))

  -- with a gap at g they weigh less
  module _ (g : ℕ) (z : flag s g ≡ false) (before : (i : ℕ) → Start s i → i < g → end s i ≤ g) where
    weigh_gap : (n e : ℕ) → g < n → n ≤ s.used → g < e → ((i : ℕ) → Start s i → i < n → end s i ≤ e) → weigh (flag s) s.words n < e
    weigh_gap zero e l m k h = absurd (omega arith)
    weigh_gap (suc n) e l m k h =
        ⊎_elim
        (λ (q : n ≡ g).
        let r : weigh (flag s) s.words n ≤ n = weigh_below n n (omega arith) (λ i a b. subst (λ x. end s i ≤ x) (sym q) (before i a (omega arith))) in
        omega (arith, r, weigh_skip (flag s) s.words n (ap (flag s) q ∙ z)))
        (λ (ne : n ≡ g → ⊥).
        ⊎_elim
        (λ (y : flag s n ≡ true).
        let r : weigh (flag s) s.words n < n = weigh_gap n n (omega arith) (omega arith) (omega arith) (λ i a b. ends_before i n a (omega arith, y) b) in
        let p : end s n ≤ e = h n (omega arith, y) (omega arith) in
        omega (arith, r, p, weigh_start (flag s) s.words n (get_or s.words n 0) y refl))
        (λ (w : flag s n ≡ false).
        let r : weigh (flag s) s.words n < e = weigh_gap n e (omega arith) (omega arith) k (λ i a b. h i a (omega arith)) in
        omega (arith, r, weigh_skip (flag s) s.words n w))
        (cases_Bool (flag s n)))
        (cases_eq n g)

    no_gap : g < s.used → ⊥
    no_gap l = omega (arith, weigh_gap s.used s.used l (omega arith) l (λ i a b. t.inside i a), t.total)

-- objects that lie apart inside the used words, and whose sizes sum to them, leave no gap
pub no_gaps : (s : Space) → Tiled s → Gapless s
no_gaps s t = (
  λ l.
      ⊎_elim
      (λ (y : flag s 0 ≡ true). (l, y))
      (λ (z : flag s 0 ≡ false). absurd (no_gap s t 0 z (λ i a g. absurd (omega arith)) l))
      (cases_Bool (flag s 0)),
  λ i a.
      ⊎_elim
      (λ (e : end s i ≡ s.used). inl e)
      (λ (ne : end s i ≡ s.used → ⊥).
      let l : end s i < s.used = omega (arith, t.inside i a) in
      ⊎_elim
      (λ (y : flag s (end s i) ≡ true). inr (l, y))
      (λ (z : flag s (end s i) ≡ false).
      absurd (no_gap s t (end s i) z (λ k b h.
      ⊎_elim
      (λ (q : k ≡ i). subst (λ x. end s x ≤ end s i) (sym q) (omega arith))
      (λ (o : (k < i) ⊎ (i < k)).
      ⊎_elim
      (λ (lt : k < i). omega (arith, ends_before s t k i b a lt))
      (λ (gt : i < k). absurd (omega (arith, ends_before s t i k a b gt)))
      o)
      (cases_order k i)) l))
      (cases_Bool (flag s (end s i))))
      (cases_eq (end s i) s.used),
)
