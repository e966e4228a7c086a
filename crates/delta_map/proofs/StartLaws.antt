-- Good starts, one more at a time.
use Rattle.std.proofs.Common.{◌≡◌, ℕ, zero, suc, ◌<◌, ◌≤◌, List, length, sym, refl, ap, subst, arith}
use Rattle.delta_image.specs.Images.{start_in, GoodStarts}
use Rattle.delta_map.specs.Starting.{NextStart}

-- `last` is the start before start k
abbrev pub Before : List ℕ → ℕ → ℕ → Type 0
Before w k last = (j : ℕ) → suc j ≡ k → last ≡ start_in w j

pub starts_more : (w : List ℕ) (k last : ℕ) → k ≤ 64 → Before w k last → GoodStarts w k → NextStart w k last → GoodStarts w (suc k)
starts_more w k last most before g n = grind arith

pub starts_next : (w : List ℕ) (k last : ℕ) → k ≤ 64 → Before w k last → GoodStarts w (suc k) → NextStart w k last
starts_next w k last most before g = record {
  whole = g.whole;
  first = λ e. subst (λ j. start_in w j ≡ 130) (sym e) (g.first (omega arith));
  rise = λ l. up k refl l;
  end = λ e. subst (λ j. start_in w j ≡ length w) (sym e) (g.last (omega arith));
}
  where
    up : (i : ℕ) → i ≡ k → 0 < i → last ≤ start_in w k
    up zero e l = absurd (omega arith)
    up (suc i) e l = let b = before i e in let r = g.rise i (omega arith) in let z = ap (λ j. start_in w j) e in omega arith
