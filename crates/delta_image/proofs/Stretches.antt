-- Parts of an image.
use Rattle.std.proofs.lemmas.Grind.{common_steps}
use Rattle.std.proofs.Common.{◌≡◌, ℕ, ◌+◌, ◌-◌, ◌≤◌, List, [], ◌++◌, length, take, drop, sym, ap, ◌∙◌, arith}
use Rattle.std.proofs.lemmas.List.{drop-drop}
use Rattle.std.proofs.Math.Seq.{take-add}
use Rattle.delta_image.specs.Images.{stretch}

pub stretch-length : (w : List ℕ) (a b : ℕ) → b ≤ length w → length (stretch w a b) ≡ b - a
stretch-length w a b l = grind (arith, common_steps)

pub stretch_join : (w : List ℕ) (a b c : ℕ) → a ≤ b → b ≤ c → stretch w a b ++ stretch w b c ≡ stretch w a c
stretch_join w a b c l m =
    let e : drop b w ≡ drop (b - a) (drop a w) = ap (λ n. drop n w) (let z : b ≡ a + (b - a) = omega arith in z) ∙ sym (drop-drop (b - a) a w) in
    ap (λ l. stretch w a b ++ take (c - b) l) e
    ∙ sym (take-add (b - a) (c - b) (drop a w))
    ∙ ap (λ n. take n (drop a w)) (let z : (b - a) + (c - b) ≡ c - a = omega arith in z)

pub stretch_none : (w : List ℕ) (a : ℕ) → stretch w a a ≡ []
stretch_none w a = grind arith

-- the part of a list that is put together from three
pub stretch_middle : (p x q : List ℕ) (a b : ℕ) → length p ≡ a → a + length x ≡ b → stretch (p ++ (x ++ q)) a b ≡ x
stretch_middle p x q a b h k = grind (arith, common_steps)
