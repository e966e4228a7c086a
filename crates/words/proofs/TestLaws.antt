-- What a test that answers a fact tells.
use Rattle.std.proofs.Common.{◌≡◌, ℕ, Bool, true, false, eqb, MatchBool, refl}
use Rattle.std.proofs.lemmas.Bool.{false≢true, eqb-true, eq-eqb}

-- a test that is true exactly if P holds answers P
pub when_decided : (b : Bool) (P : Type 0) → (b ≡ true → P) → (P → b ≡ true) → MatchBool b P (P → ⊥)
when_decided true P f g = f refl
when_decided false P f g = λ p. false≢true (g p)

pub when_equal : (x y : ℕ) (P : Type 0) → (x ≡ y → P) → (P → x ≡ y) → MatchBool (eqb x y) P (P → ⊥)
when_equal x y P f g = when_decided (eqb x y) P (λ e. f (eqb-true x y e)) (λ p. eq-eqb x y (g p))

-- a test that answers P answers any Q that holds exactly if P does
pub when_same : (b : Bool) (P Q : Type 0) → (P → Q) → (Q → P) → MatchBool b P (P → ⊥) → MatchBool b Q (Q → ⊥)
when_same true P Q f g h = f h
when_same false P Q f g h = λ q. h (g q)
