-- A mask of facts and the bits of a number: each tells the other.
use Rattle.std.proofs.Common.{◌≡◌, ℕ, zero, suc, ◌+◌, ◌-◌, ◌*◌, ◌/◌, ◌%◌, ◌^◌, ◌<◌, ◌≤◌, Bool, true, false, eqb, sym, refl, ap, ◌∙◌, subst, ⊎_elim, one-mul, pow-suc, zero-mul, one-add, arith}
use native.Mathlib.Nat.{add-mul-div_right}
use Rattle.std.proofs.lemmas.Nat.{pow_pos, pow-add, shr_high, mod-pow-add, mod_low}
use Rattle.std.proofs.lemmas.Bool.{cases_eq}
use Rattle.delta_layout.specs.Codes.{flag, mask_of}
use Rattle.delta_layout.specs.Parsing.{stands}

flag_low : (n : ℕ) (b : Bool) → flag n b ≤ 2 ^ n
flag_low n true = omega arith
flag_low n false = omega arith

pub mask_low : (p : ℕ → Bool) (n : ℕ) → mask_of p n < 2 ^ n
unfolding mask_of
mask_low p zero = omega arith
mask_low p (suc n) = omega (arith, mask_low p n, flag_low n (p n), pow-suc 2 n)

-- the bit of the last fact
top_bit : (m n : ℕ) (b : Bool) → m < 2 ^ n → stands (m + flag n b) n ≡ b
top_bit m n true h =
    let e : m + 2 ^ n ≡ 1 * 2 ^ n + m = omega (arith, one-mul (2 ^ n)) in
    ap (λ x. eqb (x % 2) 1) (ap (λ x. x / 2 ^ n) e ∙ shr_high 1 n m h)
top_bit m n false h =
    let e : m + 0 ≡ 0 * 2 ^ n + m = omega (arith, zero-mul (2 ^ n)) in
    ap (λ x. eqb (x % 2) 1) (ap (λ x. x / 2 ^ n) e ∙ shr_high 0 n m h)

-- it leaves the bits below
low_bits : (m n k : ℕ) (b : Bool) → k < n → stands (m + flag n b) k ≡ stands m k
low_bits m n k false l = ap (λ x. stands x k) (omega arith)
low_bits m n k true l =
    let d : ℕ = n - suc k in
    let split : 2 ^ n ≡ 2 ^ suc d * 2 ^ k = ap (λ x. 2 ^ x) (omega arith) ∙ pow-add 2 (suc d) k in
    let q : (m + 2 ^ n) / 2 ^ k ≡ m / 2 ^ k + 2 ^ suc d = ap (λ x. (m + x) / 2 ^ k) split ∙ add-mul-div_right m (2 ^ suc d) (pow_pos k) in
    ap (λ x. eqb x 1) (ap (λ x. x % 2) q ∙ omega (arith, pow-suc 2 d))

pub mask_bit : (p : ℕ → Bool) (n k : ℕ) → k < n → stands (mask_of p n) k ≡ p k
unfolding mask_of
mask_bit p zero k l = absurd (omega arith)
mask_bit p (suc n) k l =
    ⊎_elim
    (λ (e : k ≡ n). subst (λ j. stands (mask_of p n + flag n (p n)) j ≡ p j) (sym e) (top_bit (mask_of p n) n (p n) (mask_low p n)))
    (λ (ne : k ≡ n → ⊥). low_bits (mask_of p n) n k (p n) (omega arith) ∙ mask_bit p n k (omega arith))
    (cases_eq k n)

-- a fact as a digit
digit : (f n : ℕ) (b : Bool) → stands f n ≡ b → flag n b ≡ f / 2 ^ n % 2 ^ 1 * 2 ^ n
digit f n true h = grind arith
digit f n false h = grind arith

-- the low bits of a number are the mask of the facts that they tell
pub bits_mask : (f : ℕ) (p : ℕ → Bool) (n : ℕ) → ((k : ℕ) → k < n → stands f k ≡ p k) → f % 2 ^ n ≡ mask_of p n
unfolding mask_of
bits_mask f p zero h = omega arith
bits_mask f p (suc n) h =
    let low : f % 2 ^ n ≡ mask_of p n = bits_mask f p n (λ k l. h k (omega arith)) in
    let top : flag n (p n) ≡ f / 2 ^ n % 2 ^ 1 * 2 ^ n = digit f n (p n) (h n (omega arith)) in
    ap (λ x. f % 2 ^ x) (sym (one-add n)) ∙ mod-pow-add f 1 n ∙ omega (arith, low, top)

pub mask_unique : (f : ℕ) (p : ℕ → Bool) (n : ℕ) → f < 2 ^ n → ((k : ℕ) → k < n → stands f k ≡ p k) → f ≡ mask_of p n
mask_unique f p n small h = sym low ∙ bits_mask f p n h
  where
    low : f % 2 ^ n ≡ f
    low = let z : 0 * 2 ^ n + f ≡ f = omega (arith, zero-mul (2 ^ n)) in ap (λ x. x % 2 ^ n) (sym z) ∙ mod_low 0 n f small

-- a mask of nothing
pub mask_none : (p : ℕ → Bool) (n : ℕ) → ((k : ℕ) → k < n → p k ≡ false) → mask_of p n ≡ 0
unfolding mask_of
mask_none p zero h = refl
mask_none p (suc n) h =
    let low = mask_none p n (λ k l. h k (omega arith)) in
    let top : flag n (p n) ≡ 0 = ap (λ b. flag n b) (h n (omega arith)) in
    omega arith
