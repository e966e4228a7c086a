-- Laws of the bits of a mask: above its width, of a union, of a power of two, and of a mask whose bits all lie below a bound.
use Rattle.std.proofs.Common.{◌≡◌, ℕ, zero, suc, ◌+◌, ◌-◌, ◌*◌, ◌/◌, ◌%◌, ◌^◌, ◌<◌, ◌≤◌, ◌⊎◌, sym, ap, ◌∙◌, subst, inl, inr, ⊎_elim, one-mul, pow-suc, div-one, arith, pow_mono}
use lib.Bits.{bit_and, bit_or}
use Rattle.std.proofs.lemmas.Nat.{pow_pos, pow-add, shr-shr, shl-shr, or_shr, or_mod, and_shr, and_mod, and_comm, div_below}
use Rattle.std.proofs.lemmas.Bool.{cases_eq, cases_order}
use Rattle.words.specs.Bits.{Bit}

-- a mask of k bits has none from k on
pub bit_below : (m i k : ℕ) → m < 2 ^ k → k ≤ i → Bit m i → ⊥
bit_below m i k h l b =
    let p : 2 ^ k ≤ 2 ^ i = pow_mono l in
    let q : m / 2 ^ i < 1 = div_below m (2 ^ i) 1 (pow_pos i) (omega arith) in
    let z : m / 2 ^ i ≡ 0 = omega arith in
    let e : ◌≡◌ {A = ℕ} 0 1 = ap (λ x. x % 2) (sym z) ∙ b in
    omega arith

-- a parity is 0 or 1
pub parity : (n : ℕ) → (n % 2 ≡ 0) ⊎ (n % 2 ≡ 1)
parity n = ⊎_elim (λ (h : n % 2 ≡ 0). inl h) (λ (h : n % 2 ≡ 0 → ⊥). let m : n % 2 < 2 = omega arith in inr (omega arith)) (cases_eq (n % 2) 0)

-- a number above 0 has a bit
pub some_bit : (n q : ℕ) → 0 < q → q ≤ n → (j : ℕ) × Bit q j
some_bit zero q p l = absurd (omega arith)
some_bit (suc n) q p l =
    ⊎_elim
    (λ (e : q % 2 ≡ 0).
    let half = some_bit n (q / 2) (omega arith) (omega arith) in
    (1 + half.0, ap (λ x. x % 2) (sym (shr-shr q 1 half.0)) ∙ half.1))
    (λ (e : q % 2 ≡ 1). (0, ap (λ x. x % 2) (div-one q) ∙ e))
    (parity q)

-- a mask whose bits all lie below k has nothing from k on
pub bits_below : (m k : ℕ) → ((i : ℕ) → Bit m i → i < k) → m / 2 ^ k ≡ 0
bits_below m k h =
    ⊎_elim
    (λ (z : m / 2 ^ k ≡ 0). z)
    (λ (z : m / 2 ^ k ≡ 0 → ⊥).
    let found = some_bit (m / 2 ^ k) (m / 2 ^ k) (omega arith) (omega arith) in
    let b : Bit m (k + found.0) = ap (λ x. x % 2) (sym (shr-shr m k found.0)) ∙ found.1 in
    let f = h (k + found.0) b in
    absurd (omega arith))
    (cases_eq (m / 2 ^ k) 0)

-- the bits of a union
or_digit : (a b i : ℕ) → bit_or a b / 2 ^ i % 2 ≡ bit_or (a / 2 ^ i % 2) (b / 2 ^ i % 2)
or_digit a b i = ap (λ x. x % 2) (or_shr a b i) ∙ or_mod (a / 2 ^ i) (b / 2 ^ i) 1

pub bit_or_left : (a b i : ℕ) → Bit a i → Bit (bit_or a b) i
bit_or_left a b i h =
    ⊎_elim
    (λ (e : b / 2 ^ i % 2 ≡ 0). or_digit a b i ∙ ap (λ x. bit_or x (b / 2 ^ i % 2)) h ∙ ap (λ x. bit_or 1 x) e)
    (λ (e : b / 2 ^ i % 2 ≡ 1). or_digit a b i ∙ ap (λ x. bit_or x (b / 2 ^ i % 2)) h ∙ ap (λ x. bit_or 1 x) e)
    (parity (b / 2 ^ i))

pub bit_or_right : (a b i : ℕ) → Bit b i → Bit (bit_or a b) i
bit_or_right a b i h =
    ⊎_elim
    (λ (e : a / 2 ^ i % 2 ≡ 0). or_digit a b i ∙ ap (λ x. bit_or (a / 2 ^ i % 2) x) h ∙ ap (λ x. bit_or x 1) e)
    (λ (e : a / 2 ^ i % 2 ≡ 1). or_digit a b i ∙ ap (λ x. bit_or (a / 2 ^ i % 2) x) h ∙ ap (λ x. bit_or x 1) e)
    (parity (a / 2 ^ i))

pub bit_or_cases : (a b i : ℕ) → Bit (bit_or a b) i → Bit a i ⊎ Bit b i
bit_or_cases a b i h =
    ⊎_elim
    (λ (e : a / 2 ^ i % 2 ≡ 0).
    inr (ap (λ x. bit_or x (b / 2 ^ i % 2)) (sym e) ∙ sym (or_digit a b i) ∙ h))
    (λ (e : a / 2 ^ i % 2 ≡ 1). inl e)
    (parity (a / 2 ^ i))

-- the bits of a power of two
pub bit_pow_same : (k : ℕ) → Bit (2 ^ k) k
bit_pow_same k = ap (λ x. x % 2) (ap (λ x. x / 2 ^ k) (sym (one-mul (2 ^ k))) ∙ shl-shr 1 k)

pow_even : (d : ℕ) → 2 ^ suc d % 2 ≡ 0
pow_even d = let e : 2 ^ suc d ≡ 2 ^ d * 2 = pow-suc 2 d in omega arith

pub bit_pow_other : (k i : ℕ) → Bit (2 ^ k) i → i ≡ k
bit_pow_other k i h =
    ⊎_elim
    (λ (e : i ≡ k). e)
    (⊎_elim
    (λ (l : i < k).
    let d : ℕ = k - suc i in
    let e : suc d + i ≡ k = omega arith in
    let q : 2 ^ k / 2 ^ i ≡ 2 ^ suc d = ap (λ x. 2 ^ x / 2 ^ i) (sym e) ∙ ap (λ x. x / 2 ^ i) (pow-add 2 (suc d) i) ∙ shl-shr (2 ^ suc d) i in
    let z : ◌≡◌ {A = ℕ} 0 1 = sym (ap (λ x. x % 2) q ∙ pow_even d) ∙ h in
    absurd (omega arith))
    (λ (l : k < i). absurd (bit_below (2 ^ k) i (suc k) (let e : 2 ^ suc k ≡ 2 ^ k * 2 = pow-suc 2 k in omega (arith, pow_pos k)) l h)))
    (cases_order i k)

-- the bits of a mask with one more
pub bit_put_same : (m k : ℕ) → Bit (bit_or m (2 ^ k)) k
bit_put_same m k = bit_or_right m (2 ^ k) k (bit_pow_same k)

pub bit_put_kept : (m k i : ℕ) → Bit m i → Bit (bit_or m (2 ^ k)) i
bit_put_kept m k i h = bit_or_left m (2 ^ k) i h

pub bit_put_other : (m k i : ℕ) → (i ≡ k → ⊥) → Bit (bit_or m (2 ^ k)) i → Bit m i
bit_put_other m k i ne h =
    ⊎_elim (λ (b : Bit m i). b) (λ (b : Bit (2 ^ k) i). absurd (ne (bit_pow_other k i b))) (bit_or_cases m (2 ^ k) i h)

-- the bits of what two masks share
and_digit : (a b i : ℕ) → bit_and a b / 2 ^ i % 2 ≡ bit_and (a / 2 ^ i % 2) (b / 2 ^ i % 2)
and_digit a b i = ap (λ x. x % 2) (and_shr a b i) ∙ and_mod (a / 2 ^ i) (b / 2 ^ i) 1

pub bit_and_from : (a b i : ℕ) → Bit a i → Bit b i → Bit (bit_and a b) i
bit_and_from a b i p q = and_digit a b i ∙ ap (λ x. bit_and x (b / 2 ^ i % 2)) p ∙ ap (λ x. bit_and 1 x) q

pub bit_and_left : (a b i : ℕ) → Bit (bit_and a b) i → Bit a i
bit_and_left a b i h =
    ⊎_elim
    (λ (e : a / 2 ^ i % 2 ≡ 0).
    let z : ◌≡◌ {A = ℕ} 0 1 = ap (λ x. bit_and x (b / 2 ^ i % 2)) (sym e) ∙ sym (and_digit a b i) ∙ h in absurd (omega arith))
    (λ (e : a / 2 ^ i % 2 ≡ 1). e)
    (parity (a / 2 ^ i))

pub bit_and_right : (a b i : ℕ) → Bit (bit_and a b) i → Bit b i
bit_and_right a b i h = bit_and_left b a i (subst (λ x. Bit x i) (and_comm a b) h)

-- a mask with no bits is 0
pub no_bits : (m : ℕ) → ((i : ℕ) → Bit m i → ⊥) → m ≡ 0
no_bits m h = sym (div-one m) ∙ bits_below m 0 (λ i b. absurd (h i b))

pub bit_of_zero : (i : ℕ) → Bit 0 i → ⊥
bit_of_zero i b = bit_below 0 i 0 (omega arith) (omega arith) b

-- the bits of a mask shifted down
pub bit_shr : (m k i : ℕ) → Bit (m / 2 ^ k) i → Bit m (k + i)
bit_shr m k i h = ap (λ x. x % 2) (sym (shr-shr m k i)) ∙ h

pub shr_bit : (m k i : ℕ) → Bit m (k + i) → Bit (m / 2 ^ k) i
shr_bit m k i h = ap (λ x. x % 2) (shr-shr m k i) ∙ h

-- bit 0 is the parity
pub low_bit : (m : ℕ) → m % 2 ≡ 1 → Bit m 0
low_bit m e = ap (λ x. x % 2) (div-one m) ∙ e

pub bit_low : (m : ℕ) → Bit m 0 → m % 2 ≡ 1
bit_low m b = ap (λ x. x % 2) (sym (div-one m)) ∙ b
