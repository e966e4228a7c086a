-- What the writer's steps add.
use Rattle.std.proofs.Common.{◌≡◌, ℕ, zero, suc, w32, ◌+◌, ◌-◌, ◌%◌, ◌^◌, ◌<◌, ◌≤◌, Bool, List, length, take, refl, ap, ◌∙◌, arith, add-one, pow-suc, pow_mono}
use Rattle.std.specs.Int.{to_le_bytes}
use Rattle.std.proofs.lemmas.List.{length-append}
use Rattle.delta_layout.specs.Bytes.{bytes}
use Rattle.delta_layout.specs.Codes.{flag, mask_of}
use Rattle.delta_layout.proofs.CodeLaws.{step-length, resized-length, changed-length, resaved-length}
use Rattle.delta_layout.proofs.MaskLaws.{mask_low}
use Rattle.delta_writer.specs.Writing.{made, Added}
use Rattle.delta_writer.specs.declared.RowCode.{RowCode}

-- the low bytes of a number of four bytes
pub low_bytes : (n x : ℕ) → n ≤ 4 → take n (to_le_bytes w32 x) ≡ bytes n x
unfolding bytes
low_bytes zero x l = refl
low_bytes (suc zero) x l = refl
low_bytes (suc (suc zero)) x l = grind arith
low_bytes (suc (suc (suc zero))) x l = grind arith
low_bytes (suc (suc (suc (suc zero)))) x l = grind arith
low_bytes (suc (suc (suc (suc (suc n))))) x l = absurd (omega arith)

-- what is added makes the code longer
pub added_length : (xs : List ℕ) (s t : RowCode) → Added xs s t → length (made t) ≡ length (made s) + length xs
added_length xs s t h = ap length h ∙ length-append (made s) xs

-- how long the parts of a code are
pub ruleset part_lengths = (added_length, step-length, resized-length, changed-length, resaved-length, length-append)

-- a mask of the first k of eight facts fits a byte
pub mask_fits : (p : ℕ → Bool) (k : ℕ) → k < 8 → mask_of p k + 2 ^ k % 256 < 256
mask_fits p k l =
    let most : suc k ≤ 8 = l in
    let all : 2 ^ suc k ≤ 2 ^ 8 = pow_mono most in
    omega (arith, mask_low p k, pow-suc 2 k)

-- a mask of no fact, and of one fact more
pub mask_begin : (p : ℕ → Bool) → 0 ≡ mask_of p 0
unfolding mask_of
mask_begin p = refl

pub mask_more : (p : ℕ → Bool) (n : ℕ) → mask_of p (n + 1) ≡ mask_of p n + flag n (p n)
unfolding mask_of
mask_more p n = ap (λ m. mask_of p m) (add-one n)
