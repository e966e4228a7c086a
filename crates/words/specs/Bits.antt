-- The bits of a mask.
use Rattle.std.specs.Prelude.{◌≡◌, ℕ, ◌/◌, ◌%◌, ◌^◌}

-- bit i of the mask m stands; bit 0 is the lowest
abbrev pub Bit : ℕ → ℕ → Type 0
Bit m i = m / 2 ^ i % 2 ≡ 1
