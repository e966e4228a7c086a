-- The bits of a row's bit map byte.
use Rattle.std.specs.Prelude.{ℕ}
use Rattle.delta_layout.specs.declared.field.Field.{Field}
use Rattle.delta_layout.specs.declared.field.Field.TheVariants.{Size, Slots, Registers, Untouched, Saved, Wide}

-- the bit that tells it
abbrev pub bit_of : Field → ℕ
bit_of Size = 0
bit_of Slots = 1
bit_of Registers = 2
bit_of Untouched = 3
bit_of Saved = 4
bit_of Wide = 5
