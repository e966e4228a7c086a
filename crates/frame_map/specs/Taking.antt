-- How the check of a row goes through its saved slots: a mask of the slots that are taken, by pointers or by saved registers.
use Rattle.std.specs.Prelude.{◌≡◌, ℕ, ◌^◌, ◌<◌, ◌≤◌, ◌⊎◌, bit_or}
use Rattle.words.specs.Bits.{Bit}
use Rattle.frame_map.specs.declared.row.Row.{Row}

-- a saved slot that is no slot of the frame, or is taken already
abbrev pub Untakable : Row → ℕ → ℕ → Type 0
Untakable r taken slot = (0 < slot) × ((r.size ≤ slot) ⊎ Bit taken slot)

-- one saved slot more is taken; slot 0 stands for none
abbrev pub Takes : Row → ℕ → ℕ → ℕ → Type 0
Takes r taken slot more = ((slot ≡ 0) × (more ≡ taken)) ⊎ ((0 < slot) × (slot < r.size) × (Bit taken slot → ⊥) × (more ≡ bit_or taken (2 ^ slot)))
