-- The scan by masks, as it is computed. No promise rests on this alone: the laws tie it to the roots.
use Rattle.std.specs.Prelude.{ℕ, zero, suc, ◌+◌, ◌*◌, ◌/◌, ◌%◌, ◌^◌, Bool, cond, ◌&&◌, List, [], ◌∷◌, ◌++◌, Some, None, Option, ◌==◌, bit_and, bit_or, nat_lt}
use Rattle.frame_map.specs.Maps.{Rows}
use Rattle.frame_map.specs.Rows.{saved_slot}
use Rattle.frame_map.specs.declared.row.Row.{Row}
use Rattle.scan.specs.Frames.{Frame, size, top}

-- bit i of a mask
abbrev pub bit : ℕ → ℕ → Bool
bit m i = m / 2 ^ i % 2 == 1

-- the callee-save registers that hold pointers behind a frame, of those in h before it: bit k for r(8 + k)
abbrev pub held_by : Option Row → ℕ → ℕ
held_by None h = 0
held_by (Some r) h = bit_or (r.registers / 256) (bit_and r.untouched h)

-- the saved slots of r8 to r(7 + n), for those registers that are in h
unfoldable pub saved_mask : Row → ℕ → ℕ → ℕ
saved_mask r h zero = 0
saved_mask r h (suc n) = bit_or (saved_mask r h n) (cond (bit h n && nat_lt 0 (saved_slot r n)) (2 ^ saved_slot r n) 0)

-- the slots of a frame that are roots: bit i for slot i
abbrev pub roots_by : Option Row → List ℕ → ℕ → ℕ
roots_by None ws h = 0
roots_by (Some r) ws h = bit_or r.slots (saved_mask r h 8)

-- the registers that are roots: bit k for rk
abbrev pub registers_by : Option Row → ℕ → ℕ
registers_by None h = 0
registers_by (Some r) h = r.registers % 256 + 256 * h

-- the callee-save registers that hold pointers where these frames stand
unfoldable pub held : Rows → ℕ → List Frame → ℕ
held rows p [] = 0
held rows p (f ∷ fs) = held_by (rows p) (held rows f.back fs)

-- base + i for each bit i below n that stands, rising
unfoldable pub codes : ℕ → ℕ → ℕ → List ℕ
codes base mask zero = []
codes base mask (suc n) = codes base mask n ++ cond (bit mask n) ((base + n) ∷ []) []

-- the roots in the stack
unfoldable pub stack_codes : Rows → ℕ → List Frame → List ℕ
stack_codes rows p [] = []
stack_codes rows p (f ∷ fs) = stack_codes rows f.back fs ++ codes (top fs) (roots_by (rows p) f.slots (held rows f.back fs)) (size f)

-- all roots
unfoldable pub root_codes : Rows → ℕ → List Frame → List ℕ
root_codes rows p fs = stack_codes rows p fs ++ codes 65536 (registers_by (rows p) (held rows p fs)) 16
