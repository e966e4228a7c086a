-- When a row is lawful.
use Rattle.std.specs.Prelude.{◌≡◌, ℕ, ◌+◌, ◌^◌, ◌<◌, ◌≤◌, length, ◌≢◌, slice_index}
use Rattle.words.specs.Bits.{Bit}
use Rattle.frame_map.specs.declared.row.Row.{Row}

-- the slot that callee-save register r(8 + k) is saved in, or 0 for none
abbrev pub saved_slot : Row → ℕ → ℕ
saved_slot r k = slice_index r.saved k

-- a frame has 1 to 32 words
pub record Sized (r : Row) : Type 0 where
  pub some : 1 ≤ r.size
  pub most : r.size ≤ 32

-- word 0 of a frame is its return address, so its slots are words 1 to size - 1
abbrev pub Slot : Row → ℕ → Type 0
Slot r i = (1 ≤ i) × (i < r.size)

-- only slots are pointer slots
abbrev pub Slotted : Row → Type 0
Slotted r = (i : ℕ) → Bit r.slots i → Slot r i

-- eight registers may be saved; a saved slot is a slot, belongs to one register alone, and is no pointer slot
pub record Saved (r : Row) : Type 0 where
  pub eight : length r.saved ≡ 8
  pub inside : (k : ℕ) → 0 < saved_slot r k → Slot r (saved_slot r k)
  pub apart : (j k : ℕ) → j < k → 0 < saved_slot r k → saved_slot r j ≢ saved_slot r k
  pub plain : (k : ℕ) → 0 < saved_slot r k → Bit r.slots (saved_slot r k) → ⊥

-- of sixteen registers some hold pointers, of the eight callee-save ones some are untouched, and none is both: bit k of the untouched registers stands for r(8 + k)
pub record Masked (r : Row) : Type 0 where
  pub sixteen : r.registers < 2 ^ 16
  pub eight : r.untouched < 2 ^ 8
  pub disjoint : (k : ℕ) → Bit r.registers (8 + k) → Bit r.untouched k → ⊥

pub record Lawful (r : Row) : Type 0 where
  pub sized : Sized r
  pub slotted : Slotted r
  pub saves : Saved r
  pub masked : Masked r
