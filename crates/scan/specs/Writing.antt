-- What the scan's functions promise.
use Rattle.std.specs.Prelude.{◌≡◌, ℕ, ◌+◌, ◌^◌, ◌≤◌, List, ◌++◌, length, take, drop, Some}
use Rattle.words.specs.Bits.{Bit}
use Rattle.frame_map.specs.declared.row.Row.{Row}
use Rattle.scan.specs.Roots.{Passes, SlotRoot}
use Rattle.scan.specs.Masks.{codes, held_by, roots_by}

-- one frame's step: of a frame with this row, entered with pointers in the callee-save registers of the mask h, these slots are roots,
-- and these callee-save registers hold pointers behind it
pub record Steps (r : Row) (h roots behind : ℕ) : Type 0 where
  pub roots_are : (ws : List ℕ) (i : ℕ) → Bit roots i → SlotRoot (Some r) ws (λ k. Bit h k) i
  pub are_roots : (ws : List ℕ) (i : ℕ) → SlotRoot (Some r) ws (λ k. Bit h k) i → Bit roots i
  pub held_are : (k : ℕ) → Bit behind k → Passes (Some r) k (Bit h k)
  pub are_held : (k : ℕ) → Passes (Some r) k (Bit h k) → Bit behind k
  -- the same by masks
  pub roots_mask : (ws : List ℕ) → roots ≡ roots_by (Some r) ws h
  pub held_mask : behind ≡ held_by (Some r) h

-- the words xs stand in the buffer from place i on, up to place j; all others are as they were
pub record Wrote (xs : List ℕ) (i : ℕ) (before after : List ℕ) (j : ℕ) : Type 0 where
  pub fits : i + length xs ≤ length before
  pub end : j ≡ i + length xs
  pub stands : after ≡ take i before ++ (xs ++ drop (i + length xs) before)

-- n codes from base on can be written from place i on: there is room for them, a mask of 32 bits has that many, and each of them fits 32 bits
pub record Room (base n i : ℕ) (before : List ℕ) : Type 0 where
  pub enough : i + n ≤ length before
  pub narrow : n ≤ 32
  pub low : base + n ≤ 2 ^ 32

-- the codes of the mask are written
pub record Coded (base mask n i : ℕ) (before after : List ℕ) (j : ℕ) : Type 0 where
  pub room : Room base n i before
  pub wrote : Wrote (codes base mask n) i before after j

-- there is no room, and nothing is written
pub record Uncoded (base n i : ℕ) (before after : List ℕ) : Type 0 where
  pub lacking : Room base n i before → ⊥
  pub same : after ≡ before
