-- Which slots and registers are roots, and the list of them. The newest frame stands at the point p; each older frame waits at the return address of the next younger one.
use Rattle.std.specs.Prelude.{◌≡◌, ℕ, ◌+◌, ◌<◌, ◌⊎◌, List, [], ◌∷◌, length, Some, None, Option, slice_index}
use Rattle.words.specs.Bits.{Bit}
use Rattle.frame_map.specs.Maps.{Rows}
use Rattle.frame_map.specs.Rows.{saved_slot}
use Rattle.frame_map.specs.declared.row.Row.{Row}
use Rattle.scan.specs.Frames.{Frame, size, top}

-- callee-save register r(8 + k) holds a pointer where a frame with this row stands: the row names it a pointer register, or untouched, and then it held one at the frame's entry
abbrev pub Passes : Option Row → ℕ → Type 0 → Type 0
Passes None k at_entry = ⊥
Passes (Some r) k at_entry = Bit r.registers (8 + k) ⊎ (Bit r.untouched k × at_entry)

-- r(8 + k) holds a pointer where these frames stand; with no frame none does
unfoldable pub Held : Rows → ℕ → List Frame → ℕ → Type 0
Held rows p [] k = ⊥
Held rows p (f ∷ fs) k = Passes (rows p) k (Held rows f.back fs k)

-- slot i of a frame is a pointer slot: for now its row alone decides, whatever the slots ws hold
abbrev pub PointerSlot : Row → List ℕ → ℕ → Type 0
PointerSlot r ws i = Bit r.slots i

-- slot i is where a frame saved a register that held a pointer at its entry
abbrev pub SavedPointer : Row → (ℕ → Type 0) → ℕ → Type 0
SavedPointer r at_entry i = (k : ℕ) × (k < 8) × (0 < i) × (saved_slot r k ≡ i) × at_entry k

-- slot i of a frame is a root
abbrev pub SlotRoot : Option Row → List ℕ → (ℕ → Type 0) → ℕ → Type 0
SlotRoot None ws at_entry i = ⊥
SlotRoot (Some r) ws at_entry i = PointerSlot r ws i ⊎ SavedPointer r at_entry i

-- the stack word at place c is a root
unfoldable pub StackRoot : Rows → ℕ → List Frame → ℕ → Type 0
StackRoot rows p [] c = ⊥
StackRoot rows p (f ∷ fs) c =
    StackRoot rows f.back fs c
    ⊎ ((i : ℕ) × (i < size f) × (c ≡ top fs + i) × SlotRoot (rows p) f.slots (Held rows f.back fs) i)

-- scratch register rk is a pointer register of the running frame
abbrev pub Scratch : Option Row → ℕ → Type 0
Scratch None k = ⊥
Scratch (Some r) k = (k < 8) × Bit r.registers k

-- register rk is a root
abbrev pub RegisterRoot : Rows → ℕ → List Frame → ℕ → Type 0
RegisterRoot rows p fs k = Scratch (rows p) k ⊎ ((j : ℕ) × (j < 8) × (k ≡ 8 + j) × Held rows p fs j)

-- c is the code of a root: a stack place, or 65,536 + k for register rk
abbrev pub Root : Rows → ℕ → List Frame → ℕ → Type 0
Root rows p fs c = StackRoot rows p fs c ⊎ ((k : ℕ) × (c ≡ 65536 + k) × RegisterRoot rows p fs k)

-- c stands in xs
abbrev pub Member : ℕ → List ℕ → Type 0
Member c xs = (n : ℕ) × (n < length xs) × (slice_index xs n ≡ c)

-- xs lists the codes of all roots and no others, rising
pub record RootList (rows : Rows) (p : ℕ) (fs : List Frame) (xs : List ℕ) : Type 0 where
  pub rises : (i j : ℕ) → i < j → j < length xs → slice_index xs i < slice_index xs j
  pub sound : (c : ℕ) → Member c xs → Root rows p fs c
  pub whole : (c : ℕ) → Root rows p fs c → Member c xs
