-- What is proved of the scan by masks, over whole stacks.
use Rattle.std.specs.Prelude.{◌≡◌, ℕ, ◌≤◌, cond, List, [], ◌∷◌, Some, None, ◌==◌}
use Rattle.frame_map.specs.Maps.{Rows}
use Rattle.frame_map.specs.declared.row.Row.{Row}
use Rattle.scan.specs.Frames.{Frame, top}
use Rattle.scan.specs.Masks.{root_codes}
use Rattle.scan.specs.Roots.{RootList}

-- the scan's codes list all roots and no others, where the stack's places lie below the codes of registers
abbrev pub Exact : Type 0
Exact = (rows : Rows) (p : ℕ) (fs : List Frame) → top fs ≤ 65536 → RootList rows p fs (root_codes rows p fs)

-- only one list does
abbrev pub Unique : Type 0
Unique = (rows : Rows) (p : ℕ) (fs : List Frame) (xs ys : List ℕ) → RootList rows p fs xs → RootList rows p fs ys → xs ≡ ys

-- An example. A frame of 4 words waits at point 10: its slot 1 is a pointer slot, and r9 holds a pointer.
abbrev pub waiting : Row
waiting = record { size = 4; slots = 2; saved = 0 ∷ 0 ∷ 0 ∷ 0 ∷ 0 ∷ 0 ∷ 0 ∷ 0 ∷ []; registers = 512; untouched = 0 }

-- At point 11 it is the same, but for r9, which holds no pointer.
abbrev pub waiting_plain : Row
waiting_plain = record { size = 4; slots = 2; saved = 0 ∷ 0 ∷ 0 ∷ 0 ∷ 0 ∷ 0 ∷ 0 ∷ 0 ∷ []; registers = 0; untouched = 0 }

-- A frame of 3 words runs at point 20: it saved r9 in slot 1, r0 holds a pointer, and r8 is untouched.
abbrev pub running : Row
running = record { size = 3; slots = 0; saved = 0 ∷ 1 ∷ 0 ∷ 0 ∷ 0 ∷ 0 ∷ 0 ∷ 0 ∷ []; registers = 1; untouched = 1 }

abbrev pub example_rows : Rows
example_rows p = cond (p == 10) (Some waiting) (cond (p == 11) (Some waiting_plain) (cond (p == 20) (Some running) None))

-- the running frame above one that waits at the point p
abbrev pub example_stack : ℕ → ℕ → ℕ → ℕ → ℕ → ℕ → List Frame
example_stack p a b c d e = record { back = p; slots = d ∷ e ∷ [] } ∷ record { back = 0; slots = a ∷ b ∷ c ∷ [] } ∷ []

-- the saved r9 is a root only where it held a pointer
abbrev pub Example : Type 0
Example =
    (a b c d e : ℕ)
    → (root_codes example_rows 20 (example_stack 10 a b c d e) ≡ 1 ∷ 5 ∷ 65536 ∷ [])
    × (root_codes example_rows 20 (example_stack 11 a b c d e) ≡ 1 ∷ 65536 ∷ [])
