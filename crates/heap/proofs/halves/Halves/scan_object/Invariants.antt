use Rattle.std.proofs.Common.{◌≡◌, ℕ, ◌+◌, ◌-◌, ◌<◌, List, length, get_or}
use Rattle.heap_model.specs.Objects.{Space}
use Rattle.heap_model.specs.Moving.{Scanning, Fielding}
use Rattle.heap_model.specs.Steps.{Keeps}
use Rattle.heap.specs.Buffers.{moving}
use Rattle.heap.proofs.halves.Halves.scan_object.Given as goal

-- the pointer fields below index `at` are forwarded, and the object is still the k-th
abbrev pub invariant-loop-at : goal.invariant-loop-at
invariant-loop-at l = (s : Space) (roots ps : List ℕ) (k : ℕ) → Scanning s roots (moving l.initial.self) l.initial.scan ps k → k < length ps
    → (qs : List ℕ) × Fielding s roots (moving l.self) l.at qs k (l.at - (l.initial.scan + 1)) × (get_or qs k 0 ≡ get_or ps k 0) × Keeps s ps qs
