use Rattle.std.proofs.Common.{ℕ, ◌-◌, List, vec_len}
use Rattle.heap_model.specs.Objects.{Space}
use Rattle.heap_model.specs.Moving.{Scanning}
use Rattle.heap_model.specs.Steps.{Scanned}
use Rattle.heap.specs.Buffers.{moving}
use Rattle.heap.proofs.halves.Halves.scan_all.Given as goal

-- some first objects are scanned
abbrev pub invariant-loop-scan : goal.invariant-loop-scan
invariant-loop-scan l = (s : Space) (roots ps : List ℕ) → Scanning s roots (moving l.initial.self) 0 ps 0 → (k : ℕ) × Scanned s roots ps (moving l.self) l.scan k

abbrev pub decreases-loop-scan : goal.decreases-loop-scan
decreases-loop-scan l = vec_len l.initial.self.idle - l.scan
