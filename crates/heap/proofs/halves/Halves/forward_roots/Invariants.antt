use Rattle.std.proofs.Common.{[]}
use Rattle.heap_model.specs.Objects.{Space}
use Rattle.heap_model.specs.Moving.{Rooting}
use Rattle.heap_model.specs.Steps.{Rooted}
use Rattle.heap.specs.Buffers.{moving}
use Rattle.heap.proofs.halves.Halves.forward_roots.Given as goal

-- the first root words are forwarded
abbrev pub invariant-loop-i : goal.invariant-loop-i
invariant-loop-i l = (s : Space) → Rooting s l.initial.roots l.initial.roots (moving l.initial.self) [] 0 → Rooted s l.initial.roots l.roots (moving l.self) l.i
