use Rattle.std.proofs.Common.{length}
use Rattle.delta_layout.specs.Codes.{moved_slots}
use Rattle.delta_writer.specs.Writing.{Added}
use Rattle.delta_writer.proofs.RowCode.resaved.Given as goal

-- the slots of the first registers are written
abbrev pub invariant-loop-old : goal.invariant-loop-old
invariant-loop-old l = Added (moved_slots l.was l.saved (length l.yielded)) l.initial.self l.self
