use Rattle.std.proofs.Common.{length}
use Rattle.frames.specs.Tables.{records}
use Rattle.frames.proofs.TableLaws.{Dropping}
use Rattle.frames.proofs.table.Table.drop_above.Given as goal

abbrev pub invariant-loop-newest : goal.invariant-loop-newest
invariant-loop-newest g l = Dropping g.R.Framed.frame l.frame (records l.initial.self) (records l.self)

abbrev pub decreases-loop-newest : goal.decreases-loop-newest
decreases-loop-newest g l = length (records l.self)
