use Rattle.std.proofs.Common.{arith}
use Rattle.frames.specs.Tables.{records}
use Rattle.frames.proofs.TableLaws.{dropping_more, popped}
use Rattle.frames.proofs.table.Table.drop_above.Goals as goal

pub loop-newest-preserved : goal.loop-newest-preserved
loop-newest-preserved g c =
    dropping_more g.R.Framed.frame c.args.frame (records c.args.self.now) (records c.loop-newest.self) _ c.in-Some.newest c.loop-newest.invariant
    (popped _ _ c.in-Some.ensures.0 c.in-Some.newest c.pop.result c.in-Some.ensures.1 c.pop.ensures) (omega (arith, c.frame.ensures))
