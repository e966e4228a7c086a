use Rattle.frame_map.proofs.RowLaws.{Fair}
use Rattle.frame_map.proofs.row.Row.has_fair_saved.Given as goal

abbrev pub invariant-loop-slot : goal.invariant-loop-slot
invariant-loop-slot l = Fair l.self l.slot-index l.taken
