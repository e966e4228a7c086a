use Rattle.std.proofs.Common.{◌≡◌}
use Rattle.frame_map.specs.Rows.{Lawful}
use Rattle.scan.specs.Masks.{saved_mask}
use Rattle.scan.proofs.saved_roots.Given as goal

abbrev pub invariant-loop-k : goal.invariant-loop-k
invariant-loop-k l = Lawful l.row → l.roots ≡ saved_mask l.row l.held l.k
