use Rattle.delta_image.specs.Images.{GoodStarts}
use Rattle.delta_map.proofs.StartLaws.{Before}
use Rattle.delta_map.proofs.starts.check_starts.Given as goal

-- the starts so far are good, and the last of them is known
abbrev pub invariant-loop-k : goal.invariant-loop-k
invariant-loop-k l = GoodStarts l.image l.k × Before l.image l.k l.last
