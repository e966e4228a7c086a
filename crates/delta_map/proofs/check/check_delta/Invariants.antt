use Rattle.delta_image.specs.Images.{start_in, GoodFront}
use Rattle.delta_map.proofs.check.check_delta.Given as goal

abbrev pub invariant-loop-place : goal.invariant-loop-place
invariant-loop-place l = GoodFront l.image l.place (start_in l.image l.place) l.rows
