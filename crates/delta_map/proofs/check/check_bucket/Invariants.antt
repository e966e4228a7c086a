use Rattle.std.proofs.Common.{suc, ◌-◌}
use Rattle.delta_image.specs.Images.{start_in}
use Rattle.delta_map.proofs.BucketLaws.{Here}
use Rattle.delta_map.proofs.check.check_bucket.Given as goal

-- the rows so far are good, and the reader stands behind the last of them
abbrev pub invariant-loop-row : goal.invariant-loop-row
invariant-loop-row l = Here l.image l.place l.count l.rows

abbrev pub decreases-loop-row : goal.decreases-loop-row
decreases-loop-row l = start_in l.image (suc l.place) - l.rows.reader.at
