use Rattle.std.proofs.Common.{suc, ◌-◌}
use Rattle.delta_image.specs.Buckets.{bucket_of}
use Rattle.delta_image.specs.Images.{start_in}
use Rattle.delta_map.proofs.FindLaws.{Seeking}
use Rattle.delta_map.proofs.search.find.Given as goal

abbrev pub invariant-loop-entry : goal.invariant-loop-entry
invariant-loop-entry l = Seeking l.image l.point l.rows

abbrev pub decreases-loop-entry : goal.decreases-loop-entry
decreases-loop-entry l = start_in l.image (suc (bucket_of l.point)) - l.rows.reader.at
