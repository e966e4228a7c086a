use Rattle.std.proofs.Common.{take, ap, ◌∙◌, add-one}
use Rattle.delta_image.specs.Images.{start_in}
use Rattle.delta_map.proofs.BucketLaws.{left_whole}
use Rattle.delta_map.proofs.rows.BucketRows.new.Goals as goal

pub returns-clause-left : goal.returns-clause-left
returns-clause-left c =
    left_whole c.args.image.now c.args.place _ c.requires.inside c.requires.starts
    (c.new.ensures.cut ∙ ap (λ n. take n c.args.image.now) (c.start_at-end.ensures ∙ ap (λ n. start_in c.args.image.now n) (add-one c.args.place)))
    (c.new.ensures.place ∙ c.start_at-start.ensures)
