use Rattle.std.proofs.Common.{ap, ◌∙◌, subst, arith, rules}
use Rattle.std.proofs.lemmas.Result.{MatchResult-at_err}
use Rattle.delta_image.specs.Buckets.{bucket_of}
use Rattle.delta_image.specs.Images.{start_in}
use Rattle.delta_map.specs.Leaving.{Left}
use Rattle.delta_map.proofs.FindLaws.{image_starts, seek_first, seek_none, seek_read, seek_found, seek_past, seek_more}
use Rattle.delta_map.proofs.search.find.Goals as goal

pub new-rows-requires-clause-starts : goal.new-rows-requires-clause-starts
new-rows-requires-clause-starts c = image_starts c.args.image.now c.requires

pub loop-entry-init : goal.loop-entry-init
loop-entry-init c =
    seek_first c.args.image.now c.args.point c.new-rows.result c.requires
    (subst (λ b. Left c.args.image.now b c.new-rows.result) c.bucket.ensures c.new-rows.ensures.left)
    c.new-rows.ensures.first
    (c.new-rows.ensures.place ∙ ap (λ b. start_in c.args.image.now b) c.bucket.ensures)

pub returns-then-entry-point : goal.returns-then-entry-point
returns-then-entry-point c =
    let read = rw c.in-Ok-Some.field-0-is at (c.in-Ok-Some.ensures c.args.image.now (bucket_of c.args.point) c.loop-entry.invariant.left) in
    seek_found c.args.image.now c.args.point c.loop-entry.rows c.loop-entry.invariant c.next_row.new.self c.in-Ok-Some.entry read c.if-entry-point.true

pub returns-then-entry-point-2 : goal.returns-then-entry-point-2
returns-then-entry-point-2 c =
    let read = rw c.in-Ok-Some.field-0-is at (c.in-Ok-Some.ensures c.args.image.now (bucket_of c.args.point) c.loop-entry.invariant.left) in
    seek_past c.args.image.now c.args.point c.loop-entry.rows c.loop-entry.invariant c.next_row.new.self c.in-Ok-Some.entry read c.if-entry-point-2.true

pub loop-entry-preserved : goal.loop-entry-preserved
loop-entry-preserved c =
    let read = rw c.in-Ok-Some.field-0-is at (c.in-Ok-Some.ensures c.args.image.now (bucket_of c.args.point) c.loop-entry.invariant.left) in
    seek_more c.args.image.now c.args.point c.loop-entry.rows c.loop-entry.invariant c.next_row.new.self c.in-Ok-Some.entry read (omega (arith, c.if-entry-point.false, c.if-entry-point-2.false))

-- nothing is left
pub returns-in_default : goal.returns-in_default
returns-in_default c =
    let told = c.in_default.ensures c.args.image.now (bucket_of c.args.point) c.loop-entry.invariant.left in
    seek_none c.args.image.now c.args.point c.loop-entry.rows c.loop-entry.invariant (search rules)

-- a good image has a row wherever bytes are left
pub returns-in_default-2 : goal.returns-in_default-2
returns-in_default-2 c es m =
    absurd (seek_read c.args.image.now c.args.point c.loop-entry.rows c.loop-entry.invariant c.in_default.field-0
    (MatchResult-at_err _ _ c.in_default.field-0 c.in_default.is (c.next_row.ensures c.args.image.now (bucket_of c.args.point) c.loop-entry.invariant.left)))
