use Rattle.std.proofs.Common.{◌≡◌, sym, ◌∙◌, subst, rules}
use Rattle.std.proofs.lemmas.Result.{err_from_is_err_and}
use Rattle.delta_image.specs.Images.{BadRow}
use Rattle.delta_map.proofs.BucketLaws.{here_first, here_done, here_more, unread, too_many, other_bucket, mapped_ok, mapped_err}
use Rattle.delta_map.proofs.check.check_bucket.Goals as goal
use Rattle.delta_map.proofs.check.check_bucket.Goals.{then-count-ge-MAX_ROWS-via-then-count-ge-MAX_ROWS, then-count-ge-MAX_ROWS-via-else-count-ge-MAX_ROWS+then-bucket-place}

pub loop-row-init : goal.loop-row-init
loop-row-init c =
    here_first c.args.image.now c.args.place c.requires.inside c.args.count c.new-rows.result c.new-rows.ensures.left c.new-rows.ensures.first c.new-rows.ensures.place c.requires.front

pub returns-in_err-row : goal.returns-in_err-row
returns-in_err-row c =
    let told = mapped_err _ _ _ c.next_row.result c.map_err.result c.in_err-row.field-0.0 (c.next_row.ensures c.args.image.now c.args.place c.loop-row.invariant.left) c.map_err.ensures.cases c.in_err-row.was in
    let row : c.in_err-row.field-0.0.row ≡ c.loop-row.count = search rules in
    let byte : c.in_err-row.field-0.0.byte ≡ told.0.byte = search rules in
    let p = err_from_is_err_and c.from_residual.result c.from_residual.ensures.1 in
    let bad : BadRow c.args.image.now c.loop-row.count told.0.byte = unread c.args.image.now c.args.place c.requires.inside c.loop-row.count c.loop-row.rows told.0 c.loop-row.invariant told.1 in
    rw (p.1, p.2) (subst (λ n. BadRow c.args.image.now n c.in_err-row.field-0.0.byte) (sym row) (subst (λ k. BadRow c.args.image.now c.loop-row.count k) (sym byte) bad))

pub returns-in_default : goal.returns-in_default
returns-in_default c =
    let told = mapped_ok _ _ _ c.next_row.result c.map_err.result c.in_ok-row.row (c.next_row.ensures c.args.image.now c.args.place c.loop-row.invariant.left) c.map_err.ensures.cases c.in_ok-row.was in
    here_done c.args.image.now c.args.place c.requires.inside c.loop-row.count c.loop-row.rows c.loop-row.invariant (rw c.in_default.is at told)

pub returns-then-count-ge-MAX_ROWS : goal.returns-then-count-ge-MAX_ROWS
returns-then-count-ge-MAX_ROWS c =
    let told = mapped_ok _ _ _ c.next_row.result c.map_err.result c.in_ok-row.row (c.next_row.ensures c.args.image.now c.args.place c.loop-row.invariant.left) c.map_err.ensures.cases c.in_ok-row.was in
    let read = rw c.in-Some.is at told in
    subst (λ k. BadRow c.args.image.now c.loop-row.count k) (sym c.at-byte.ensures)
    (elim c.then-count-ge-MAX_ROWS.branch [
      | then-count-ge-MAX_ROWS-via-then-count-ge-MAX_ROWS w ↦
          too_many c.args.image.now c.args.place c.requires.inside c.loop-row.count c.loop-row.rows c.next_row.new.self c.in-Some.entry c.loop-row.invariant read w.if-count-ge-MAX_ROWS.true
      | then-count-ge-MAX_ROWS-via-else-count-ge-MAX_ROWS+then-bucket-place w ↦
          other_bucket c.args.image.now c.args.place c.requires.inside c.loop-row.count c.loop-row.rows c.next_row.new.self c.in-Some.entry c.loop-row.invariant read (λ z. w.if-bucket-place.true (w.bucket.ensures ∙ z))
    ])

pub loop-row-preserved : goal.loop-row-preserved
loop-row-preserved c =
    let told = mapped_ok _ _ _ c.next_row.result c.map_err.result c.in_ok-row.row (c.next_row.ensures c.args.image.now c.args.place c.loop-row.invariant.left) c.map_err.ensures.cases c.in_ok-row.was in
    here_more c.args.image.now c.args.place c.requires.inside c.loop-row.count c.loop-row.rows c.next_row.new.self c.in-Some.entry c.loop-row.invariant (rw c.in-Some.is at told)
    c.if-count-ge-MAX_ROWS.false (sym c.bucket.ensures ∙ c.if-bucket-place.false)
