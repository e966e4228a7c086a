use Rattle.std.proofs.lemmas.Result.{err_from_is_err_and}
use Rattle.delta_map.proofs.BucketLaws.{left_none, left_read, left_unread}
use Rattle.delta_map.proofs.rows.BucketRows.next_row.Goals as goal

pub returns-then-is_done : goal.returns-then-is_done
returns-then-is_done c w b l = left_none w b c.args.self.now l c.if-is_done.ensures

pub returns-in_err-entry : goal.returns-in_err-entry
returns-in_err-entry c w b l =
    let p = err_from_is_err_and c.from_residual.result c.from_residual.ensures.1 in
    rw (p.1, p.2) (left_unread w b c.args.self.now l c.next_row.new.self c.in_err-entry.field-0.0 c.if-is_done.ensures c.in_err-entry.ensures)

pub returns : goal.returns
returns c w b l = left_read w b c.args.self.now l c.next_row.new.self c.in_ok-entry.entry c.in_ok-entry.ensures
