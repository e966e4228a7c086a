use Rattle.std.proofs.Common.{string_bytes}
use Rattle.sorted_map.specs.File.{FileMeans}
use Rattle.sorted_map.specs.Meaning.{rows_of}
use Rattle.inspect.proofs.ShowLaws.{shown}
use Rattle.inspect.proofs.sorted_rows.Goals as goal

pub returns : goal.returns
returns c =
    let m = c.in_ok-map.ensures.made in
    shown (FileMeans c.args.bytes.now) (rows_of c.in_ok-map.map) m.entries (string_bytes c.in_ok-rows_text.field-0)
    (record { whole = c.in_ok-map.ensures.whole; means = m.means }) m.means.table m.rows c.in_ok-rows_text.ensures
