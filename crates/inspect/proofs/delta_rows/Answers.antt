use Rattle.std.proofs.Common.{string_bytes}
use Rattle.delta_image.specs.Buckets.{DeltaMeans}
use Rattle.delta_map.specs.Meaning.{rows_of}
use Rattle.inspect.proofs.ShowLaws.{shown}
use Rattle.inspect.proofs.delta_rows.Goals as goal

pub returns : goal.returns
returns c =
    let m = c.in_ok-map.ensures in
    shown (DeltaMeans c.args.image.items) (rows_of c.in_ok-map.map) m.entries (string_bytes c.in_ok-rows_text.field-0) m.means m.means.table m.rows c.in_ok-rows_text.ensures
