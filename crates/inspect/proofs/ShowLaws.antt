-- The rows that are listed of a map are those of the table that its image means.
use Rattle.std.proofs.Common.{◌≡◌, ℕ, List, ap, ◌∙◌}
use mathlib.Core.Path.{fun_ext}
use Rattle.frame_map.specs.Maps.{Rows, entries_below}
use Rattle.frame_map.specs.Tables.{Table, row_for}
use Rattle.frame_map.specs.declared.row.Entry.{Entry}
use Rattle.frame_map.proofs.Listing.{listed_table}
use Rattle.inspect.specs.Reports.{Shows, text_of_rows}

pub shown : (Meant : List Entry → Type 0) (rows : Rows) (es : List Entry) (text : List ℕ) → Meant es → Table es → ((p : ℕ) → rows p ≡ row_for p es) →
    text ≡ text_of_rows (entries_below rows 65536) → Shows Meant text
shown Meant rows es text means table same told = record {
  entries = es;
  means = means;
  told = told ∙ ap (λ rs. text_of_rows (entries_below rs 65536)) (fun_ext same) ∙ ap text_of_rows (listed_table es table);
}
