-- What a delta map means.
use Rattle.std.specs.Prelude.{◌≡◌, ℕ, List, vec_items}
use Rattle.frame_map.specs.Maps.{Rows}
use Rattle.frame_map.specs.Tables.{row_for}
use Rattle.frame_map.specs.declared.row.Entry.{Entry}
use Rattle.delta_image.specs.Buckets.{DeltaMeans}
use Rattle.delta_image.proofs.Unique.{the_table}
use Rattle.delta_map.specs.declared.map.DeltaMap.{DeltaMap}

-- the one table that the map's image was laid out from
unfoldable pub entries_of : DeltaMap → List Entry
entries_of m = (the_table (vec_items m.image) m.table).0

-- for each point its row in that table
abbrev pub rows_of : DeltaMap → Rows
rows_of m p = row_for p (entries_of m)

abbrev pub count_of : DeltaMap → ℕ
count_of m = m.count

-- a map made from an image means exactly the rows that the image was laid out from, and was not asked yet
pub record MadeFromDelta (image : List ℕ) (m : DeltaMap) : Type 0 where
  pub entries : List Entry
  pub means : DeltaMeans image entries
  pub rows : (p : ℕ) → rows_of m p ≡ row_for p entries
  pub fresh : count_of m ≡ 0
