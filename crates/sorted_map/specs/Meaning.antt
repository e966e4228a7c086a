-- What a sorted map means.
use Rattle.std.specs.Prelude.{◌≡◌, ℕ, ◌/◌, List, length, vec_items}
use Rattle.frame_map.specs.Maps.{Rows}
use Rattle.frame_map.specs.Tables.{row_for}
use Rattle.frame_map.specs.declared.row.Entry.{Entry}
use Rattle.sorted_map.specs.Decoding.{meaning}
use Rattle.sorted_map.specs.Layout.{Means}
use Rattle.sorted_map.specs.declared.map.SortedMap.{SortedMap}

-- for each point the row of the image's entry that has it
abbrev pub rows_of : SortedMap → Rows
rows_of m = meaning (vec_items m.image)

abbrev pub count_of : SortedMap → ℕ
count_of m = m.count

-- a map made from an image means exactly the rows that the image was laid out from, and was not asked yet
pub record MadeFrom (image : List ℕ) (m : SortedMap) : Type 0 where
  pub entries : List Entry
  pub means : Means image entries
  pub many : length entries ≡ length (vec_items m.image) / 5
  pub rows : (p : ℕ) → rows_of m p ≡ row_for p entries
  pub fresh : count_of m ≡ 0
