-- What a sorted map's invariant holds.
use Rattle.std.specs.Prelude.{vec_items}
use Rattle.std.proofs.Math.Logic.{∥∥₁_elim}
use Rattle.frame_map.specs.Tables.{Table}
use Rattle.frame_map.proofs.LawfulProp.{table_prop}
use Rattle.sorted_map.specs.Decoding.{all_entries}
use Rattle.sorted_map.specs.declared.map.SortedMap.{SortedMap}

-- its rows are a table
pub table_of : (m : SortedMap) → Table (all_entries (vec_items m.image))
table_of m = ∥∥₁_elim m.table (table_prop (all_entries (vec_items m.image))) (λ t. t)
