-- The rows of a delta map, by any table that its image has.
use Rattle.std.proofs.Common.{◌≡◌, ℕ, ◌≤◌, List, None, vec_items, sym, ap, subst}
use mathlib.Core.Path.{fun_ext}
use Rattle.frame_map.specs.Tables.{row_for}
use Rattle.frame_map.specs.declared.row.Entry.{Entry}
use Rattle.frame_map.proofs.Listing.{table_rising}
use Rattle.frame_map.proofs.Rising.{rises_above}
use Rattle.delta_image.specs.Buckets.{DeltaMeans}
use Rattle.delta_image.proofs.Exact.{table_unique}
use Rattle.delta_image.proofs.Unique.{the_table}
use Rattle.delta_map.specs.Meaning.{entries_of, rows_of}
use Rattle.delta_map.specs.declared.map.DeltaMap.{DeltaMap}

pub entries_mean : (m : DeltaMap) → DeltaMeans (vec_items m.image) (entries_of m)
unfolding entries_of
entries_mean m = (the_table (vec_items m.image) m.table).1

pub rows_are : (m : DeltaMap) (es : List Entry) → DeltaMeans (vec_items m.image) es → (p : ℕ) → rows_of m p ≡ row_for p es
rows_are m es h p = ap (λ l. row_for p l) (table_unique (vec_items m.image) (entries_of m) es (entries_mean m) h)

pub rows_same : (m n : DeltaMap) → vec_items n.image ≡ vec_items m.image → rows_of n ≡ rows_of m
rows_same m n e = fun_ext (λ p. rows_are n (entries_of m) (subst (λ w. DeltaMeans w (entries_of m)) (sym e) (entries_mean m)) p)

-- a word that is no point has no row
pub rows_past : (m : DeltaMap) (p : ℕ) → 65536 ≤ p → rows_of m p ≡ None
rows_past m p l = rises_above 1 65536 p (entries_of m) (table_rising (entries_of m) (entries_mean m).table) l
