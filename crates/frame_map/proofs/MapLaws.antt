-- The list of a map's entries, one point more at a time.
use Rattle.std.proofs.Common.{◌≡◌, ℕ, ◌+◌, [], ◌++◌, refl, add-one}
use Rattle.frame_map.specs.Maps.{Rows, entry_of, entries_below}

pub entries_none : (rows : Rows) → entries_below rows 0 ≡ []
unfolding entries_below
entries_none rows = refl

pub entries_more : (rows : Rows) (n : ℕ) → entries_below rows (n + 1) ≡ entries_below rows n ++ entry_of n (rows n)
unfolding entries_below
entries_more rows n = rw add-one
