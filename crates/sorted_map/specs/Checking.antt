-- How the check of a sorted image goes from row to row.
use Rattle.std.specs.Prelude.{◌≡◌, ℕ, zero, suc, ◌+◌, ◌*◌, ◌<◌, List, [], ◌∷◌, slice_index}
use Rattle.frame_map.specs.Rows.{Lawful}
use Rattle.sorted_map.specs.Decoding.{entry_in}
use Rattle.sorted_map.specs.Layout.{sorted_row}

-- the five words of row i
abbrev pub five : List ℕ → ℕ → List ℕ
five ws i = slice_index ws (5 * i) ∷ slice_index ws (5 * i + 1) ∷ slice_index ws (5 * i + 2) ∷ slice_index ws (5 * i + 3) ∷ slice_index ws (5 * i + 4) ∷ []

-- the point of the row before row i, or 0 before the first
unfoldable pub point_before : List ℕ → ℕ → ℕ
point_before ws zero = 0
point_before ws (suc i) = (entry_in ws i).point

-- row i may follow a row at the point `last`: it is lawful, its point lies above, and its words are its layout
pub record Follows (ws : List ℕ) (i last : ℕ) : Type 0 where
  pub lawful : Lawful (entry_in ws i).row
  pub above : last < (entry_in ws i).point
  pub clean : sorted_row (entry_in ws i) ≡ five ws i
