-- The rows of an image: a table from points to rows.
use Rattle.std.specs.Prelude.{ℕ, ◌<◌, ◌≤◌, cond, List, [], ◌∷◌, length, replicate, Some, None, Option, ◌==◌, slice_index_or}
use Rattle.frame_map.specs.Maps.{Point}
use Rattle.frame_map.specs.Rows.{Lawful}
use Rattle.frame_map.specs.declared.row.Entry.{Entry}
use Rattle.frame_map.specs.declared.row.Row.{Row}

-- what a list of entries is said to have past its end
abbrev pub blank : Entry
blank = record { point = 0; row = record { size = 0; slots = 0; saved = replicate 8 0; registers = 0; untouched = 0 } }

-- entry i of a list
abbrev pub entry_at : List Entry → ℕ → Entry
entry_at es i = slice_index_or es i blank

-- at most 1,024 lawful rows at points that rise strictly
pub record Table (es : List Entry) : Type 0 where
  pub few : length es ≤ 1024
  pub lawful : (i : ℕ) → i < length es → Lawful (entry_at es i).row
  pub points : (i : ℕ) → i < length es → Point (entry_at es i).point
  pub rises : (i j : ℕ) → i < j → j < length es → (entry_at es i).point < (entry_at es j).point

-- the row that a list of entries has for p: that of the first entry with this point
unfoldable pub row_for : ℕ → List Entry → Option Row
row_for p [] = None
row_for p (e ∷ es) = cond (e.point == p) (Some e.row) (row_for p es)
