-- What the words of a sorted image are read as, whatever they hold. On a good image this undoes the layout.
use Rattle.std.specs.Prelude.{ℕ, ◌+◌, ◌*◌, ◌/◌, ◌%◌, List, [], ◌∷◌, map, length, slice_index}
use Rattle.std.specs.List.{range_with_len}
use Rattle.frame_map.specs.Maps.{Rows}
use Rattle.frame_map.specs.Tables.{row_for}
use Rattle.frame_map.specs.declared.row.Entry.{Entry}

-- the entry that five words spell
abbrev pub spelled : ℕ → ℕ → ℕ → ℕ → ℕ → Entry
spelled a b c d e = record {
  point = a / 65536;
  row = record {
    size = a % 256;
    slots = b;
    saved =
        d % 256 ∷ d / 256 % 256 ∷ d / 65536 % 256 ∷ d / 16777216 % 256 ∷
        e % 256 ∷ e / 256 % 256 ∷ e / 65536 % 256 ∷ e / 16777216 % 256 ∷ [];
    registers = c % 65536;
    untouched = c / 65536 % 256;
  };
}

-- row i of an image
unfoldable pub entry_in : List ℕ → ℕ → Entry
entry_in ws i = spelled (slice_index ws (5 * i)) (slice_index ws (5 * i + 1)) (slice_index ws (5 * i + 2)) (slice_index ws (5 * i + 3)) (slice_index ws (5 * i + 4))

-- the first n rows of an image
unfoldable pub first_entries : List ℕ → ℕ → List Entry
first_entries ws n = map (entry_in ws) (range_with_len 0 n)

-- the entries that rows of five words spell
unfoldable pub entries_of : List (List ℕ) → List Entry
entries_of rows = map (λ row. entry_in row 0) rows

-- all rows of an image
abbrev pub all_entries : List ℕ → List Entry
all_entries ws = first_entries ws (length ws / 5)

-- what an image means: for each point the row of the entry that has it
abbrev pub meaning : List ℕ → Rows
meaning ws p = row_for p (all_entries ws)
