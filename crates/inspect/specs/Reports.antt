-- What is shown of an image file.
use Rattle.std.specs.Prelude.{◌≡◌, ℕ, List, ◌++◌, length, codes, decimal}
use Rattle.std.specs.List.{flat_map}
use Rattle.delta_image.specs.Buckets.{DeltaMeans}
use Rattle.delta_map.specs.Faults.{RefusedDelta}
use Rattle.frame_map.specs.Texts.{entry_text}
use Rattle.frame_map.specs.declared.row.Entry.{Entry}
use Rattle.sorted_map.specs.File.{FileMeans}
use Rattle.sorted_map.specs.declared.load.LoadError.{LoadError}
use Rattle.sorted_map.specs.declared.load.LoadError.TheVariants.{NoMemory, Refused}

-- the line of a row
abbrev pub entry_line : Entry → List ℕ
entry_line e = entry_text e ++ codes "\n"

-- how many rows there are, and a line for each
unfoldable pub text_of_rows : List Entry → List ℕ
text_of_rows es = (decimal (length es) ++ codes " rows\n") ++ flat_map entry_line es

-- an image means a table, and the text shows its rows
pub record Shows (Meant : List Entry → Type 0) (text : List ℕ) : Type 0 where
  pub entries : List Entry
  pub means : Meant entries
  pub told : text ≡ text_of_rows entries

-- the text shows a sorted image's file
abbrev pub GoodFile : List ℕ → List ℕ → Type 0
GoodFile bytes = Shows (FileMeans bytes)

-- and a delta image
abbrev pub GoodDelta : List ℕ → List ℕ → Type 0
GoodDelta image = Shows (DeltaMeans image)

-- memory ran out, or the delta image is bad
abbrev pub DeltaFailed : List ℕ → LoadError → Type 0
DeltaFailed image NoMemory = Unit {0}
DeltaFailed image (Refused e) = RefusedDelta image e
