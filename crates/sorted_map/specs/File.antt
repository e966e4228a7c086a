-- Which files are good: a file of a sorted image has its words, low byte first, and nothing else.
use Rattle.std.specs.Prelude.{◌≡◌, ℕ, ◌+◌, ◌*◌, ◌%◌, ◌<◌, List, length}
use Rattle.frame_map.specs.declared.row.Entry.{Entry}
use Rattle.refusal.specs.declared.Refusal.{Refusal}
use Rattle.refusal.specs.declared.Refusal.TheVariants.{BadImage}
use Rattle.words.specs.Bytes.{words_of}
use Rattle.sorted_map.specs.Layout.{Means, GoodRows, sorted_fault}
use Rattle.sorted_map.specs.Meaning.{MadeFrom}
use Rattle.sorted_map.specs.declared.load.LoadError.{LoadError}
use Rattle.sorted_map.specs.declared.load.LoadError.TheVariants.{NoMemory, Refused}
use Rattle.sorted_map.specs.declared.map.SortedMap.{SortedMap}

-- the bytes are whole words and spell the image of a table
pub record FileMeans (bytes : List ℕ) (es : List Entry) : Type 0 where
  pub whole : length bytes % 4 ≡ 0
  pub means : Means (words_of bytes) es

-- the map means exactly the rows that the file's image was laid out from, and was not asked yet
pub record MadeFromFile (bytes : List ℕ) (m : SortedMap) : Type 0 where
  pub whole : length bytes % 4 ≡ 0
  pub made : MadeFrom (words_of bytes) m

-- the file is that of no table, and the refusal tells its first bad row: the rows before it are good,
-- bytes follow (a row has 20), and with this row they are good no longer
pub record RefusedFile (bytes : List ℕ) (e : Refusal) : Type 0 where
  pub row : ℕ
  pub tells : e ≡ BadImage (sorted_fault row)
  pub before : GoodRows (words_of bytes) row
  pub follows : 20 * row < length bytes
  pub bad : GoodRows (words_of bytes) (row + 1) → ⊥
  pub none : (es : List Entry) → FileMeans bytes es → ⊥

-- memory ran out, or the file is bad
abbrev pub LoadFailed : List ℕ → LoadError → Type 0
LoadFailed bytes NoMemory = Unit {0}
LoadFailed bytes (Refused e) = RefusedFile bytes e
