-- How rows are laid out as a sorted image, and which images are good.
use Rattle.std.specs.Prelude.{◌≡◌, ℕ, ◌+◌, ◌*◌, ◌<◌, List, [], ◌∷◌, ◌++◌, length, take}
use Rattle.frame_map.specs.Rows.{saved_slot}
use Rattle.frame_map.specs.Tables.{Table}
use Rattle.frame_map.specs.declared.row.Entry.{Entry}
use Rattle.frame_map.specs.declared.row.Row.{Row}
use Rattle.refusal.specs.declared.ImageFault.{ImageFault}
use Rattle.refusal.specs.declared.Place.TheVariants.{Word}
use Rattle.refusal.specs.declared.Refusal.{Refusal}
use Rattle.refusal.specs.declared.Refusal.TheVariants.{BadImage}

-- a row takes five words
abbrev pub row_words : ℕ
row_words = 5

-- the saved slots of four registers from r(8 + k) on, a byte each, the first lowest
abbrev pub saved_word : Row → ℕ → ℕ
saved_word r k = saved_slot r k + saved_slot r (k + 1) * 256 + saved_slot r (k + 2) * 65536 + saved_slot r (k + 3) * 16777216

-- the five words of a row
abbrev pub sorted_row : Entry → List ℕ
sorted_row e =
    (e.point * 65536 + e.row.size) ∷
    e.row.slots ∷
    (e.row.registers + e.row.untouched * 65536) ∷
    saved_word e.row 0 ∷
    saved_word e.row 4 ∷
    []

-- the words of an image: those of its rows, in order
unfoldable pub sorted_words : List Entry → List ℕ
sorted_words [] = []
sorted_words (e ∷ es) = sorted_row e ++ sorted_words es

-- the image is that of a table
pub record Means (image : List ℕ) (es : List Entry) : Type 0 where
  pub table : Table es
  pub laid : sorted_words es ≡ image

-- the first n rows of the image are those of a table
pub record GoodRows (image : List ℕ) (n : ℕ) : Type 0 where
  pub entries : List Entry
  pub table : Table entries
  pub many : length entries ≡ n
  pub laid : sorted_words entries ≡ take (row_words * n) image

-- row n is the first bad one: the rows before it are good, more words follow, and with row n they are good no longer
pub record FirstBad (image : List ℕ) (n : ℕ) : Type 0 where
  pub before : GoodRows image n
  pub follows : row_words * n < length image
  pub bad : GoodRows image (n + 1) → ⊥

-- the fault that tells row n of a sorted image, by its first word
abbrev pub sorted_fault : ℕ → ImageFault
sorted_fault n = record { row = n; place = Word (row_words * n) }

-- the image is that of a table of n rows
pub record HasRows (image : List ℕ) (n : ℕ) : Type 0 where
  pub entries : List Entry
  pub many : length entries ≡ n
  pub means : Means image entries

-- the image is that of no table, and the refusal tells its first bad row
pub record RefusedImage (image : List ℕ) (e : Refusal) : Type 0 where
  pub row : ℕ
  pub tells : e ≡ BadImage (sorted_fault row)
  pub first : FirstBad image row
  pub none : (es : List Entry) → Means image es → ⊥
