-- Objects in a space of words: a header, pointer fields, plain fields, one object behind the other.
use Rattle.std.specs.Prelude.{◌≡◌, ℕ, zero, suc, ◌+◌, ◌-◌, ◌/◌, ◌%◌, ◌<◌, ◌≤◌, Bool, true, false, cond, ◌⊎◌, List, get_or, slice_index, slice_index_or}

-- the words, which of them are headers, and how many words are in use; what lies behind those is free
pub record Space : Type 0 where
  pub words : List ℕ
  pub starts : List Bool
  pub used : ℕ

abbrev pub space : List ℕ → List Bool → ℕ → Space
space ws ms n = record { words = ws; starts = ms; used = n }

-- how many pointer fields, plain fields and words in all an object with this header has
abbrev pub refs_in : ℕ → ℕ
refs_in h = h / 65536

abbrev pub plain_in : ℕ → ℕ
plain_in h = h % 65536

abbrev pub size_in : ℕ → ℕ
size_in h = 1 + (refs_in h + plain_in h)

-- an object's header stands at index i
abbrev pub Start : Space → ℕ → Type 0
Start s i = (i < s.used) × (slice_index_or s.starts i false ≡ true)

-- w is an object's place: its header's index + 1
abbrev pub Place : Space → ℕ → Type 0
Place s w = (0 < w) × Start s (w - 1)

-- w may stand in a pointer field: it is 0, or else an object's place
abbrev pub Pointer : Space → ℕ → Type 0
Pointer s w = 0 < w → Place s w

-- the object at place p: its header, its counts, its size, its field j
abbrev pub header : Space → ℕ → ℕ
header s p = slice_index s.words (p - 1)

abbrev pub refs : Space → ℕ → ℕ
refs s p = refs_in (header s p)

abbrev pub plain : Space → ℕ → ℕ
plain s p = plain_in (header s p)

abbrev pub size : Space → ℕ → ℕ
size s p = size_in (header s p)

abbrev pub field : Space → ℕ → ℕ → ℕ
field s p j = slice_index s.words (p + j)

-- the sizes of the objects with a header below index n that the test t picks, summed
unfoldable pub weigh : (ℕ → Bool) → List ℕ → ℕ → ℕ
weigh t ws zero = 0
weigh t ws (suc n) = weigh t ws n + cond (t n) (size_in (slice_index ws n)) 0

-- objects lie inside the used words
abbrev pub Inside : Space → Type 0
Inside s = (i : ℕ) → Start s i → i + size_in (slice_index s.words i) ≤ s.used

-- no header stands inside an object
abbrev pub Apart : Space → Type 0
Apart s = (i k : ℕ) → Start s i × (i < k) × (k < i + size_in (slice_index s.words i)) → slice_index_or s.starts k false ≡ false

-- the sizes sum to the used words, so there are no gaps
abbrev pub Total : Space → Type 0
Total s = weigh (λ i. get_or s.starts i false) s.words s.used ≡ s.used

-- both counts are at most 255
abbrev pub Counts : Space → Type 0
Counts s = (i : ℕ) → Start s i → (refs_in (slice_index s.words i) ≤ 255) × (plain_in (slice_index s.words i) ≤ 255)

-- every pointer field is 0 or an object's place: it does not pass the used words, and where it is not 0 a header stands there
abbrev pub Near : Space → Type 0
Near s = (i j : ℕ) → Start s i × (j < refs_in (slice_index s.words i)) → slice_index s.words (i + 1 + j) ≤ s.used

abbrev pub Closed : Space → Type 0
Closed s = (i j : ℕ) → Start s i × (j < refs_in (slice_index s.words i)) × (0 < slice_index s.words (i + 1 + j)) → slice_index_or s.starts (slice_index s.words (i + 1 + j) - 1) false ≡ true

-- objects without gaps
pub record Tiled (s : Space) : Type 0 where
  pub inside : Inside s
  pub apart : Apart s
  pub total : Total s
  pub counts : Counts s

-- objects without gaps whose pointers point at objects
pub record Sound (s : Space) : Type 0 where
  pub tiled : Tiled s
  pub near : Near s
  pub closed : Closed s

-- the first object begins at index 0, and where an object ends the next begins or the used words end
abbrev pub Gapless : Space → Type 0
Gapless s = (0 < s.used → Start s 0) × ((i : ℕ) → Start s i → (i + size_in (slice_index s.words i) ≡ s.used) ⊎ Start s (i + size_in (slice_index s.words i)))
