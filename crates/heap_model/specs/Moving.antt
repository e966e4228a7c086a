-- A copy in progress.
use Rattle.std.specs.Prelude.{◌≡◌, ℕ, ◌+◌, ◌-◌, ◌<◌, ◌≤◌, Bool, true, false, cond, not, ◌&&◌, ◌||◌, ◌⊎◌, List, [], ◌∷◌, ◌++◌, length, take, set, fold, ◌==◌, slice_index, slice_index_or}
use Rattle.heap_model.specs.Objects.{Space, space, Start, Place, Pointer, refs, plain, size, weigh, Tiled, Sound}
use Rattle.heap_model.specs.Live.{Member, pointers, mentions}
use Rattle.heap_model.specs.Packing.{span, packed}

-- whether w stands in xs
unfoldable pub has : ℕ → List ℕ → Bool
has w [] = false
has w (x ∷ xs) = x == w || has w xs

-- the list after a mention of w: 0 and what is listed already add nothing
unfoldable pub noted : List ℕ → ℕ → List ℕ
noted ps w = cond (w == 0 || has w ps) ps (ps ++ w ∷ [])

-- the words of ms but 0, each once, in order of first mention
abbrev pub firsts : List ℕ → List ℕ
firsts ms = fold noted [] ms

-- the index of the packed header of the k-th object
abbrev pub base : Space → List ℕ → ℕ → ℕ
base s ps k = span s (take k ps)

-- v is what w is renamed to: 0 stays, and a listed place becomes its packed one
abbrev pub Renamed : Space → List ℕ → ℕ → ℕ → Type 0
Renamed s ps w v = ((w ≡ 0) × (v ≡ 0)) ⊎ ((k : ℕ) × (k < length ps) × (slice_index ps k ≡ w) × (v ≡ packed s ps k))

-- a header at index i that is not listed yet
abbrev pub waiting : Space → List ℕ → ℕ → Bool
waiting s ps i = slice_index_or s.starts i false && not (has (i + 1) ps)

-- the buffers of a copy: what is left of the old words, and the space that the objects move to
pub record Buffers : Type 0 where
  pub from : List ℕ
  pub copy : Space

abbrev pub buffers : List ℕ → Space → Buffers
buffers ws t = record { from = ws; copy = t }

-- with one word of the copy written
abbrev pub with_word : Buffers → ℕ → ℕ → Buffers
with_word buf i v = buffers buf.from (space (set buf.copy.words i v) buf.copy.starts buf.copy.used)

-- The objects of s that ps lists have been moved from the old words of `buf` to its copy; pointer fields of the copy below index `scan` are renamed.
pub record Moving (s : Space) (buf : Buffers) (scan : ℕ) (ps : List ℕ) : Type 0 where
  pub sound : Sound s
  pub short : s.used ≤ 16384
  pub long : s.used ≤ length s.words
  -- the buffers keep their size
  pub from_long : length buf.from ≡ length s.words
  pub words_long : length buf.copy.words ≡ length s.words
  pub starts_long : length buf.copy.starts ≡ length s.words
  pub behind : scan ≤ buf.copy.used
  -- the copy is a space of its own
  pub tiled : Tiled buf.copy
  -- what is moved and what waits is all there is, so there is room
  pub room : buf.copy.used + weigh (waiting s ps) s.words s.used ≡ s.used
  pub grown : buf.copy.used ≡ span s ps
  pub objects : (k : ℕ) → k < length ps → Place s (slice_index ps k)
  -- a moved object's old header tells its new place
  pub told : (k : ℕ) → k < length ps → slice_index buf.from (slice_index ps k - 1) ≡ 2147483648 + packed s ps k
  -- an object that waits is untouched
  pub still : (p j : ℕ) → Place s p → (Member p ps → ⊥) → j < size s p → slice_index buf.from (p - 1 + j) ≡ slice_index s.words (p - 1 + j)
  -- the headers of the copy
  pub marked : (k : ℕ) → k < length ps → slice_index_or buf.copy.starts (base s ps k) false ≡ true
  pub only : (i : ℕ) → Start buf.copy i → (k : ℕ) × (k < length ps) × (i ≡ base s ps k)
  pub headed : (k : ℕ) → k < length ps → slice_index buf.copy.words (base s ps k) ≡ slice_index s.words (slice_index ps k - 1)
  -- the fields of the copy: pointer fields renamed below `scan`, as they were from there on; plain fields as they were
  pub passed : (k j : ℕ) → k < length ps → j < refs s (slice_index ps k) → base s ps k + 1 + j < scan → Renamed s ps (slice_index s.words (slice_index ps k + j)) (slice_index buf.copy.words (base s ps k + 1 + j))
  pub ahead : (k j : ℕ) → k < length ps → j < refs s (slice_index ps k) → scan ≤ base s ps k + 1 + j → slice_index buf.copy.words (base s ps k + 1 + j) ≡ slice_index s.words (slice_index ps k + j)
  pub plainly : (k j : ℕ) → k < length ps → refs s (slice_index ps k) ≤ j → j < refs s (slice_index ps k) + plain s (slice_index ps k) → slice_index buf.copy.words (base s ps k + 1 + j) ≡ slice_index s.words (slice_index ps k + j)

-- each listed place is a root word or a pointer field of an earlier one
abbrev pub Early : Space → List ℕ → List ℕ → Type 0
Early s roots ps = (k : ℕ) → k < length ps → Member (slice_index ps k) (mentions s roots (take k ps))

-- The first i root words are forwarded: `was` held them, `roots` holds them now.
pub record Rooting (s : Space) (was roots : List ℕ) (buf : Buffers) (ps : List ℕ) (i : ℕ) : Type 0 where
  pub moving : Moving s buf 0 ps
  pub early : Early s was ps
  pub whole : ps ≡ firsts (take i was)
  pub long : length roots ≡ length was
  pub done : (n : ℕ) → n < i → Renamed s ps (slice_index was n) (slice_index roots n)
  pub rest : (n : ℕ) → i ≤ n → slice_index roots n ≡ slice_index was n
  pub good : (n : ℕ) → n < length was → Pointer s (slice_index was n)

-- The first k objects of the copy are scanned, and `scan` is the header's index of the next.
pub record Scanning (s : Space) (roots : List ℕ) (buf : Buffers) (scan : ℕ) (ps : List ℕ) (k : ℕ) : Type 0 where
  pub moving : Moving s buf scan ps
  pub early : Early s roots ps
  pub whole : ps ≡ firsts (mentions s roots (take k ps))
  pub within : k ≤ length ps
  pub at : scan ≡ base s ps k

-- Of the k-th object the first j pointer fields are renamed.
pub record Fielding (s : Space) (roots : List ℕ) (buf : Buffers) (scan : ℕ) (ps : List ℕ) (k j : ℕ) : Type 0 where
  pub moving : Moving s buf scan ps
  pub early : Early s roots ps
  pub whole : ps ≡ firsts (mentions s roots (take k ps) ++ take j (pointers s (slice_index ps k)))
  pub within : k < length ps
  pub some : j ≤ refs s (slice_index ps k)
  pub at : scan ≡ base s ps k + 1 + j
