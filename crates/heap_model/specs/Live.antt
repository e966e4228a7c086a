-- The live objects of a space, listed from the root words.
use Rattle.std.specs.Prelude.{◌≡◌, ℕ, ◌<◌, List, ◌++◌, length, take, drop, ◌≢◌, slice_index}
use Rattle.std.specs.List.{flat_map}
use Rattle.heap_model.specs.Objects.{Space, refs}

-- the pointer fields of the object at place p
unfoldable pub pointers : Space → ℕ → List ℕ
pointers s p = take (refs s p) (drop p s.words)

-- the words that the roots hold, and then the pointer fields of the objects at ps in turn
abbrev pub mentions : Space → List ℕ → List ℕ → List ℕ
mentions s roots ps = roots ++ flat_map (pointers s) ps

-- w stands in xs
abbrev pub Member : ℕ → List ℕ → Type 0
Member w xs = (n : ℕ) × (n < length xs) × (slice_index xs n ≡ w)

-- the object at w is reached from the roots: a root word names it, or a pointer field of an object that is reached
pub data Reached (s : Space) (roots : List ℕ) : ℕ → Type 0 where
  by_root : {w : ℕ} → 0 < w → Member w roots → Reached s roots w
  by_field : {p w : ℕ} → Reached s roots p → 0 < w → Member w (pointers s p) → Reached s roots w

-- w stands at index n of xs and nowhere before
abbrev pub First : List ℕ → ℕ → ℕ → Type 0
First xs w n = (n < length xs) × (slice_index xs n ≡ w) × ((k : ℕ) → k < n → slice_index xs k ≢ w)

-- ps lists the places of the live objects
pub record Listing (s : Space) (roots ps : List ℕ) : Type 0 where
  -- none twice
  pub once : (i k : ℕ) → i < k → k < length ps → slice_index ps i ≢ slice_index ps k
  -- 0 is none
  pub some : (k : ℕ) → k < length ps → 0 < slice_index ps k
  -- each is a root word or a pointer field of an earlier one
  pub early : (k : ℕ) → k < length ps → Member (slice_index ps k) (mentions s roots (take k ps))
  -- each root word and each pointer field of a listed object is 0 or listed
  pub closed : (w : ℕ) → 0 < w → Member w (mentions s roots ps) → Member w ps
  -- they stand in the order in which they are first mentioned
  pub ordered : (i k m n : ℕ) → i < k → k < length ps → First (mentions s roots ps) (slice_index ps i) m → First (mentions s roots ps) (slice_index ps k) n → m < n
