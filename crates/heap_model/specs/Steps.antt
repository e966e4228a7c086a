-- What the steps of a copy do to plain buffers.
use Rattle.std.specs.Prelude.{◌≡◌, ℕ, ◌+◌, ◌<◌, ◌≤◌, Bool, true, false, List, [], length, get_or, slice_index_or}
use Rattle.heap_model.specs.Objects.{Space, Place, Pointer, Sound}
use Rattle.heap_model.specs.Live.{Member, mentions}
use Rattle.heap_model.specs.Moving.{Buffers, Moving, Renamed, noted, firsts, Early, Rooting, Scanning}
use Rattle.heap_model.specs.Packing.{Collected}

-- `first` is written at index `at`, and `rest` into the entries behind it, `size` in all; entries below stay
pub record Written {X : Type 0} (was now' : List X) (none : X) (at size : ℕ) (first rest : X) : Type 0 where
  pub long : length now' ≡ length was
  pub below : (i : ℕ) → i < at → slice_index_or now' i none ≡ slice_index_or was i none
  pub here : get_or now' at none ≡ first
  pub inner : (i : ℕ) → at < i → i < at + size → slice_index_or now' i none ≡ rest

-- a header is marked at index `at`, and none in the words behind it
abbrev pub Marked : List Bool → List Bool → ℕ → ℕ → Type 0
Marked was now' at size = Written was now' false at size true false

-- a header is written at index `at`, and 0 into the words behind it
abbrev pub Laid : List ℕ → List ℕ → ℕ → ℕ → ℕ → Type 0
Laid was now' at head size = Written was now' 0 at size head 0

-- the object at place p waits in a copy in progress
abbrev pub Waits : Buffers → ℕ → Type 0
Waits buf p = (s : Space) × (scan : ℕ) × (ps : List ℕ) × Moving s buf scan ps × Place s p × (Member p ps → ⊥)

-- a word that may stand in a pointer field, in a copy in progress
abbrev pub Movable : Buffers → ℕ → Type 0
Movable buf w = (s : Space) × (scan : ℕ) × (ps : List ℕ) × Moving s buf scan ps × Pointer s w

-- w was forwarded and became v: it is listed now, unless it is 0 or was listed already
pub record Forwarded (s : Space) (buf : Buffers) (scan : ℕ) (ps : List ℕ) (w v : ℕ) : Type 0 where
  pub moving : Moving s buf scan (noted ps w)
  pub renamed : Renamed s (noted ps w) w v

-- an object of the copy waits for its scan, with its header at index `scan`
abbrev pub Scannable : Buffers → ℕ → Type 0
Scannable buf scan = (s : Space) × (roots : List ℕ) × (ps : List ℕ) × (k : ℕ) × Scanning s roots buf scan ps k × (k < length ps)

-- what was renamed by the list ps is by the list qs
abbrev pub Keeps : Space → List ℕ → List ℕ → Type 0
Keeps s ps qs = (w v : ℕ) → Renamed s ps w v → Renamed s qs w v

-- the first k objects of the copy are scanned, and the list has grown from ps
abbrev pub Scanned : Space → List ℕ → List ℕ → Buffers → ℕ → ℕ → Type 0
Scanned s roots ps buf scan k = (qs : List ℕ) × Scanning s roots buf scan qs k × Keeps s ps qs

-- no object of the copy is scanned
abbrev pub Unscanned : Buffers → Type 0
Unscanned buf = (s : Space) × (roots : List ℕ) × (ps : List ℕ) × Scanning s roots buf 0 ps 0

-- all are, and the list has grown from ps
abbrev pub Finished : Space → List ℕ → List ℕ → Buffers → Type 0
Finished s roots ps buf = (qs : List ℕ) × Moving s buf buf.copy.used qs × Early s roots qs × (qs ≡ firsts (mentions s roots qs)) × Keeps s ps qs

-- no root word is forwarded
abbrev pub Unmoved : Buffers → List ℕ → Type 0
Unmoved buf roots = (s : Space) × Rooting s roots roots buf [] 0

-- the first i are
abbrev pub Rooted : Space → List ℕ → List ℕ → Buffers → ℕ → Type 0
Rooted s was roots buf i = (ps : List ℕ) × Rooting s was roots buf ps i

-- the live objects are copied and the root words renamed
pub record Gathered (s : Space) (roots roots' : List ℕ) (buf : Buffers) : Type 0 where
  pub sound : Sound buf.copy
  pub fits : buf.copy.used ≤ s.used
  pub from_long : length buf.from ≡ length s.words
  pub words_long : length buf.copy.words ≡ length s.words
  pub starts_long : length buf.copy.starts ≡ length s.words
  pub list : List ℕ
  pub collected : Collected s buf.copy roots roots' list
