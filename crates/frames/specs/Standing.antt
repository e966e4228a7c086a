-- When a machine stands for a model.
use Rattle.std.specs.Prelude.{◌≡◌, ℕ, suc, ◌+◌, ◌*◌, ◌/◌, ◌%◌, ◌^◌, ◌<◌, ◌≤◌, List, [], ◌∷◌, ◌++◌, length, get_or, take, Some, None, Option, Result, MatchResult, ◌≢◌, slice_index, slice_index_or}
use Rattle.frame_map.specs.Maps.{Rows}
use Rattle.frame_map.specs.declared.row.Row.{Row}
use Rattle.refusal.specs.declared.Refusal.{Refusal}
use Rattle.refusal.specs.declared.Refusal.TheVariants.{NoRow, OtherSize}
use Rattle.scan.specs.Frames.{Frame, size, top}
use Rattle.scan.specs.Masks.{held, roots_by}
use Rattle.frames.specs.Tables.{records, depth}
use Rattle.frames.specs.Models.{Stage, running, opened, carried, Model, frames, newest}
use Rattle.frames.specs.Layouts.{layout}
use Rattle.frames.specs.declared.records.Handler.{Handler}
use Rattle.frames.specs.declared.records.Marker.{Marker}
use Rattle.frames.specs.declared.records.Record.{Record}
use Rattle.frames.specs.declared.state.Phase.{Phase}
use Rattle.frames.specs.declared.state.Phase.TheVariants.{Running, Opened, Carried}
use Rattle.frames.specs.declared.state.State.{State}

-- what a table is said to have past its end
abbrev pub no_handler : Handler
no_handler = record { frame = 0; point = 0 }

abbrev pub no_marker : Marker
no_marker = record { frame = 0; address = 0 }

abbrev pub no_record : Record
no_record = record { frame = 0; roots = 0; held = 0 }

abbrev pub phase_of : Stage → Phase
phase_of running = Running
phase_of (opened p) = Opened
phase_of (carried p) = Carried

-- a row is there and describes a frame of n words
abbrev pub Describes : Option Row → ℕ → Type 0
Describes None n = ⊥
Describes (Some r) n = r.size ≡ n

-- each waiting frame has a row of its size; the newest of these frames is not waiting
unfoldable pub Waiting : Rows → List Frame → Type 0
Waiting rows [] = Unit {0}
Waiting rows (f ∷ []) = Unit {0}
Waiting rows (f ∷ (g ∷ gs)) = Describes (rows f.back) (size g) × Waiting rows (g ∷ gs)

-- what the full scan gives for a frame f, numbered j, at the point p, above the frames fs
abbrev pub record_of : Rows → ℕ → Frame → List Frame → Record
record_of rows p f fs =
    record { frame = length fs; roots = roots_by (rows p) f.slots (held rows f.back fs); held = held rows p (f ∷ fs) }

-- what the full scan gives for all of these frames, the oldest first, the newest standing at the point p
unfoldable pub scans : Rows → ℕ → List Frame → List Record
scans rows p [] = []
scans rows p (f ∷ fs) = scans rows f.back fs ++ record_of rows p f fs ∷ []

-- the map and the memory are the model's
pub record Placed (rows : Rows) (ws : List ℕ) (st : State) (s : Model) : Type 0 where
  pub rows_are : rows ≡ s.rows
  pub room_is : length ws ≡ s.room
  pub few : s.room ≤ 8192
  pub spaced : st.spacing ≡ s.spacing
  pub least : 4 ≤ s.spacing
  pub most : s.spacing ≤ 64
  pub registers_are : st.registers ≡ s.registers
  pub phased : st.phase ≡ phase_of s.stage
  pub levelled : st.level ≡ s.level
  pub low : s.level ≤ newest s

-- the frames lie in the memory, and the machine knows where
pub record Laid (ws : List ℕ) (st : State) (s : Model) : Type 0 where
  pub laid : take (top (frames s)) ws ≡ layout s.spacing s.level (frames s)
  pub fits : top (frames s) ≤ length ws
  pub deep : depth st ≡ length (frames s)
  pub edged : (xs fs : List Frame) → frames s ≡ xs ++ fs → slice_index st.edges (length fs) ≡ top fs

-- the handlers, of frames that there are, those of older frames first
pub record Handled (st : State) (s : Model) : Type 0 where
  pub handlers_are : records st.handlers ≡ s.handlers
  pub inside : (i : ℕ) → i < length s.handlers → (get_or s.handlers i no_handler).frame ≤ newest s
  pub ordered : (i j : ℕ) → i < j → j < length s.handlers → (get_or s.handlers i no_handler).frame ≤ (get_or s.handlers j no_handler).frame

-- the addresses that the markers replaced: a marker stands in each frame whose number is a multiple of the spacing, up to the low-water mark
pub record Marked (st : State) (s : Model) : Type 0 where
  pub many : length (records st.markers) ≡ s.level / s.spacing
  pub put_by : (xs fs : List Frame) (f : Frame) (k : ℕ) → frames s ≡ xs ++ (f ∷ fs) → length fs ≡ suc k * s.spacing → length fs ≤ s.level →
      slice_index_or (records st.markers) k no_marker ≡ record { frame = length fs; address = f.back }

-- what was learned of the frames below the low-water mark is what the full scan gives
pub record Recorded (rows : Rows) (st : State) (s : Model) : Type 0 where
  pub enough : s.level ≤ length (records st.records)
  pub numbered : (k : ℕ) → k < length (records st.records) → (get_or (records st.records) k no_record).frame ≡ k
  pub known : (xs fs : List Frame) (g f : Frame) → frames s ≡ xs ++ (g ∷ (f ∷ fs)) → length fs < s.level →
      slice_index_or (records st.records) (length fs) no_record ≡ record_of rows g.back f fs

-- all of this but what was learned of frames: a scan relies on it while it learns anew
pub record Kept (rows : Rows) (ws : List ℕ) (st : State) (s : Model) : Type 0 where
  pub placed : Placed rows ws st s
  pub lies : Laid ws st s
  pub marked : Marked st s
  pub waiting : Waiting rows (frames s)

pub record Stands (rows : Rows) (ws : List ℕ) (st : State) (s : Model) : Type 0 where
  pub placed : Placed rows ws st s
  pub lies : Laid ws st s
  pub handled : Handled st s
  pub marked : Marked st s
  pub recorded : Recorded rows st s
  pub waiting : Waiting rows (frames s)

-- a lookup for a frame of n words at p: the row, or why it does not fit
abbrev pub Unfitting : Option Row → ℕ → Refusal → Type 0
Unfitting None n e = e ≡ NoRow
Unfitting (Some r) n e = (e ≡ OtherSize) × (r.size ≢ n)

pub record FittingRow (was is : Rows) (before after p n : ℕ) (r : Result Row Refusal) : Type 0 where
  pub same : is ≡ was
  pub counted : after ≡ (before + 1) % 2 ^ 32
  pub found : MatchResult r (λ row. (was p ≡ Some row) × (row.size ≡ n)) (λ e. Unfitting (was p) n e)
