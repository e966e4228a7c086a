-- Why a call says no, in the model's words. Reasons are listed by rising number: the first that stands is told, and a call is accepted exactly if none does.
use Rattle.std.specs.Prelude.{◌≡◌, ℕ, ◌+◌, ◌<◌, ◌≤◌, ◌⊎◌, List, [], ◌∷◌, length, Some, None, Option, ◌≢◌, slice_index_or}
use Rattle.frame_map.specs.declared.row.Row.{Row}
use Rattle.scan.specs.Frames.{size, top}
use Rattle.frames.specs.Models.{running, Model, frames, newest}
use Rattle.frames.specs.Standing.{no_handler}
use Rattle.frames.specs.declared.state.Phase.{Phase}
use Rattle.frames.specs.declared.state.Phase.TheVariants.{Unstarted}

-- a number and when it applies
pub record Reason : Type 1 where
  pub number : ℕ
  pub why : Type 0

abbrev pub because : ℕ → Type 0 → Reason
because n why = record { number = n; why = why }

-- no reason stands
abbrev pub Clear : List Reason → Type 0
Clear [] = Unit {0}
Clear (r ∷ rs) = (r.why → ⊥) × Clear rs

-- number k is that of the first reason that stands
abbrev pub First : List Reason → ℕ → Type 0
First [] k = ⊥
First (r ∷ rs) k = ((k ≡ r.number) × r.why) ⊎ ((r.why → ⊥) × First rs k)

-- the script does not run
abbrev pub NotRunning : Model → Type 0
NotRunning s = s.stage ≡ running → ⊥

-- the point has no row
abbrev pub Rowless : Option Row → Type 0
Rowless None = Unit {0}
Rowless (Some r) = ⊥

-- the row describes a frame of another size
abbrev pub Misfit : Option Row → ℕ → Type 0
Misfit None n = ⊥
Misfit (Some r) n = r.size ≡ n → ⊥

-- a frame has 1 to 32 words
abbrev pub FairSize : ℕ → Type 0
FairSize n = (1 ≤ n) × (n ≤ 32)

-- a handler of frame i stands
abbrev pub HandlerOf : Model → ℕ → Type 0
HandlerOf s i = (k : ℕ) × (k < length s.handlers) × ((slice_index_or s.handlers k no_handler).frame ≡ i)

-- a start needs a spacing of 4 to 64, and a first frame of 1 to 32 words for which there is room
abbrev pub FairStart : ℕ → ℕ → ℕ → Type 0
FairStart room m n = (4 ≤ m) × (m ≤ 64) × FairSize n × (n ≤ room)

abbrev pub start_reasons : Phase → ℕ → ℕ → ℕ → List Reason
start_reasons phase room m n =
    because 1 (phase ≢ Unstarted) ∷
    because 2 (FairStart room m n → ⊥) ∷
    []

abbrev pub enter_reasons : Model → ℕ → ℕ → List Reason
enter_reasons s p n =
    because 1 (NotRunning s) ∷
    because 5 (FairSize n → ⊥) ∷
    because 7 ((256 ≤ length (frames s)) ⊎ (s.room < top (frames s) + n)) ∷
    because 8 (Rowless (s.rows p)) ∷
    because 9 (Misfit (s.rows p) (size s.current)) ∷
    []

abbrev pub leave_reasons : Model → List Reason
leave_reasons s =
    because 1 (NotRunning s) ∷
    because 10 (newest s ≡ 0) ∷
    because 11 (HandlerOf s (newest s)) ∷
    []

abbrev pub try_reasons : Model → ℕ → List Reason
try_reasons s q =
    because 1 (NotRunning s) ∷
    because 7 (64 ≤ length s.handlers) ∷
    because 8 (Rowless (s.rows q)) ∷
    because 9 (Misfit (s.rows q) (size s.current)) ∷
    []

abbrev pub untry_reasons : Model → List Reason
untry_reasons s =
    because 1 (NotRunning s) ∷
    because 10 (HandlerOf s (newest s) → ⊥) ∷
    []

abbrev pub raise_reasons : Model → List Reason
raise_reasons s =
    because 1 (NotRunning s) ∷
    because 10 (s.handlers ≡ []) ∷
    []

-- slots are words 1 to size - 1 of a frame
abbrev pub slot_reasons : Model → ℕ → List Reason
slot_reasons s i =
    because 1 (NotRunning s) ∷
    because 5 ((1 ≤ i) × (i < size s.current) → ⊥) ∷
    []

abbrev pub register_reasons : Model → ℕ → List Reason
register_reasons s k =
    because 1 (NotRunning s) ∷
    because 5 (k < 16 → ⊥) ∷
    []

-- room is the length of the caller's buffer
abbrev pub survey_reasons : Model → ℕ → ℕ → List Reason
survey_reasons s p room =
    because 1 (NotRunning s) ∷
    because 6 (room < top (frames s) + 16) ∷
    because 8 (Rowless (s.rows p)) ∷
    because 9 (Misfit (s.rows p) (size s.current)) ∷
    []
