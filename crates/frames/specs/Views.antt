-- What a call does, seen from a machine that stands for a model.
use Rattle.std.specs.Prelude.{◌≡◌, ℕ, zero, suc, ◌+◌, ◌%◌, ◌^◌, cond, ◌||◌, List, drop, Result, MatchResult, ◌==◌}
use Rattle.frame_map.specs.Maps.{Rows}
use Rattle.refusal.specs.Numbers.{number_of}
use Rattle.refusal.specs.declared.Refusal.{Refusal}
use Rattle.scan.specs.Frames.{top}
use Rattle.frames.specs.Models.{Model, frames}
use Rattle.frames.specs.Reasons.{Reason, Clear, First}
use Rattle.frames.specs.Standing.{Stands}
use Rattle.frames.specs.declared.state.State.{State}

-- a machine as its parts are: the map's rows and lookup count, the memory's words, and the state
pub record View : Type 0 where
  pub rows : Rows
  pub count : ℕ
  pub words : List ℕ
  pub state : State

abbrev pub view : Rows → ℕ → List ℕ → State → View
view rows count words state = record { rows = rows; count = count; words = words; state = state }

-- the same, by what the map and the memory mean
abbrev pub seen : {M S : Type 0} → (M → Rows) → (M → ℕ) → (S → List ℕ) → M → S → State → View
seen rows count words map memory state = view (rows map) (count map) (words memory) state

abbrev pub StandsFor : View → Model → Type 0
StandsFor v s = Stands v.rows v.words v.state s

-- a lookup count after n lookups
unfoldable pub after : ℕ → ℕ → ℕ
after n zero = n
after n (suc k) = (after n k + 1) % 2 ^ 32

-- words from place n on keep their contents
abbrev pub Keeps : ℕ → View → View → Type 0
Keeps n v w = drop n w.words ≡ drop n v.words

-- a call is accepted: no reason stands against it, k lookups were made, the machine then stands for t, and the words behind t's frames keep their contents
pub record Accepted (v w : View) (why : List Reason) (k : ℕ) (t : Model) : Type 0 where
  pub clear : Clear why
  pub stands : StandsFor w t
  pub counted : w.count ≡ after v.count k
  pub keeps : Keeps (top (frames t)) v w

-- a refusal for a missing or another row has cost a lookup, any other none
abbrev pub cost : ℕ → ℕ
cost n = cond (n == 8 || n == 9) 1 0

-- a call is refused: by the first reason that stands, and the machine and all its words stay
pub record Refused (v w : View) (why : List Reason) (s : Model) (e : Refusal) : Type 0 where
  pub first : First why (number_of e)
  pub stands : StandsFor w s
  pub counted : w.count ≡ after v.count (cost (number_of e))
  pub keeps : w.words ≡ v.words

-- what a call promises of every model that the machine stands for: it is refused by the first reason that stands and leaves all as it was,
-- or no reason stands, it looks up so often, the machine then stands for the next model, and the answer is the model's
abbrev pub Promises : {A : Type 0} → View → View → (Model → List Reason) → (Model → ℕ) → (Model → Model) → (Model → A → Type 0) → Result A Refusal → Type 0
Promises v w why lookups next answer r =
    (s : Model) → StandsFor v s → MatchResult r (λ a. Accepted v w (why s) (lookups s) (next s) × answer s a) (λ e. Refused v w (why s) s e)
