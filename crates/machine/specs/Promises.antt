-- What the calls of a machine promise.
use Rattle.std.specs.Prelude.{◌≡◌, ℕ, ◌+◌, ◌-◌, ◌<◌, ◌≤◌, List, length, Result, MatchResult, slice_index}
use Rattle.frame_map.specs.Maps.{Rows}
use Rattle.refusal.specs.Numbers.{number_of}
use Rattle.refusal.specs.declared.Refusal.{Refusal}
use Rattle.refusal.specs.declared.Refusal.TheVariants.{OutOfRange}
use Rattle.frames.specs.Reasons.{First, start_reasons, enter_reasons, leave_reasons, try_reasons, untry_reasons, raise_reasons, slot_reasons, register_reasons}
use Rattle.frames.specs.Changes.{started, entered, left, tried, untried, raised, with_slot, with_register, top_handler}
use Rattle.frames.specs.Views.{View, seen, Accepted, Promises}
use Rattle.frames.specs.Tables.{depth}
use Rattle.frames.specs.declared.records.Handler.{Handler}
use Rattle.frames.specs.declared.state.State.{State}
use Rattle.machine.specs.declared.machine.Machine.{Machine}
use Rattle.machine.specs.declared.tokens.Pass.{Pass}

-- a machine as its parts are
abbrev pub view_of : {M S : Type 0} → (M → Rows) → (M → ℕ) → (S → List ℕ) → Machine M S → View
view_of rows count words m = seen rows count words m.map m.memory m.state

-- the place of a slot of the running frame in the memory, where the frame has that slot
abbrev pub SlotPlace : State → ℕ → Result ℕ Refusal → Type 0
SlotPlace st i r =
    let base = slice_index st.edges (depth st - 1) in
    let top = slice_index st.edges (depth st) in
    MatchResult r (λ place. (place ≡ base + i) × (1 ≤ i) × (base + i < top)) (λ e. (e ≡ OutOfRange) × ((1 ≤ i) × (base + i < top) → ⊥))

-- a start is refused by the first reason that stands and changes nothing; or none stands, and the machine stands for a fresh start
abbrev pub Starts : View → View → ℕ → ℕ → Result Pass Refusal → Type 0
Starts v w m n r =
    MatchResult r
    (λ _. Accepted v w (start_reasons v.state.phase (length v.words) m n) 0 (started v.rows (length v.words) m n))
    (λ e. First (start_reasons v.state.phase (length v.words) m n) (number_of e) × (w ≡ v))

abbrev pub Enters : View → View → ℕ → ℕ → Result (Unit {0}) Refusal → Type 0
Enters v w p n r = Promises v w (λ s. enter_reasons s p n) (λ _. 1) (λ s. entered s p n) (λ _ _. Unit {0}) r

-- the answer is the point where the frame waits that then runs
abbrev pub Leaves : View → View → Result ℕ Refusal → Type 0
Leaves v w r = Promises v w leave_reasons (λ _. 1) left (λ s a. a ≡ s.current.back) r

abbrev pub Tries : View → View → ℕ → Result (Unit {0}) Refusal → Type 0
Tries v w q r = Promises v w (λ s. try_reasons s q) (λ _. 1) (λ s. tried s q) (λ _ _. Unit {0}) r

abbrev pub Untries : View → View → Result (Unit {0}) Refusal → Type 0
Untries v w r = Promises v w untry_reasons (λ _. 0) untried (λ _ _. Unit {0}) r

-- the answer is the newest handler
abbrev pub Raises : View → View → Result Handler Refusal → Type 0
Raises v w r = Promises v w raise_reasons (λ _. 0) raised (λ s a. a ≡ top_handler s) r

abbrev pub Gets : View → View → ℕ → Result ℕ Refusal → Type 0
Gets v w i r = Promises v w (λ s. slot_reasons s i) (λ _. 0) (λ s. s) (λ s a. a ≡ slice_index s.current.slots (i - 1)) r

abbrev pub Puts : View → View → ℕ → ℕ → Result (Unit {0}) Refusal → Type 0
Puts v w i x r = Promises v w (λ s. slot_reasons s i) (λ _. 0) (λ s. with_slot s i x) (λ _ _. Unit {0}) r

abbrev pub GetsRegister : View → View → ℕ → Result ℕ Refusal → Type 0
GetsRegister v w k r = Promises v w (λ s. register_reasons s k) (λ _. 0) (λ s. s) (λ s a. a ≡ slice_index s.registers k) r

abbrev pub PutsRegister : View → View → ℕ → ℕ → Result (Unit {0}) Refusal → Type 0
PutsRegister v w k x r = Promises v w (λ s. register_reasons s k) (λ _. 0) (λ s. with_register s k x) (λ _ _. Unit {0}) r
