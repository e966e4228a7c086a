-- Tables of records, and how many frames there are.
use Rattle.std.specs.Prelude.{◌≡◌, ℕ, ◌-◌, ◌<◌, ◌≤◌, List, [], ◌∷◌, ◌++◌, length, slice_index_or}
use Rattle.frames.specs.declared.state.State.{State}

-- the records of a table, the oldest first: a contract sees a table as the list of them
abbrev pub records : {R : Type 0} → List R → List R
records t = t

-- how many frames there are: a state has an edge for each, and one more
abbrev pub depth : State → ℕ
depth st = length st.edges - 1

-- x is the newest of these records, and ys are the others
abbrev pub Newest : {R : Type 0} → List R → R → List R → Type 0
Newest xs x ys = xs ≡ ys ++ x ∷ []

-- from the newest on, records of frames above h are dropped, up to the first of a frame that is not above h: these are dropped, those are left
pub record DroppedAbove {R : Type 0} (frame : R → ℕ) (h : ℕ) (before after : List R) : Type 0 where
  pub dropped : List R
  pub parts : before ≡ after ++ dropped
  pub above : (k : ℕ) (d : R) → k < length dropped → h < frame (slice_index_or dropped k d)
  pub below : (x : R) (ys : List R) → Newest after x ys → frame x ≤ h
