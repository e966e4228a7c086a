-- What the state keeps when frames are gone.
use Rattle.std.specs.Prelude.{◌≡◌, ℕ, suc, min, Bool, List, take, MatchBool, ◌≢◌}
use Rattle.frames.specs.Tables.{records, Newest, DroppedAbove}
use Rattle.frames.specs.declared.records.Handler.{Handler}
use Rattle.frames.specs.declared.state.State.{State}

-- every frame above h is gone, with its handlers, markers and records
pub record Fell (h : ℕ) (st ts : State) : Type 0 where
  pub phase_same : ts.phase ≡ st.phase
  pub spacing_same : ts.spacing ≡ st.spacing
  pub edges_left : ts.edges ≡ take (suc (suc h)) st.edges
  pub registers_same : ts.registers ≡ st.registers
  pub lower : ts.level ≡ min st.level h
  pub handlers_dropped : DroppedAbove (λ r. r.frame) h (records st.handlers) (records ts.handlers)
  pub markers_dropped : DroppedAbove (λ r. r.frame) h (records st.markers) (records ts.markers)
  pub records_dropped : DroppedAbove (λ r. r.frame) h (records st.records) (records ts.records)

-- whether the newest of these handlers is one of frame i
abbrev pub NewestOf : List Handler → ℕ → Bool → Type 0
NewestOf hs i b = MatchBool b ((ys : List Handler) × (x : Handler) × Newest hs x ys × (x.frame ≡ i)) ((ys : List Handler) (x : Handler) → Newest hs x ys → x.frame ≢ i)
