-- The state of a machine with one frame and empty tables.
use Rattle.std.specs.Prelude.{◌≡◌, ℕ, max, [], ◌∷◌, replicate}
use Rattle.frames.specs.Tables.{records}
use Rattle.frames.specs.declared.state.Phase.{Phase}
use Rattle.frames.specs.declared.state.State.{State}

pub record Fresh (phase : Phase) (m n : ℕ) (st : State) : Type 0 where
  pub phase_is : st.phase ≡ phase
  pub spacing_is : st.spacing ≡ max m 1
  pub edges_are : st.edges ≡ 0 ∷ n ∷ []
  pub registers_are : st.registers ≡ replicate 16 0
  pub level_is : st.level ≡ 0
  pub no_handlers : records st.handlers ≡ []
  pub no_markers : records st.markers ≡ []
  pub no_records : records st.records ≡ []
