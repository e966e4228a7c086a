-- What a scan changes.
use Rattle.std.specs.Prelude.{◌≡◌, ℕ, List, [], ◌∷◌}
use Rattle.scan.specs.Frames.{Frame}
use Rattle.frames.specs.declared.state.State.{State}

-- the point where the frame below the frames xs stands: the newest of all stands at p
unfoldable pub point_of : ℕ → List Frame → ℕ
point_of p [] = p
point_of p (x ∷ xs) = point_of x.back xs

-- all but the records is as it was
pub record SameButRecords (st ts : State) : Type 0 where
  pub phase_same : ts.phase ≡ st.phase
  pub spacing_same : ts.spacing ≡ st.spacing
  pub edges_same : ts.edges ≡ st.edges
  pub registers_same : ts.registers ≡ st.registers
  pub handlers_same : ts.handlers ≡ st.handlers
  pub level_same : ts.level ≡ st.level
  pub markers_same : ts.markers ≡ st.markers
