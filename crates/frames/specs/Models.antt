-- The model of a machine: what it holds in the script's eyes, with no marker and no table.
use Rattle.std.specs.Prelude.{ℕ, List, ◌∷◌, length}
use Rattle.frame_map.specs.Maps.{Rows}
use Rattle.scan.specs.Frames.{Frame}
use Rattle.frames.specs.declared.records.Handler.{Handler}

-- the script runs; or a collection has listed the roots where the running frame stood at this point; or it has moved the objects
pub data Stage : Type 0 where
  running : Stage
  opened : ℕ → Stage
  carried : ℕ → Stage

pub record Model : Type 0 where
  -- the rows of the frame map
  pub rows : Rows
  -- how many words the stack memory has
  pub room : ℕ
  -- the spacing of markers
  pub spacing : ℕ
  -- the running frame, and the older ones, the newest first
  pub current : Frame
  pub older : List Frame
  -- r0 to r15
  pub registers : List ℕ
  -- the oldest first
  pub handlers : List Handler
  -- the low-water mark: 0 before the first close, at a close the running frame, and lowered to each frame that runs since
  pub level : ℕ
  pub stage : Stage

-- all frames, the newest first
abbrev pub frames : Model → List Frame
frames s = s.current ∷ s.older

-- the number of the running frame
abbrev pub newest : Model → ℕ
newest s = length s.older
