-- The frames of a stack, as a scan sees them. A stack is a list of frames, the newest first; frame 0 is the last of the list.
use Rattle.std.specs.Prelude.{ℕ, suc, ◌+◌, List, [], ◌∷◌, length}

pub record Frame : Type 0 where
  -- the point where the frame before this one waits, which is this frame's return address; 0 in frame 0
  pub back : ℕ
  -- the words of slots 1 to size - 1
  pub slots : List ℕ

-- the words of a frame: its return address and its slots
abbrev pub size : Frame → ℕ
size f = suc (length f.slots)

-- the words of all frames, which is where the next frame would begin
unfoldable pub top : List Frame → ℕ
top [] = 0
top (f ∷ fs) = top fs + size f
