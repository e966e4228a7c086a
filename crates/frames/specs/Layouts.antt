-- How frames lie in the stack memory.
use Rattle.std.specs.Prelude.{ℕ, ◌+◌, ◌-◌, ◌/◌, ◌%◌, ◌^◌, Bool, cond, ◌&&◌, List, [], ◌∷◌, ◌++◌, length, ◌==◌, nat_le, nat_lt}
use Rattle.scan.specs.Frames.{Frame}

-- frame j has a marker, with spacing m and low-water mark u: frames m, 2m and on, up to u
abbrev pub marked : ℕ → ℕ → ℕ → Bool
marked m u j = nat_lt 0 j && (j % m == 0 && nat_le j u)

-- the marker of frame j
abbrev pub marker : ℕ → ℕ → ℕ
marker m j = 2 ^ 31 + j / m - 1

-- the words of frame j: its return address or its marker, and its slots
abbrev pub frame_words : ℕ → ℕ → ℕ → Frame → List ℕ
frame_words m u j f = cond (marked m u j) (marker m j) f.back ∷ f.slots

-- each frame follows the one before
unfoldable pub layout : ℕ → ℕ → List Frame → List ℕ
layout m u [] = []
layout m u (f ∷ fs) = layout m u fs ++ frame_words m u (length fs) f
