-- Laws of stacks as lists of frames, the newest first.
use Rattle.std.proofs.Common.{◌≡◌, ℕ, ◌<◌, ◌⊎◌, List, [], ◌∷◌, ◌++◌, length, sym, refl, ap, inl, inr, ⊎_elim, arith}
use Rattle.std.proofs.lemmas.Bool.{cases_eq}
use Rattle.frame_map.specs.Maps.{Rows}
use Rattle.scan.specs.Frames.{Frame, size}
use Rattle.frames.specs.Standing.{Waiting, Describes}

-- a part of a stack with one frame more is all of it, or a part of the older ones
pub split_cons : (g : Frame) (gs xs ys : List Frame) → g ∷ gs ≡ xs ++ ys → (ys ≡ g ∷ gs) ⊎ ((zs : List Frame) × (gs ≡ zs ++ ys))
split_cons g gs [] ys e = inl (sym e)
split_cons g gs (x ∷ xs) ys e = inr (xs, (cc))

-- each frame number has its frame
pub frame_number : (fs : List Frame) (j : ℕ) → j < length fs → (above : List Frame) × (below : List Frame) × (f : Frame) × (fs ≡ above ++ (f ∷ below)) × (length below ≡ j)
frame_number [] j l = absurd (omega arith)
frame_number (f ∷ fs) j l =
    ⊎_elim
    (λ (e : j ≡ length fs). ([], fs, f, refl, sym e))
    (λ (ne : j ≡ length fs → ⊥).
    let more = frame_number fs j (omega arith) in
    (f ∷ more.0, more.1, more.2, ap (λ q. f ∷ q) more.3, more.4))
    (cases_eq j (length fs))

-- the older part of a stack waits as well
pub waiting-cons : (rows : Rows) (f g : Frame) (gs : List Frame) → Describes (rows f.back) (size g) → Waiting rows (g ∷ gs) → Waiting rows (f ∷ (g ∷ gs))
unfolding Waiting
waiting-cons rows f g gs d w = (d, w)

pub waiting_below : (rows : Rows) (f g : Frame) (gs : List Frame) → Waiting rows (f ∷ (g ∷ gs)) → Describes (rows f.back) (size g) × Waiting rows (g ∷ gs)
unfolding Waiting
waiting_below rows f g gs w = w

pub waiting_part : (rows : Rows) (xs fs : List Frame) (f : Frame) → Waiting rows (xs ++ (f ∷ fs)) → Waiting rows (f ∷ fs)
waiting_part rows [] fs f w = w
waiting_part rows (x ∷ []) fs f w = (waiting_below rows x f fs w).1
waiting_part rows (x ∷ (y ∷ ys)) fs f w = waiting_part rows (y ∷ ys) fs f (waiting_below rows x y (ys ++ (f ∷ fs)) w).1
