-- How the frames' functions unfold, one frame more at a time.
use Rattle.std.proofs.Common.{◌≡◌, ℕ, suc, ◌+◌, cond, List, [], ◌∷◌, ◌++◌, refl, add-one}
use Rattle.frame_map.specs.Maps.{Rows}
use Rattle.frame_map.specs.declared.row.Row.{Row}
use Rattle.scan.specs.Frames.{Frame, size, top}
use Rattle.scan.specs.Masks.{bit, codes, held, held_by, registers_by, root_codes, roots_by, saved_mask, stack_codes}
use Rattle.scan.proofs.MaskLaws.{saved_one}
use lib.Bits.{bit_or}

pub top_none : top [] ≡ 0
unfolding top
top_none = refl

pub top-cons : (f : Frame) (fs : List Frame) → top (f ∷ fs) ≡ top fs + size f
unfolding top
top-cons f fs = refl

pub held_none : (rows : Rows) (p : ℕ) → held rows p [] ≡ 0
unfolding held
held_none rows p = refl

pub held_cons : (rows : Rows) (p : ℕ) (f : Frame) (fs : List Frame) → held rows p (f ∷ fs) ≡ held_by (rows p) (held rows f.back fs)
unfolding held
held_cons rows p f fs = refl

pub stack_codes_none : (rows : Rows) (p : ℕ) → stack_codes rows p [] ≡ []
unfolding stack_codes
stack_codes_none rows p = refl

pub stack_codes-cons : (rows : Rows) (p : ℕ) (f : Frame) (fs : List Frame) → stack_codes rows p (f ∷ fs) ≡ stack_codes rows f.back fs ++ codes (top fs) (roots_by (rows p) f.slots (held rows f.back fs)) (size f)
unfolding stack_codes
stack_codes-cons rows p f fs = refl

pub root_codes_is : (rows : Rows) (p : ℕ) (fs : List Frame) → root_codes rows p fs ≡ stack_codes rows p fs ++ codes 65536 (registers_by (rows p) (held rows p fs)) 16
unfolding root_codes
root_codes_is rows p fs = refl

pub codes_none : (base mask : ℕ) → codes base mask 0 ≡ []
unfolding codes
codes_none base mask = refl

pub codes_suc : (base mask n : ℕ) → codes base mask (suc n) ≡ codes base mask n ++ cond (bit mask n) ((base + n) ∷ []) []
unfolding codes
codes_suc base mask n = refl

pub codes_more : (base mask n : ℕ) → codes base mask n ++ cond (bit mask n) ((base + n) ∷ []) [] ≡ codes base mask (n + 1)
codes_more base mask n = rw (add-one, codes_suc base mask n)

pub saved_none : (r : Row) (h : ℕ) → saved_mask r h 0 ≡ 0
unfolding saved_mask
saved_none r h = refl

pub saved_suc : (r : Row) (h n : ℕ) → saved_mask r h (suc n) ≡ bit_or (saved_mask r h n) (saved_one r h n)
unfolding saved_mask
saved_suc r h n = refl

pub saved_more : (r : Row) (h n : ℕ) → bit_or (saved_mask r h n) (saved_one r h n) ≡ saved_mask r h (n + 1)
saved_more r h n = rw (add-one, saved_suc r h n)
