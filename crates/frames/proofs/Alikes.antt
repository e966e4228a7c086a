-- Stacks that differ in what their slots hold and in nothing else.
use Rattle.std.proofs.Common.{◌≡◌, ℕ, suc, ◌+◌, List, [], ◌∷◌, ◌++◌, length, sym, refl, ap, ◌∙◌, subst}
use Rattle.frame_map.specs.Maps.{Rows}
use Rattle.scan.specs.Frames.{Frame, size, top}
use Rattle.scan.specs.Masks.{held, held_by}
use Rattle.scan.proofs.StackLaws.{top-cons, held_cons}
use Rattle.frames.specs.Standing.{Waiting, Describes}

abbrev pub Alike : List Frame → List Frame → Type 0
Alike [] [] = Unit {0}
Alike [] (g ∷ gs) = ⊥
Alike (f ∷ fs) [] = ⊥
Alike (f ∷ fs) (g ∷ gs) = (f.back ≡ g.back) × (length f.slots ≡ length g.slots) × Alike fs gs

pub alike_same : (fs : List Frame) → Alike fs fs
alike_same [] = tt
alike_same (f ∷ fs) = (refl, refl, alike_same fs)

pub alike_length : (fs gs : List Frame) → Alike fs gs → length fs ≡ length gs
alike_length [] [] a = refl
alike_length [] (g ∷ gs) a = absurd a
alike_length (f ∷ fs) [] a = absurd a
alike_length (f ∷ fs) (g ∷ gs) a = ap suc (alike_length fs gs a.2)

pub alike_top : (fs gs : List Frame) → Alike fs gs → top fs ≡ top gs
alike_top [] [] a = refl
alike_top [] (g ∷ gs) a = absurd a
alike_top (f ∷ fs) [] a = absurd a
alike_top (f ∷ fs) (g ∷ gs) a =
    top-cons f fs ∙ ap (λ k. k + size f) (alike_top fs gs a.2) ∙ ap (λ k. top gs + suc k) a.1 ∙ sym (top-cons g gs)

pub alike_held : (rows : Rows) (p : ℕ) (fs gs : List Frame) → Alike fs gs → held rows p fs ≡ held rows p gs
alike_held rows p [] [] a = refl
alike_held rows p [] (g ∷ gs) a = absurd a
alike_held rows p (f ∷ fs) [] a = absurd a
alike_held rows p (f ∷ fs) (g ∷ gs) a =
    held_cons rows p f fs
    ∙ ap (λ k. held_by (rows p) k) (ap (λ q. held rows q fs) a.0 ∙ alike_held rows g.back fs gs a.2)
    ∙ sym (held_cons rows p g gs)

-- a part of one is alike a part of the other
pub alike_part : (fs gs xs ys : List Frame) → Alike fs gs → gs ≡ xs ++ ys → (us : List Frame) × (vs : List Frame) × (fs ≡ us ++ vs) × Alike vs ys
alike_part fs gs [] ys a e = ([], fs, refl, subst (λ q. Alike fs q) e a)
alike_part [] gs (x ∷ xs) ys a e = absurd (none gs a e)
  where
    none : (hs : List Frame) → Alike [] hs → hs ≡ x ∷ (xs ++ ys) → ⊥
    none hs b d = subst (λ q. Alike [] q) d b
alike_part (f ∷ fs) gs (x ∷ xs) ys a e =
    let b : Alike (f ∷ fs) (x ∷ (xs ++ ys)) = subst (λ q. Alike (f ∷ fs) q) e a in
    let more = alike_part fs (xs ++ ys) xs ys b.2 refl in
    (f ∷ more.0, more.1, ap (λ q. f ∷ q) more.2, more.3)

describes_as : (rows : Rows) (p q : ℕ) (f g : Frame) → p ≡ q → length f.slots ≡ length g.slots → Describes (rows p) (size f) → Describes (rows q) (size g)
describes_as rows p q f g e d w = subst (λ k. Describes (rows k) (size g)) e (subst (λ k. Describes (rows p) (suc k)) d w)

pub alike_waiting : (rows : Rows) (fs gs : List Frame) → Alike fs gs → Waiting rows fs → Waiting rows gs
unfolding Waiting
alike_waiting rows [] [] a w = w
alike_waiting rows [] (g ∷ gs) a w = absurd a
alike_waiting rows (f ∷ fs) [] a w = absurd a
alike_waiting rows (f ∷ []) (g ∷ []) a w = w
alike_waiting rows (f ∷ []) (g ∷ (h ∷ hs)) a w = absurd a.2
alike_waiting rows (f ∷ (d ∷ ds)) (g ∷ []) a w = absurd a.2
alike_waiting rows (f ∷ (d ∷ ds)) (g ∷ (h ∷ hs)) a w = (describes_as rows f.back g.back d h a.0 a.2.1 w.0, alike_waiting rows (d ∷ ds) (h ∷ hs) a.2 w.1)
