-- Laws of how frames lie in the memory: a stack's frames begin with those of its older part.
use Rattle.std.proofs.Common.{◌≡◌, ℕ, suc, ◌+◌, ◌%◌, ◌<◌, ◌≤◌, min, cond, ◌&&◌, eqb, ltb, List, [], ◌∷◌, ◌++◌, length, get_or, take, sym, refl, ap, ◌∙◌, ⊎_elim, append_assoc, arith}
use Rattle.std.proofs.lemmas.List.{length-append, append-nil, get_or_at, take_at}
use Rattle.std.proofs.lemmas.Bool.{cases_lt, lt-leb, le-leb}
use Rattle.scan.specs.Frames.{Frame, size, top}
use Rattle.scan.proofs.StackLaws.{top-cons}
use Rattle.frames.specs.Layouts.{marked, marker, frame_words, layout}

-- the older part of a stack is no higher
pub top_part : (xs fs : List Frame) → top fs ≤ top (xs ++ fs)
top_part [] fs = omega arith
top_part (x ∷ xs) fs = let l = top_part xs fs in let e = top-cons x (xs ++ fs) in omega arith

pub length-layout : (m u : ℕ) (fs : List Frame) → length (layout m u fs) ≡ top fs
unfolding layout top
length-layout m u [] = refl
length-layout m u (f ∷ fs) = length-append (layout m u fs) (frame_words m u (length fs) f) ∙ ap (λ k. k + size f) (length-layout m u fs)

pub layout-cons : (m u : ℕ) (f : Frame) (fs : List Frame) → layout m u (f ∷ fs) ≡ layout m u fs ++ frame_words m u (length fs) f
unfolding layout
layout-cons m u f fs = refl

-- the layout begins with that of the older part
pub layout_part : (m u : ℕ) (xs fs : List Frame) → (rest : List ℕ) × (layout m u (xs ++ fs) ≡ layout m u fs ++ rest)
layout_part m u [] fs = ([], sym (append-nil (layout m u fs)))
layout_part m u (x ∷ xs) fs =
    let more = layout_part m u xs fs in
    let words = frame_words m u (length (xs ++ fs)) x in
    (more.0 ++ words, layout-cons m u x (xs ++ fs) ∙ ap (λ q. q ++ words) more.1 ∙ append_assoc (layout m u fs) more.0 words)

pub take-layout : (m u : ℕ) (xs fs : List Frame) → take (top fs) (layout m u (xs ++ fs)) ≡ layout m u fs
take-layout m u xs fs =
    let part = layout_part m u xs fs in
    ap (λ q. take (top fs) q) part.1 ∙ take_at (layout m u fs) part.0 (top fs) (length-layout m u fs)

-- word 0 of a frame
pub layout_word : (m u : ℕ) (xs fs : List Frame) (f : Frame) → get_or (layout m u (xs ++ (f ∷ fs))) (top fs) 0 ≡ cond (marked m u (length fs)) (marker m (length fs)) f.back
layout_word m u xs fs f =
    let part = layout_part m u xs (f ∷ fs) in
    let words = frame_words m u (length fs) f in
    ap (λ q. get_or q (top fs) 0) (part.1 ∙ ap (λ q. q ++ part.0) (layout-cons m u f fs) ∙ append_assoc (layout m u fs) words part.0)
    ∙ get_or_at (layout m u fs) (cond (marked m u (length fs)) (marker m (length fs)) f.back) (f.slots ++ part.0) 0 (top fs) (length-layout m u fs)

-- a lower mark leaves the frames up to it as they are
marked_low : (m u v j : ℕ) → j ≤ v → marked m (min u v) j ≡ marked m u j
marked_low m u v j l =
    ap (λ b. ltb 0 j && (eqb (j % m) 0 && b))
    (⊎_elim
    (λ (h : u < j). lt-leb j (min u v) (omega arith) ∙ sym (lt-leb j u h))
    (λ (h : j ≤ u). le-leb j (min u v) (omega arith) ∙ sym (le-leb j u h))
    (cases_lt u j))

pub layout_low : (m u v : ℕ) (fs : List Frame) → length fs ≤ suc v → layout m (min u v) fs ≡ layout m u fs
unfolding layout
layout_low m u v [] l = refl
layout_low m u v (f ∷ fs) l =
    ap (λ q. q ++ frame_words m (min u v) (length fs) f) (layout_low m u v fs (omega arith))
    ∙ ap (λ b. layout m u fs ++ (cond b (marker m (length fs)) f.back ∷ f.slots)) (marked_low m u v (length fs) (omega arith))
