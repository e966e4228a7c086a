-- What a machine that stands for a model tells of a frame.
use Rattle.std.proofs.Common.{◌≡◌, ℕ, suc, ◌+◌, ◌-◌, ◌*◌, ◌/◌, ◌%◌, ◌<◌, ◌≤◌, true, false, cond, ◌&&◌, eqb, ltb, leb, List, [], ◌∷◌, ◌++◌, length, get_or, Some, None, Option, Ok, Err, Result, MatchOption, MatchResult, option_map, sym, ap, ◌∙◌, ⊎_elim, append_assoc, div-add-mod', le-div_iff_mul-le, zero-mul, div-mul-le_self, arith}
use Rattle.std.proofs.lemmas.List.{length-append, get_or-take}
use Rattle.std.proofs.lemmas.Bool.{cases_eq, leb-true, ltb-true, eqb-true, and_parts}
use Rattle.std.specs.Result.{result_ok}
use Rattle.frame_map.specs.Maps.{Rows}
use Rattle.refusal.specs.declared.Refusal.{Refusal}
use Rattle.stack_memory.specs.Promises.{Found, NoWord}
use Rattle.scan.specs.Frames.{Frame, size, top}
use Rattle.scan.proofs.StackLaws.{top-cons}
use Rattle.frames.specs.Tables.{records, depth}
use Rattle.frames.specs.Models.{Model, frames}
use Rattle.frames.specs.Layouts.{marked, marker, layout}
use Rattle.frames.specs.Standing.{Stands, Kept, Laid, Marked, no_marker}
use Rattle.frames.specs.declared.records.Marker.{Marker}
use Rattle.frames.specs.declared.state.State.{State}
use Rattle.frames.proofs.LayoutLaws.{top_part, layout_word}

-- a frame lies below the top
pub frame_inside : (ws : List ℕ) (st : State) (s : Model) (xs fs : List Frame) (f : Frame) → Laid ws st s → frames s ≡ xs ++ (f ∷ fs) → top fs + size f ≤ top (frames s)
frame_inside ws st s xs fs f h e =
    let part = top_part xs (f ∷ fs) in
    let more = top-cons f fs in
    let all : top (frames s) ≡ top (xs ++ (f ∷ fs)) = ap top e in
    omega arith

pub frame_deep : (ws : List ℕ) (st : State) (s : Model) (xs fs : List Frame) (f : Frame) → Laid ws st s → frames s ≡ xs ++ (f ∷ fs) → length fs < depth st
frame_deep ws st s xs fs f h e =
    let all : depth st ≡ length xs + suc (length fs) = h.deep ∙ ap length e ∙ length-append xs (f ∷ fs) in
    omega arith

-- word 0 of a frame
pub word_of : (ws : List ℕ) (st : State) (s : Model) (xs fs : List Frame) (f : Frame) → Laid ws st s → frames s ≡ xs ++ (f ∷ fs) →
    get_or ws (top fs) 0 ≡ cond (marked s.spacing s.level (length fs)) (marker s.spacing (length fs)) f.back
word_of ws st s xs fs f h e =
    let l = frame_inside ws st s xs fs f h e in
    sym (get_or-take (top (frames s)) ws (top fs) 0 (omega arith))
    ∙ ap (λ q. get_or q (top fs) 0) (h.laid ∙ ap (λ q. layout s.spacing s.level q) e)
    ∙ layout_word s.spacing s.level xs fs f

-- a multiple of m above 0
pub is_multiple : (m j : ℕ) → 0 < j → j % m ≡ 0 → (0 < j / m) × (j ≡ suc (j / m - 1) * m)
is_multiple m j q z =
    let whole : j / m * m + j % m ≡ j = div-add-mod' j m in
    ⊎_elim
    (λ (none : j / m ≡ 0).
    let zero_times : j / m * m ≡ 0 = ap (λ k. k * m) none ∙ zero-mul m in
    absurd (omega arith))
    (λ (some : j / m ≡ 0 → ⊥).
    let some' : 0 < j / m = omega arith in
    let same : suc (j / m - 1) * m ≡ j / m * m = ap (λ k. k * m) (let e : suc (j / m - 1) ≡ j / m = omega arith in e) in
    (some', omega arith))
    (cases_eq (j / m) 0)

pub record IsMarked (m u j : ℕ) : Type 0 where
  pub some : 0 < j
  pub multiple : j % m ≡ 0
  pub upto : j ≤ u

pub marked_tells : (m u j : ℕ) → marked m u j ≡ true → IsMarked m u j
marked_tells m u j e =
    let all = and_parts (ltb 0 j) (eqb (j % m) 0 && leb j u) e in
    let rest = and_parts (eqb (j % m) 0) (leb j u) all.1 in
    record { some = ltb-true 0 j all.0; multiple = eqb-true (j % m) 0 rest.0; upto = leb-true j u rest.1 }

-- the table has a replaced address for each marked frame
pub marker_there : (st : State) (s : Model) (j : ℕ) → Marked st s → 4 ≤ s.spacing → IsMarked s.spacing s.level j → j / s.spacing - 1 < length (records st.markers)
marker_there st s j h least e =
    let q = is_multiple s.spacing j e.some e.multiple in
    let some = q.0 in
    let l : j / s.spacing ≤ s.level / s.spacing = (le-div_iff_mul-le {k = s.spacing} {x = j / s.spacing} {y = s.level} (omega arith)).1 (let under = div-mul-le_self j s.spacing in let upto = e.upto in omega arith) in
    omega (arith, h.many)

-- the return address of frame j, by the machine's own tables
pub record FrameAt (rows : Rows) (ws : List ℕ) (st : State) (s : Model) (j : ℕ) (f : Frame) : Type 0 where
  pub stands : Kept rows ws st s
  pub above : List Frame
  pub below : List Frame
  pub parts : frames s ≡ above ++ (f ∷ below)
  pub number : length below ≡ j

marked_same : (rows : Rows) (ws : List ℕ) (st : State) (s : Model) (j : ℕ) (f : Frame) → (h : FrameAt rows ws st s j f) → marked st.spacing st.level j ≡ marked s.spacing s.level (length h.below)
marked_same rows ws st s j f h =
    ap (λ m. marked m st.level j) h.stands.placed.spaced
    ∙ ap (λ u. marked s.spacing u j) h.stands.placed.levelled
    ∙ ap (λ k. marked s.spacing s.level k) (sym h.number)

told : (rows : Rows) (ws : List ℕ) (st : State) (s : Model) (j : ℕ) (f : Frame) → (h : FrameAt rows ws st s j f) → marked st.spacing st.level j ≡ true → IsMarked s.spacing s.level (length h.below)
told rows ws st s j f h e = marked_tells s.spacing s.level (length h.below) (sym (marked_same rows ws st s j f h) ∙ e)

index_same : (rows : Rows) (ws : List ℕ) (st : State) (s : Model) (j : ℕ) (f : Frame) → (h : FrameAt rows ws st s j f) → j / st.spacing - 1 ≡ length h.below / s.spacing - 1
index_same rows ws st s j f h = ap (λ k. k / st.spacing - 1) (sym h.number) ∙ ap (λ m. length h.below / m - 1) h.stands.placed.spaced

pub address_marked : (rows : Rows) (ws : List ℕ) (st : State) (s : Model) (j : ℕ) (f : Frame) (x : Marker) → FrameAt rows ws st s j f → marked st.spacing st.level j ≡ true →
    ((d : Marker) → x ≡ get_or (records st.markers) (j / st.spacing - 1) d) → x.address ≡ f.back
address_marked rows ws st s j f x h e is =
    let t = told rows ws st s j f h e in
    ap (λ r. r.address)
    (is no_marker
    ∙ ap (λ k. get_or (records st.markers) k no_marker) (index_same rows ws st s j f h)
    ∙ h.stands.marked.put_by h.above h.below f (length h.below / s.spacing - 1) h.parts (is_multiple s.spacing (length h.below) t.some t.multiple).1 t.upto)

pub address_kept : (rows : Rows) (ws : List ℕ) (st : State) (s : Model) (j : ℕ) (f : Frame) → FrameAt rows ws st s j f → marked st.spacing st.level j ≡ true →
    length (records st.markers) ≤ j / st.spacing - 1 → ⊥
address_kept rows ws st s j f h e past =
    let there = marker_there st s (length h.below) h.stands.marked h.stands.placed.least (told rows ws st s j f h e) in
    let same = index_same rows ws st s j f h in
    omega arith

edge_of : (rows : Rows) (ws : List ℕ) (st : State) (s : Model) (j : ℕ) (f : Frame) → (h : FrameAt rows ws st s j f) → get_or st.edges (length h.below) 0 ≡ top h.below
edge_of rows ws st s j f h =
    h.stands.lies.edged (h.above ++ (f ∷ [])) h.below (h.parts ∙ sym (append_assoc h.above (f ∷ []) h.below))

pub address_inside : (rows : Rows) (ws : List ℕ) (st : State) (s : Model) (j : ℕ) (f : Frame) → FrameAt rows ws st s j f → get_or st.edges j 0 < length ws
address_inside rows ws st s j f h =
    let place : get_or st.edges j 0 ≡ top h.below = ap (λ k. get_or st.edges k 0) (sym h.number) ∙ edge_of rows ws st s j f h in
    let under = frame_inside ws st s h.above h.below f h.stands.lies h.parts in
    let fits = h.stands.lies.fits in
    omega arith

pub address_read : (rows : Rows) (ws : List ℕ) (st : State) (s : Model) (j : ℕ) (f : Frame) → FrameAt rows ws st s j f → marked st.spacing st.level j ≡ false →
    get_or ws (get_or st.edges j 0) 0 ≡ f.back
address_read rows ws st s j f h e =
    let place : get_or st.edges j 0 ≡ top h.below = ap (λ k. get_or st.edges k 0) (sym h.number) ∙ edge_of rows ws st s j f h in
    ap (λ k. get_or ws k 0) place
    ∙ word_of ws st s h.above h.below f h.stands.lies h.parts
    ∙ ap (λ b. cond b (marker s.spacing (length h.below)) f.back) (sym (marked_same rows ws st s j f h) ∙ e)

-- what is answered of the address that a marker replaced, and of the word that stands where there is none
pub marker_answers : (rows : Rows) (ws : List ℕ) (st : State) (s : Model) (j : ℕ) (f : Frame) (o : Option Marker) → FrameAt rows ws st s j f → marked st.spacing st.level j ≡ true →
    MatchOption o (length (records st.markers) ≤ j / st.spacing - 1) (λ x. (j / st.spacing - 1 < length (records st.markers)) × ((d : Marker) → x ≡ get_or (records st.markers) (j / st.spacing - 1) d)) →
    option_map (λ m. m.address) o ≡ Some f.back
marker_answers rows ws st s j f None h e past = absurd (address_kept rows ws st s j f h e past)
marker_answers rows ws st s j f (Some x) h e found = ap Some (address_marked rows ws st s j f x h e found.1)

pub word_answers : (rows : Rows) (ws : List ℕ) (st : State) (s : Model) (j : ℕ) (f : Frame) (r : Result ℕ Refusal) → FrameAt rows ws st s j f → marked st.spacing st.level j ≡ false →
    MatchResult r (Found ws (get_or st.edges j 0)) (NoWord ws (get_or st.edges j 0)) → result_ok r ≡ Some f.back
word_answers rows ws st s j f (Ok w) h e found = ap Some (found.word ∙ address_read rows ws st s j f h e)
word_answers rows ws st s j f (Err why) h e none =
    let l = address_inside rows ws st s j f h in
    let past = none.past in
    absurd (omega arith)

pub kept_of : (rows : Rows) (ws : List ℕ) (st : State) (s : Model) → Stands rows ws st s → Kept rows ws st s
kept_of rows ws st s h = record { placed = h.placed; lies = h.lies; marked = h.marked; waiting = h.waiting }

-- two frames above one another
pub second_deep : (ws : List ℕ) (st : State) (s : Model) (xs fs : List Frame) (g f : Frame) → Laid ws st s → frames s ≡ xs ++ (g ∷ (f ∷ fs)) → suc (length fs) < depth st
second_deep ws st s xs fs g f h e = frame_deep ws st s xs (f ∷ fs) g h e
