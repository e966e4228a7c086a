-- What a scan learns, frame by frame.
use Rattle.std.proofs.Common.{◌≡◌, ℕ, ◌-◌, ◌<◌, ◌≤◌, List, [], ◌∷◌, ◌++◌, length, get_or, take, Some, None, Option, MatchOption, option_map, sym, refl, ap, ◌∙◌, subst, ⊎_elim, append_assoc, arith}
use Rattle.std.proofs.lemmas.List.{length-append, length_push, length-take-le, get_or_append_left, get_or_push, get_or-take, ext_get_or, nil_from_length}
use Rattle.std.proofs.lemmas.Bool.{cases_eq}
use Rattle.frame_map.specs.Maps.{Rows}
use Rattle.frame_map.specs.declared.row.Row.{Row}
use Rattle.scan.specs.Frames.{Frame, size}
use Rattle.scan.specs.Masks.{held, held_by, roots_by}
use Rattle.scan.proofs.StackLaws.{held_none, held_cons}
use Rattle.frames.specs.Tables.{records}
use Rattle.frames.specs.Models.{Model, frames}
use Rattle.frames.specs.Standing.{Stands, Kept, Waiting, Describes, no_marker, no_record, record_of, scans}
use Rattle.frames.specs.Learning.{SameButRecords, point_of}
use Rattle.frames.specs.declared.records.Record.{Record}
use Rattle.frames.specs.declared.state.State.{State}
use Rattle.frames.proofs.StackLaws.{waiting_part, waiting_below}
use Rattle.frames.proofs.StandLaws.{kept_of}

pub scans-cons : (rows : Rows) (p : ℕ) (f : Frame) (fs : List Frame) → scans rows p (f ∷ fs) ≡ scans rows f.back fs ++ record_of rows p f fs ∷ []
unfolding scans
scans-cons rows p f fs = refl

pub scans_none : (rows : Rows) (p : ℕ) → scans rows p [] ≡ []
unfolding scans
scans_none rows p = refl

pub length-scans : (rows : Rows) (p : ℕ) (fs : List Frame) → length (scans rows p fs) ≡ length fs
length-scans rows p [] = ap length (scans_none rows p)
length-scans rows p (f ∷ fs) =
    ap length (scans-cons rows p f fs) ∙ length_push (scans rows f.back fs) (record_of rows p f fs) ∙ (let l = length-scans rows f.back fs in omega arith)

-- the newest frame's record
pub scans_newest : (rows : Rows) (p : ℕ) (f : Frame) (fs : List Frame) → get_or (scans rows p (f ∷ fs)) (length fs) no_record ≡ record_of rows p f fs
scans_newest rows p f fs =
    ap (λ q. get_or q (length fs) no_record) (scans-cons rows p f fs) ∙ get_or_push (scans rows f.back fs) (record_of rows p f fs) no_record (length fs) (length-scans rows f.back fs)

-- an older frame's record does not depend on the younger frames, but for the return address of the next
pub scans_older : (rows : Rows) (p : ℕ) (xs fs : List Frame) (g f : Frame) → get_or (scans rows p (xs ++ (g ∷ (f ∷ fs)))) (length fs) no_record ≡ record_of rows g.back f fs
scans_older rows p [] fs g f =
    ap (λ q. get_or q (length fs) no_record) (scans-cons rows p g (f ∷ fs))
    ∙ get_or_append_left (scans rows g.back (f ∷ fs)) (record_of rows p g (f ∷ fs) ∷ []) no_record (length fs) (let l = length-scans rows g.back (f ∷ fs) in omega arith)
    ∙ scans_newest rows g.back f fs
scans_older rows p (x ∷ xs) fs g f =
    ap (λ q. get_or q (length fs) no_record) (scans-cons rows p x (xs ++ (g ∷ (f ∷ fs))))
    ∙ get_or_append_left (scans rows x.back (xs ++ (g ∷ (f ∷ fs)))) (record_of rows p x (xs ++ (g ∷ (f ∷ fs))) ∷ []) no_record (length fs)
    (let l = length-scans rows x.back (xs ++ (g ∷ (f ∷ fs))) in let n = length-append xs (g ∷ (f ∷ fs)) in omega arith)
    ∙ scans_older rows x.back xs fs g f

-- each frame's record tells its number
scans_number : (rows : Rows) (p : ℕ) (fs : List Frame) (k : ℕ) → k < length fs → (get_or (scans rows p fs) k no_record).frame ≡ k
scans_number rows p [] k l = absurd (omega arith)
scans_number rows p (f ∷ fs) k l =
    ⊎_elim
    (λ (e : k ≡ length fs). ap (λ j. (get_or (scans rows p (f ∷ fs)) j no_record).frame) e ∙ ap (λ r. r.frame) (scans_newest rows p f fs) ∙ sym e)
    (λ (ne : k ≡ length fs → ⊥).
    ap (λ q. (get_or q k no_record).frame) (scans-cons rows p f fs)
    ∙ ap (λ r. r.frame) (get_or_append_left (scans rows f.back fs) (record_of rows p f fs ∷ []) no_record k (let n = length-scans rows f.back fs in omega arith))
    ∙ scans_number rows f.back fs k (omega arith))
    (cases_eq k (length fs))

-- each waiting frame, with the one above it
frame_pair : (g : Frame) (gs : List Frame) (j : ℕ) → j < length gs → (above : List Frame) × (below : List Frame) × (h : Frame) × (f : Frame) × (g ∷ gs ≡ above ++ (h ∷ (f ∷ below))) × (length below ≡ j)
frame_pair g [] j l = absurd (omega arith)
frame_pair g (f ∷ fs) j l =
    ⊎_elim
    (λ (e : j ≡ length fs). ([], fs, g, f, refl, sym e))
    (λ (ne : j ≡ length fs → ⊥).
    let more = frame_pair f fs j (omega arith) in
    (g ∷ more.0, more.1, more.2, more.3, ap (λ q. g ∷ q) more.4, more.5))
    (cases_eq j (length fs))

-- the machine's records of the frames below the low-water mark are the scan's
pub known_scans : (rows : Rows) (ws : List ℕ) (st : State) (s : Model) (xs gs : List Frame) (g : Frame) → Stands rows ws st s → frames s ≡ xs ++ (g ∷ gs) → length gs ≤ s.level →
    take (length gs) (records st.records) ≡ scans rows g.back gs
known_scans rows ws st s xs gs g h parts low =
    ext_get_or no_record (take (length gs) (records st.records)) (scans rows g.back gs) (count ∙ sym (length-scans rows g.back gs)) each
  where
    count : length (take (length gs) (records st.records)) ≡ length gs
    count = length-take-le (length gs) (records st.records) (let e = h.recorded.enough in omega arith)

    each : (i : ℕ) → i < length (take (length gs) (records st.records)) → get_or (take (length gs) (records st.records)) i no_record ≡ get_or (scans rows g.back gs) i no_record
    each i l =
        let c = count in
        let pair = frame_pair g gs i (omega arith) in
        let n = pair.5 in
        get_or-take (length gs) (records st.records) i no_record (omega arith)
        ∙ ap (λ k. get_or (records st.records) k no_record) (sym pair.5)
        ∙ h.recorded.known (xs ++ pair.0) pair.1 pair.2 pair.3 (parts ∙ ap (λ q. xs ++ q) pair.4 ∙ sym (append_assoc xs pair.0 (pair.2 ∷ (pair.3 ∷ pair.1)))) (omega arith)
        ∙ sym (scans_older rows 0 pair.0 pair.1 pair.2 pair.3)
        ∙ ap (λ q. get_or (scans rows 0 q) (length pair.1) no_record) (sym pair.4)
        ∙ ap (λ q. get_or q (length pair.1) no_record) (scans-cons rows 0 g gs)
        ∙ get_or_append_left (scans rows g.back gs) (record_of rows 0 g gs ∷ []) no_record (length pair.1) (let many = length-scans rows g.back gs in omega arith)
        ∙ ap (λ k. get_or (scans rows g.back gs) k no_record) pair.5

pub kept_same : (rows : Rows) (ws : List ℕ) (st ts : State) (s : Model) → Kept rows ws st s → SameButRecords st ts → Kept rows ws ts s
kept_same rows ws st ts s h same = record {
  placed = record {
    rows_are = h.placed.rows_are;
    room_is = h.placed.room_is;
    few = h.placed.few;
    spaced = same.spacing_same ∙ h.placed.spaced;
    least = h.placed.least;
    most = h.placed.most;
    registers_are = same.registers_same ∙ h.placed.registers_are;
    phased = same.phase_same ∙ h.placed.phased;
    levelled = same.level_same ∙ h.placed.levelled;
    low = h.placed.low;
  };
  lies = record {
    laid = h.lies.laid;
    fits = h.lies.fits;
    deep = ap (λ e. length e - 1) same.edges_same ∙ h.lies.deep;
    edged = λ xs fs e. ap (λ q. get_or q (length fs) 0) same.edges_same ∙ h.lies.edged xs fs e;
  };
  marked = record {
    many = ap (λ t. length (records t)) same.markers_same ∙ h.marked.many;
    put_by = λ xs fs f k e m l. ap (λ t. get_or (records t) k no_marker) same.markers_same ∙ h.marked.put_by xs fs f k e m l;
  };
  waiting = h.waiting;
}

-- a whole scan leaves a machine that stands for the same model
pub rescanned_stands : (rows : Rows) (ws : List ℕ) (st ts : State) (s : Model) (p : ℕ) → Stands rows ws st s → SameButRecords st ts → records ts.records ≡ scans rows p (frames s) → Stands rows ws ts s
rescanned_stands rows ws st ts s p h same are =
    let k = kept_same rows ws st ts s (kept_of rows ws st s h) same in
    record {
      placed = k.placed;
      lies = k.lies;
      handled = record { handlers_are = ap records same.handlers_same ∙ h.handled.handlers_are; inside = h.handled.inside; ordered = h.handled.ordered };
      marked = k.marked;
      recorded = record {
        enough = let n = ap length are ∙ length-scans rows p (frames s) in let low = h.placed.low in omega arith;
        numbered = λ k l. ap (λ q. (get_or q k no_record).frame) are ∙ scans_number rows p (frames s) k (let n = ap length are ∙ length-scans rows p (frames s) in omega arith);
        known = λ xs fs g f e l. ap (λ q. get_or q (length fs) no_record) (are ∙ ap (λ q. scans rows p q) e) ∙ scans_older rows p xs fs g f;
      };
      waiting = k.waiting;
    }

-- a point further down
pub point_push : (p : ℕ) (xs : List Frame) (f : Frame) → point_of p (xs ++ f ∷ []) ≡ f.back
unfolding point_of
point_push p [] f = refl
point_push p (x ∷ xs) f = point_push x.back xs f

-- the record of any frame
pub scans_at : (rows : Rows) (p : ℕ) (xs fs : List Frame) (f : Frame) → get_or (scans rows p (xs ++ (f ∷ fs))) (length fs) no_record ≡ record_of rows (point_of p xs) f fs
unfolding point_of
scans_at rows p [] fs f = scans_newest rows p f fs
scans_at rows p (x ∷ xs) fs f =
    ap (λ q. get_or q (length fs) no_record) (scans-cons rows p x (xs ++ (f ∷ fs)))
    ∙ get_or_append_left (scans rows x.back (xs ++ (f ∷ fs))) (record_of rows p x (xs ++ (f ∷ fs)) ∷ []) no_record (length fs)
    (let many = length-scans rows x.back (xs ++ (f ∷ fs)) in let n = length-append xs (f ∷ fs) in omega arith)
    ∙ scans_at rows x.back xs fs f

-- each frame has a row of its size, if the newest has one at p
pub described : (rows : Rows) (p : ℕ) (xs fs : List Frame) (f : Frame) → Waiting rows (xs ++ (f ∷ fs)) → (xs ≡ [] → Describes (rows p) (size f)) → Describes (rows (point_of p xs)) (size f)
unfolding point_of
described rows p [] fs f w d = d refl
described rows p (x ∷ []) fs f w d = (waiting_below rows x f fs w).0
described rows p (x ∷ (y ∷ ys)) fs f w d = described rows x.back (y ∷ ys) fs f (waiting_below rows x y (ys ++ (f ∷ fs)) w).1 (λ e. cc)

-- the row of a waiting frame
pub waiting_row : (rows : Rows) (xs fs : List Frame) (g f : Frame) (gs : List Frame) → gs ≡ xs ++ (g ∷ (f ∷ fs)) → Waiting rows gs → Describes (rows g.back) (size f)
waiting_row rows xs fs g f gs e w = (waiting_below rows g f fs (waiting_part rows xs (f ∷ fs) g (subst (λ q. Waiting rows q) e w))).0

pub described_some : (o : Option Row) (n : ℕ) → Describes o n → None ≡ o → ⊥
described_some None n d e = d
described_some (Some r) n d e = cc

-- what one frame's step gives is the scan's record
pub decoded_held : (rows : Rows) (p : ℕ) (row : Row) (f : Frame) (fs : List Frame) (k behind : ℕ) → Some row ≡ rows p → k ≡ held rows f.back fs → behind ≡ held_by (Some row) k → behind ≡ held rows p (f ∷ fs)
decoded_held rows p row f fs k behind e a b = b ∙ ap (λ o. held_by o k) e ∙ ap (λ j. held_by (rows p) j) a ∙ sym (held_cons rows p f fs)

pub decoded_record : (rows : Rows) (p : ℕ) (row : Row) (f : Frame) (fs : List Frame) (i k roots behind : ℕ) → Some row ≡ rows p → i ≡ length fs → k ≡ held rows f.back fs → roots ≡ roots_by (Some row) f.slots k → behind ≡ held_by (Some row) k →
    ◌≡◌ {A = Record} (record { frame = i; roots = roots; held = behind }) (record_of rows p f fs)
decoded_record rows p row f fs i k roots behind e n a r b =
    ap (λ j. record { frame = j; roots = roots; held = behind }) n
    ∙ ap (λ j. record { frame = length fs; roots = j; held = behind }) (r ∙ ap (λ o. roots_by o f.slots k) e ∙ ap (λ j. roots_by (rows p) f.slots j) a)
    ∙ ap (λ j. record { frame = length fs; roots = roots_by (rows p) f.slots (held rows f.back fs); held = j }) (decoded_held rows p row f fs k behind e a b)

-- the mask at a frame's entry, by the record of the frame before it
pub held_none_at : (rows : Rows) (gs : List Frame) (p : ℕ) → length gs ≡ 0 → 0 ≡ held rows p gs
held_none_at rows gs p n = sym (ap (λ q. held rows p q) (nil_from_length gs n) ∙ held_none rows p)

pub held_below : (rows : Rows) (ws : List ℕ) (st : State) (s : Model) (xs gs : List Frame) (g : Frame) (from : ℕ) (r : Record) → Stands rows ws st s → frames s ≡ xs ++ (g ∷ gs) → length gs ≡ from → from ≤ s.level → 0 < from →
    ((d : Record) → r ≡ get_or (records st.records) (from - 1) d) → r.held ≡ held rows g.back gs
held_below rows ws st s xs [] g from r h parts n low some is = absurd (omega arith)
held_below rows ws st s xs (f ∷ fs) g from r h parts n low some is =
    let at : from - 1 ≡ length fs = omega arith in
    ap (λ q. q.held) (is no_record ∙ ap (λ k. get_or (records st.records) k no_record) at ∙ h.recorded.known xs fs g f parts (omega arith))

pub held_there : (rows : Rows) (ws : List ℕ) (st : State) (s : Model) (from : ℕ) → Stands rows ws st s → from ≤ s.level → 0 < from → length (records st.records) ≤ from - 1 → ⊥
held_there rows ws st s from h low some past = let enough = h.recorded.enough in omega arith

-- what is answered of the record before it
pub held_answers : (rows : Rows) (ws : List ℕ) (st : State) (s : Model) (xs gs : List Frame) (g : Frame) (from : ℕ) (o : Option Record) → Stands rows ws st s → frames s ≡ xs ++ (g ∷ gs) → length gs ≡ from → from ≤ s.level → 0 < from →
    MatchOption o (length (records st.records) ≤ from - 1) (λ r. (from - 1 < length (records st.records)) × ((d : Record) → r ≡ get_or (records st.records) (from - 1) d)) →
    option_map (λ r. r.held) o ≡ Some (held rows g.back gs)
held_answers rows ws st s xs gs g from None h parts n low some past = absurd (held_there rows ws st s from h low some past)
held_answers rows ws st s xs gs g from (Some r) h parts n low some found = ap Some (held_below rows ws st s xs gs g from r h parts n low some found.1)
