-- Other handlers, other registers, other words in slots: the machine stands for the model with them.
use Rattle.std.proofs.Common.{◌≡◌, ℕ, zero, suc, ◌+◌, ◌-◌, ◌*◌, ◌<◌, ◌≤◌, cond, List, [], ◌∷◌, ◌++◌, length, get_or, take, drop, set, Some, None, Option, sym, refl, ap, ◌∙◌, subst, arith}
use Rattle.std.proofs.lemmas.List.{length-set, set-append_right, drop-set-lt}
use Rattle.std.proofs.Math.Seq.{take-set-lt}
use Rattle.frame_map.specs.Maps.{Rows}
use Rattle.frame_map.specs.declared.row.Row.{Row}
use Rattle.scan.specs.Frames.{Frame, size, top}
use Rattle.scan.specs.Masks.{held, roots_by}
use Rattle.scan.proofs.StackLaws.{top-cons}
use Rattle.frames.specs.Tables.{records}
use Rattle.frames.specs.Models.{Model, frames, newest}
use Rattle.frames.specs.Layouts.{marked, marker, layout}
use Rattle.frames.specs.Changes.{with_handlers, with_slot, with_register}
use Rattle.frames.specs.Standing.{Stands, no_handler, no_marker, no_record, record_of}
use Rattle.frames.specs.declared.records.Handler.{Handler}
use Rattle.frames.specs.declared.state.State.{State}
use Rattle.frames.proofs.Alikes.{Alike, alike_same, alike_length, alike_top, alike_held, alike_part, alike_waiting}
use Rattle.frames.proofs.LayoutLaws.{length-layout, layout-cons}

-- other handlers
pub record SameButHandlers (st ts : State) : Type 0 where
  pub phase_same : ts.phase ≡ st.phase
  pub spacing_same : ts.spacing ≡ st.spacing
  pub edges_same : ts.edges ≡ st.edges
  pub registers_same : ts.registers ≡ st.registers
  pub level_same : ts.level ≡ st.level
  pub markers_same : ts.markers ≡ st.markers
  pub records_same : ts.records ≡ st.records

pub handlers_stand : (rows : Rows) (ws : List ℕ) (st ts : State) (s : Model) (hs : List Handler) → Stands rows ws st s → SameButHandlers st ts → records ts.handlers ≡ hs →
    ((i : ℕ) → i < length hs → (get_or hs i no_handler).frame ≤ newest s) → ((i j : ℕ) → i < j → j < length hs → (get_or hs i no_handler).frame ≤ (get_or hs j no_handler).frame) → Stands rows ws ts (with_handlers s hs)
handlers_stand rows ws st ts s hs h same are inside ordered = record {
  placed = record {
    rows_are = h.placed.rows_are;
    room_is = h.placed.room_is;
    few = h.placed.few;
    spaced = same.spacing_same ∙ h.placed.spaced;
    least = h.placed.least;
    most = h.placed.most;
    registers_are = same.registers_same ∙ h.placed.registers_are;
    phased = same.phase_same ∙ h.placed.phased;
    levelled = same.level_same ∙ h.placed.levelled;
    low = h.placed.low;
  };
  lies = record {
    laid = h.lies.laid;
    fits = h.lies.fits;
    deep = ap (λ e. length e - 1) same.edges_same ∙ h.lies.deep;
    edged = λ xs fs e. ap (λ q. get_or q (length fs) 0) same.edges_same ∙ h.lies.edged xs fs e;
  };
  handled = record { handlers_are = are; inside = inside; ordered = ordered };
  marked = record {
    many = ap (λ t. length (records t)) same.markers_same ∙ h.marked.many;
    put_by = λ xs fs f k e m l. ap (λ t. get_or (records t) k no_marker) same.markers_same ∙ h.marked.put_by xs fs f k e m l;
  };
  recorded = record {
    enough = subst (λ t. s.level ≤ length (records t)) (sym same.records_same) h.recorded.enough;
    numbered = subst (λ t. (k : ℕ) → k < length (records t) → (get_or (records t) k no_record).frame ≡ k) (sym same.records_same) h.recorded.numbered;
    known = λ xs fs g f e l. ap (λ t. get_or (records t) (length fs) no_record) same.records_same ∙ h.recorded.known xs fs g f e l;
  };
  waiting = h.waiting;
}

-- for now the row alone decides which slots are pointer slots
roots_any : (o : Option Row) (ws vs : List ℕ) (k : ℕ) → roots_by o ws k ≡ roots_by o vs k
roots_any None ws vs k = refl
roots_any (Some r) ws vs k = refl

-- what the scan gives for a frame does not depend on what slots hold
record_as : (rows : Rows) (p q : ℕ) (f g : Frame) (fs gs : List Frame) → p ≡ q → Alike (f ∷ fs) (g ∷ gs) → record_of rows p f fs ≡ record_of rows q g gs
record_as rows p q f g fs gs e a =
    ap (λ k. record_of rows k f fs) e
    ∙ ap (λ n. record { frame = n; roots = roots_by (rows q) f.slots (held rows f.back fs); held = held rows q (f ∷ fs) }) (alike_length fs gs a.2)
    ∙ ap (λ r. record { frame = length gs; roots = r; held = held rows q (f ∷ fs) })
    (roots_any (rows q) f.slots g.slots (held rows f.back fs) ∙ ap (λ k. roots_by (rows q) g.slots k) (ap (λ b. held rows b fs) a.0 ∙ alike_held rows g.back fs gs a.2))
    ∙ ap (λ k. record { frame = length gs; roots = roots_by (rows q) g.slots (held rows g.back gs); held = k }) (alike_held rows q (f ∷ fs) (g ∷ gs) a)

-- other words in the slots of frames and in the registers
abbrev pub with_words : Model → Frame → List Frame → List ℕ → Model
with_words s f fs rs = record {
  rows = s.rows;
  room = s.room;
  spacing = s.spacing;
  current = f;
  older = fs;
  registers = rs;
  handlers = s.handlers;
  level = s.level;
  stage = s.stage;
}

pub record SameButRegisters (st ts : State) : Type 0 where
  pub phase_same : ts.phase ≡ st.phase
  pub spacing_same : ts.spacing ≡ st.spacing
  pub edges_same : ts.edges ≡ st.edges
  pub handlers_same : ts.handlers ≡ st.handlers
  pub level_same : ts.level ≡ st.level
  pub markers_same : ts.markers ≡ st.markers
  pub records_same : ts.records ≡ st.records

module _ (rows : Rows) (ws vs : List ℕ) (st ts : State) (s : Model) (g : Frame) (gs : List Frame) (rs : List ℕ) (h : Stands rows ws st s) (same : SameButRegisters st ts) (alike : Alike (frames s) (g ∷ gs)) where
  same_top : top (g ∷ gs) ≡ top (frames s)
  same_top = sym (alike_top (frames s) (g ∷ gs) alike)

  same_length : length gs ≡ length s.older
  same_length = sym (alike_length s.older gs alike.2)

  marks : (xs fs : List Frame) (f : Frame) (k : ℕ) → g ∷ gs ≡ xs ++ (f ∷ fs) → length fs ≡ suc k * s.spacing → length fs ≤ s.level →
      get_or (records st.markers) k no_marker ≡ record { frame = length fs; address = f.back }
  marks xs fs f k e m l = go (alike_part (frames s) (g ∷ gs) xs (f ∷ fs) alike e)
    where
      go : (us : List Frame) × (vs : List Frame) × (frames s ≡ us ++ vs) × Alike vs (f ∷ fs) → get_or (records st.markers) k no_marker ≡ record { frame = length fs; address = f.back }
      go part = by part.0 part.1 part.2 part.3
        where
          by : (us vs : List Frame) → frames s ≡ us ++ vs → Alike vs (f ∷ fs) → get_or (records st.markers) k no_marker ≡ record { frame = length fs; address = f.back }
          by us [] e' a = absurd a
          by us (v ∷ vs) e' a =
              let n : length vs ≡ length fs = alike_length vs fs a.2 in
              h.marked.put_by us vs v k e' (n ∙ m) (omega arith) ∙ ap (λ j. record { frame = j; address = v.back }) n ∙ ap (λ b. record { frame = length fs; address = b }) a.0

  knows : (xs fs : List Frame) (f e : Frame) → g ∷ gs ≡ xs ++ (f ∷ (e ∷ fs)) → length fs < s.level → get_or (records st.records) (length fs) no_record ≡ record_of rows f.back e fs
  knows xs fs f e parts l = go (alike_part (frames s) (g ∷ gs) xs (f ∷ (e ∷ fs)) alike parts)
    where
      go : (us : List Frame) × (vs : List Frame) × (frames s ≡ us ++ vs) × Alike vs (f ∷ (e ∷ fs)) → get_or (records st.records) (length fs) no_record ≡ record_of rows f.back e fs
      go part = by part.0 part.1 part.2 part.3
        where
          by : (us vs : List Frame) → frames s ≡ us ++ vs → Alike vs (f ∷ (e ∷ fs)) → get_or (records st.records) (length fs) no_record ≡ record_of rows f.back e fs
          by us [] e' a = absurd a
          by us (u ∷ []) e' a = absurd a.2
          by us (u ∷ (v ∷ vs)) e' a =
              let n : length vs ≡ length fs = alike_length vs fs a.2.2 in
              ap (λ k. get_or (records st.records) k no_record) (sym n) ∙ h.recorded.known us vs u v e' (omega arith) ∙ record_as rows u.back f.back v e vs fs a.0 a.2

  edges : (xs fs : List Frame) → g ∷ gs ≡ xs ++ fs → get_or ts.edges (length fs) 0 ≡ top fs
  edges xs fs e =
      let part = alike_part (frames s) (g ∷ gs) xs fs alike e in
      ap (λ q. get_or q (length fs) 0) same.edges_same
      ∙ ap (λ k. get_or st.edges k 0) (sym (alike_length part.1 fs part.3))
      ∙ h.lies.edged part.0 part.1 part.2
      ∙ alike_top part.1 fs part.3

  pub words_stand : length vs ≡ length ws → take (top (g ∷ gs)) vs ≡ layout s.spacing s.level (g ∷ gs) → ts.registers ≡ rs → Stands rows vs ts (with_words s g gs rs)
  words_stand long laid are = record {
    placed = record {
      rows_are = h.placed.rows_are;
      room_is = long ∙ h.placed.room_is;
      few = h.placed.few;
      spaced = same.spacing_same ∙ h.placed.spaced;
      least = h.placed.least;
      most = h.placed.most;
      registers_are = are;
      phased = same.phase_same ∙ h.placed.phased;
      levelled = same.level_same ∙ h.placed.levelled;
      low = let l = h.placed.low in let n = same_length in omega arith;
    };
    lies = record {
      laid = laid;
      fits = let l = h.lies.fits in let t = same_top in omega arith;
      deep = ap (λ e. length e - 1) same.edges_same ∙ h.lies.deep ∙ alike_length (frames s) (g ∷ gs) alike;
      edged = edges;
    };
    handled = record {
      handlers_are = ap records same.handlers_same ∙ h.handled.handlers_are;
      inside = λ i l. let under = h.handled.inside i l in let n = same_length in omega arith;
      ordered = h.handled.ordered;
    };
    marked = record {
      many = ap (λ t. length (records t)) same.markers_same ∙ h.marked.many;
      put_by = λ xs fs f k e m l. ap (λ t. get_or (records t) k no_marker) same.markers_same ∙ marks xs fs f k e m l;
    };
    recorded = record {
      enough = subst (λ t. s.level ≤ length (records t)) (sym same.records_same) h.recorded.enough;
      numbered = subst (λ t. (k : ℕ) → k < length (records t) → (get_or (records t) k no_record).frame ≡ k) (sym same.records_same) h.recorded.numbered;
      known = λ xs fs f e parts l. ap (λ t. get_or (records t) (length fs) no_record) same.records_same ∙ knows xs fs f e parts l;
    };
    waiting = alike_waiting rows (frames s) (g ∷ gs) alike h.waiting;
  }

set_behind : (x : ℕ) (xs : List ℕ) (i v : ℕ) → 1 ≤ i → set (x ∷ xs) i v ≡ x ∷ set xs (i - 1) v
set_behind x xs zero v l = absurd (omega arith)
set_behind x xs (suc i) v l = ap (λ k. x ∷ set xs k v) (let e : i ≡ suc i - 1 = omega arith in e)

module _ (rows : Rows) (ws : List ℕ) (st : State) (s : Model) (i w : ℕ) (h : Stands rows ws st s) (some : 1 ≤ i) (inside : i < size s.current) where
  tops : top (frames s) ≡ top s.older + size s.current
  tops = top-cons s.current s.older

  changed_top : top ((with_slot s i w).current ∷ s.older) ≡ top (frames s)
  changed_top = top-cons (with_slot s i w).current s.older ∙ ap (λ k. top s.older + suc k) (length-set s.current.slots (i - 1) w) ∙ sym tops

  slot_laid : take (top ((with_slot s i w).current ∷ s.older)) (set ws (top s.older + i) w) ≡ layout s.spacing s.level ((with_slot s i w).current ∷ s.older)
  slot_laid =
      let m = s.spacing in
      let u = s.level in
      let first = cond (marked m u (length s.older)) (marker m (length s.older)) s.current.back in
      ap (λ k. take k (set ws (top s.older + i) w)) changed_top
      ∙ take-set-lt (top (frames s)) ws (top s.older + i) w (let t = tops in omega arith)
      ∙ ap (λ q. set q (top s.older + i) w) (h.lies.laid ∙ layout-cons m u s.current s.older)
      ∙ set-append_right (layout m u s.older) (first ∷ s.current.slots) (top s.older) (top s.older + i) w (length-layout m u s.older) (omega arith)
      ∙ ap (λ k. layout m u s.older ++ set (first ∷ s.current.slots) k w) (let e : top s.older + i - top s.older ≡ i = omega arith in e)
      ∙ ap (λ q. layout m u s.older ++ q) (set_behind first s.current.slots i w some)
      ∙ sym (layout-cons m u (with_slot s i w).current s.older)

  pub slot_stands : Stands rows (set ws (top s.older + i) w) st (with_slot s i w)
  slot_stands =
      words_stand rows ws (set ws (top s.older + i) w) st st s (with_slot s i w).current s.older s.registers h
      (record { phase_same = refl; spacing_same = refl; edges_same = refl; handlers_same = refl; level_same = refl; markers_same = refl; records_same = refl })
      (refl, sym (length-set s.current.slots (i - 1) w), alike_same s.older)
      (length-set ws (top s.older + i) w) slot_laid h.placed.registers_are

  pub slot_keeps : drop (top (frames (with_slot s i w))) (set ws (top s.older + i) w) ≡ drop (top (frames (with_slot s i w))) ws
  slot_keeps = drop-set-lt (top (frames (with_slot s i w))) ws (top s.older + i) w (let a = changed_top in let b = tops in omega arith)

-- another word in a register
pub register_stands : (rows : Rows) (ws : List ℕ) (st ts : State) (s : Model) (k w : ℕ) → Stands rows ws st s → SameButRegisters st ts → ts.registers ≡ set st.registers k w → Stands rows ws ts (with_register s k w)
register_stands rows ws st ts s k w h same are =
    words_stand rows ws ws st ts s s.current s.older (set s.registers k w) h same (alike_same (frames s)) refl h.lies.laid (are ∙ ap (λ q. set q k w) h.placed.registers_are)
