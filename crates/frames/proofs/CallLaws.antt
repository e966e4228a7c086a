-- Calls that are accepted: the machine stands for the next model.
use Rattle.std.proofs.Common.{◌≡◌, ℕ, zero, suc, ◌+◌, ◌-◌, ◌%◌, ◌^◌, ◌<◌, ◌≤◌, List, [], ◌∷◌, ◌++◌, length, get_or, take, drop, set, Some, sym, refl, ap, ◌∙◌, subst, arith}
use Rattle.std.proofs.lemmas.List.{get_or-take, get_or-append_right, length-drop, take-append-drop}
use Rattle.frame_map.specs.Maps.{Rows}
use Rattle.frame_map.specs.declared.row.Row.{Row}
use Rattle.refusal.specs.Numbers.{number_of}
use Rattle.refusal.specs.declared.Refusal.{Refusal}
use Rattle.scan.specs.Frames.{Frame, size, top}
use Rattle.scan.proofs.StackLaws.{top-cons}
use Rattle.frames.specs.Tables.{records, depth, Newest}
use Rattle.frames.specs.Models.{Model, frames, newest}
use Rattle.frames.specs.Layouts.{layout, frame_words}
use Rattle.frames.specs.Reasons.{HandlerOf, Reason, Clear, First, leave_reasons, try_reasons, untry_reasons, raise_reasons, slot_reasons, register_reasons}
use Rattle.frames.specs.Changes.{left, tried, untried, raised, onto, with_handlers, with_slot, with_register, top_handler, other_handlers}
use Rattle.frames.specs.Falling.{Fell}
use Rattle.frames.specs.Standing.{Stands, no_handler}
use Rattle.frames.specs.Views.{View, view, StandsFor, after, cost, Accepted, Refused}
use Rattle.frames.specs.declared.records.Handler.{Handler}
use Rattle.frames.specs.declared.state.Phase.TheVariants.{Running}
use Rattle.frames.specs.declared.state.State.{State}
use Rattle.frames.proofs.Descents.{fell_stands}
use Rattle.frames.proofs.HandlerLaws.{newest_is, handlers_below, others_below, others_inside, others_ordered, more_inside, more_ordered}
use Rattle.frames.proofs.LayoutLaws.{length-layout, layout-cons}
use Rattle.frames.proofs.Rewrites.{SameButHandlers, SameButRegisters, handlers_stand, slot_stands, slot_keeps, register_stands}
use Rattle.frames.proofs.ViewLaws.{runs, after_none, after_one, fit_clear}

-- the running frame is gone
leave_stands : (rows : Rows) (ws : List ℕ) (st ts : State) (s : Model) (older : List Frame) → Stands rows ws st s → s.older ≡ older → 1 < depth st → (HandlerOf s (newest s) → ⊥) → Fell (depth st - 1 - 1) st ts → Stands rows ws ts (onto s s.handlers older)
leave_stands rows ws st ts s [] h e deep none fell = let d = h.lies.deep in let n : length s.older ≡ 0 = ap length e in absurd (omega arith)
leave_stands rows ws st ts s (f ∷ fs) h e deep none fell =
    let d = h.lies.deep in
    let n : length s.older ≡ suc (length fs) = ap length e in
    let at : depth st - 1 - 1 ≡ length fs = omega arith in
    fell_stands rows ws st ts s (s.current ∷ []) fs f h (ap (λ q. s.current ∷ q) e) (subst (λ k. Fell k st ts) at fell)
    (λ i l. let under = handlers_below st s h.handled none i l in omega arith)

pub leave_accepted : (v : View) (rows : Rows) (count : ℕ) (ts : State) (s : Model) → StandsFor v s → v.state.phase ≡ Running → 1 < depth v.state → (HandlerOf s (newest s) → ⊥) →
    rows ≡ v.rows → count ≡ (v.count + 1) % 2 ^ 32 → Fell (depth v.state - 1 - 1) v.state ts → Accepted v (view rows count v.words ts) (leave_reasons s) 1 (left s)
leave_accepted v rows count ts s h on deep none same counted fell = record {
  clear = (runs v.rows v.words v.state s h on, (λ z. let d = h.lies.deep in omega arith, (none, tt)));
  stands = subst (λ q. Stands q v.words ts (left s)) (sym same) (leave_stands v.rows v.words v.state ts s s.older h refl deep none fell);
  counted = counted ∙ sym (after_one v.count);
  keeps = refl;
}

-- a handler more
pub try_accepted : (v : View) (rows : Rows) (count : ℕ) (ts : State) (s : Model) (q m : ℕ) (row : Row) (x : Handler) → StandsFor v s → v.state.phase ≡ Running → length (records v.state.handlers) < 64 →
    m ≡ size s.current → (v.rows q ≡ Some row) × (row.size ≡ m) → rows ≡ v.rows → count ≡ (v.count + 1) % 2 ^ 32 → SameButHandlers v.state ts →
    x ≡ record { frame = newest s; point = q } → records ts.handlers ≡ records v.state.handlers ++ x ∷ [] → Accepted v (view rows count v.words ts) (try_reasons s q) 1 (tried s q)
try_accepted v rows count ts s q m row x h on few sized found same counted tables new pushed = record {
  clear = (
    runs v.rows v.words v.state s h on,
    (
      λ full. let n : length (records v.state.handlers) ≡ length s.handlers = ap length h.handled.handlers_are in omega arith,
      fit_clear v.rows v.words v.state s q m h sized row found.0 found.1,
    ),
  );
  stands =
      subst (λ r. Stands r v.words ts (tried s q)) (sym same)
      (handlers_stand v.rows v.words v.state ts s (s.handlers ++ record { frame = newest s; point = q } ∷ []) h tables
      (pushed ∙ ap (λ l. l ++ x ∷ []) h.handled.handlers_are ∙ ap (λ y. s.handlers ++ y ∷ []) new)
      (more_inside v.state s h.handled (record { frame = newest s; point = q }) refl)
      (more_ordered v.state s h.handled (record { frame = newest s; point = q }) refl));
  counted = counted ∙ sym (after_one v.count);
  keeps = refl;
}

-- a handler less
popped_stands : (rows : Rows) (ws : List ℕ) (st ts : State) (s : Model) (x : Handler) → Stands rows ws st s → SameButHandlers st ts → Newest (records st.handlers) x (records ts.handlers) → Stands rows ws ts (untried s)
popped_stands rows ws st ts s x h tables n =
    let new : Newest s.handlers x (records ts.handlers) = subst (λ q. Newest q x (records ts.handlers)) h.handled.handlers_are n in
    handlers_stand rows ws st ts s (other_handlers s) h tables (sym (newest_is s.handlers (records ts.handlers) x new).1) (others_inside st s h.handled) (others_ordered st s h.handled)

pub untry_accepted : (v : View) (ts : State) (s : Model) (x : Handler) → StandsFor v s → v.state.phase ≡ Running → HandlerOf s (newest s) → SameButHandlers v.state ts →
    Newest (records v.state.handlers) x (records ts.handlers) → Accepted v (view v.rows v.count v.words ts) (untry_reasons s) 0 (untried s)
untry_accepted v ts s x h on there tables n = record {
  clear = (runs v.rows v.words v.state s h on, (λ none. none there, tt));
  stands = popped_stands v.rows v.words v.state ts s x h tables n;
  counted = sym (after_none v.count);
  keeps = refl;
}

-- there was no handler to take away
pub none_left : (v : View) (ts : State) (s : Model) (why : List Reason) (e : Refusal) → StandsFor v s → SameButHandlers v.state ts → records v.state.handlers ≡ [] → records ts.handlers ≡ [] → cost (number_of e) ≡ 0 →
    (s.handlers ≡ [] → First why (number_of e)) → Refused v (view v.rows v.count v.words ts) why s e
none_left v ts s why e h tables was is free first =
    let none : s.handlers ≡ [] = sym h.handled.handlers_are ∙ was in
    record {
      first = first none;
      stands = handlers_stand v.rows v.words v.state ts s s.handlers h tables (is ∙ sym none) h.handled.inside h.handled.ordered;
      counted = sym (ap (λ k. after v.count k) free ∙ after_none v.count);
      keeps = refl;
    }

-- frames above the handler's are gone
raise_stands : (rows : Rows) (ws : List ℕ) (st ts : State) (s : Model) (hs : List Handler) (rest : List Frame) → Stands rows ws st (with_handlers s hs) → ((i : ℕ) → i < length hs → (get_or hs i no_handler).frame ≤ length rest - 1) →
    (above : List Frame) → frames s ≡ above ++ rest → 0 < length rest → Fell (length rest - 1) st ts → Stands rows ws ts (onto s hs rest)
raise_stands rows ws st ts s hs [] h calm above parts some fell = absurd (omega arith)
raise_stands rows ws st ts s hs (f ∷ fs) h calm above parts some fell =
    let at : length (f ∷ fs) - 1 ≡ length fs = omega arith in
    fell_stands rows ws st ts (with_handlers s hs) above fs f h parts (subst (λ k. Fell k st ts) at fell) (λ i l. let under = calm i l in omega arith)

pub raise_accepted : (v : View) (ms ts : State) (s : Model) (x : Handler) → StandsFor v s → v.state.phase ≡ Running → SameButHandlers v.state ms → Newest (records v.state.handlers) x (records ms.handlers) →
    Fell x.frame ms ts → Accepted v (view v.rows v.count v.words ts) (raise_reasons s) 0 (raised s) × (x ≡ top_handler s)
raise_accepted v ms ts s x h on tables n fell = (
  record {
    clear = (runs v.rows v.words v.state s h on, (λ none. let z : length s.handlers ≡ 0 = ap length none in let l = is.2 in omega arith, tt));
    stands =
        raise_stands v.rows v.words ms ts s (other_handlers s) (drop (newest s - (top_handler s).frame) (frames s)) (popped_stands v.rows v.words v.state ms s x h tables n)
        (λ i l. let under = others_below v.state s h.handled i l in let e = same_frame in let c = count in omega arith)
        (take (newest s - (top_handler s).frame) (frames s)) (sym (take-append-drop (newest s - (top_handler s).frame) (frames s))) (let c = count in omega arith)
        (subst (λ k. Fell k ms ts) (let c = count in let e = same_frame in let r : x.frame ≡ length (drop (newest s - (top_handler s).frame) (frames s)) - 1 = omega arith in r) fell);
    counted = sym (after_none v.count);
    keeps = refl;
  },
  sym is.0,
)
  where
    is : (get_or s.handlers (length s.handlers - 1) no_handler ≡ x) × (take (length s.handlers - 1) s.handlers ≡ records ms.handlers) × (length s.handlers ≡ suc (length (records ms.handlers)))
    is = newest_is s.handlers (records ms.handlers) x (subst (λ q. Newest q x (records ms.handlers)) h.handled.handlers_are n)

    same_frame : (top_handler s).frame ≡ x.frame
    same_frame = ap (λ r. r.frame) is.0

    inside : (top_handler s).frame ≤ newest s
    inside = h.handled.inside (length s.handlers - 1) (let l = is.2 in omega arith)

    count : length (drop (newest s - (top_handler s).frame) (frames s)) ≡ suc (top_handler s).frame
    count = length-drop (newest s - (top_handler s).frame) (frames s) ∙ (let l = inside in omega arith)

-- slots of the running frame
module _ (v : View) (s : Model) (i : ℕ) (h : StandsFor v s) (on : v.state.phase ≡ Running) (some : 1 ≤ i) (inside : i < size s.current) where
  slot_clear : Clear (slot_reasons s i)
  slot_clear = (runs v.rows v.words v.state s h on, (λ out. out (some, inside), tt))

  place_inside : top s.older + i < top (frames s)
  place_inside = let t = top-cons s.current s.older in omega arith

  word_behind : (x : ℕ) (xs : List ℕ) (k : ℕ) → 1 ≤ k → get_or (x ∷ xs) k 0 ≡ get_or xs (k - 1) 0
  word_behind x xs zero l = absurd (omega arith)
  word_behind x xs (suc k) l = ap (λ j. get_or xs j 0) (let e : k ≡ suc k - 1 = omega arith in e)

  pub slot_word : get_or v.words (top s.older + i) 0 ≡ get_or s.current.slots (i - 1) 0
  slot_word =
      let m = s.spacing in
      let u = s.level in
      sym (get_or-take (top (frames s)) v.words (top s.older + i) 0 place_inside)
      ∙ ap (λ q. get_or q (top s.older + i) 0) (h.lies.laid ∙ layout-cons m u s.current s.older)
      ∙ get_or-append_right (layout m u s.older) (frame_words m u (length s.older) s.current) (top s.older) (top s.older + i) 0 (length-layout m u s.older) (omega arith)
      ∙ ap (λ k. get_or (frame_words m u (length s.older) s.current) k 0) (let e : top s.older + i - top s.older ≡ i = omega arith in e)
      ∙ word_behind _ s.current.slots i some

  pub slot_read : Accepted v v (slot_reasons s i) 0 s
  slot_read = record { clear = slot_clear; stands = h; counted = sym (after_none v.count); keeps = refl }

  pub slot_written : (w : ℕ) (ws : List ℕ) → ws ≡ set v.words (top s.older + i) w → Accepted v (view v.rows v.count ws v.state) (slot_reasons s i) 0 (with_slot s i w)
  slot_written w ws e = record {
    clear = slot_clear;
    stands = subst (λ q. Stands v.rows q v.state (with_slot s i w)) (sym e) (slot_stands v.rows v.words v.state s i w h some inside);
    counted = sym (after_none v.count);
    keeps = subst (λ q. drop (top (frames (with_slot s i w))) q ≡ drop (top (frames (with_slot s i w))) v.words) (sym e) (slot_keeps v.rows v.words v.state s i w h some inside);
  }

-- registers
register_clear : (v : View) (s : Model) (k : ℕ) → StandsFor v s → v.state.phase ≡ Running → k < 16 → Clear (register_reasons s k)
register_clear v s k h on l = (runs v.rows v.words v.state s h on, (λ out. out l, tt))

pub register_read : (v : View) (s : Model) (k : ℕ) → StandsFor v s → v.state.phase ≡ Running → k < 16 → Accepted v v (register_reasons s k) 0 s
register_read v s k h on l = record { clear = register_clear v s k h on l; stands = h; counted = sym (after_none v.count); keeps = refl }

pub register_written : (v : View) (ts : State) (s : Model) (k w : ℕ) → StandsFor v s → v.state.phase ≡ Running → k < 16 → SameButRegisters v.state ts → ts.registers ≡ set v.state.registers k w →
    Accepted v (view v.rows v.count v.words ts) (register_reasons s k) 0 (with_register s k w)
register_written v ts s k w h on l same are = record {
  clear = register_clear v s k h on l;
  stands = register_stands v.rows v.words v.state ts s k w h same are;
  counted = sym (after_none v.count);
  keeps = refl;
}
