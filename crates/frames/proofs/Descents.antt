-- Frames fewer: the machine stands for the model without them.
use Rattle.std.proofs.Common.{◌≡◌, ℕ, suc, ◌+◌, ◌*◌, ◌/◌, ◌<◌, ◌≤◌, min, List, ◌∷◌, ◌++◌, length, get_or, take, sym, ap, ◌∙◌, subst, ⊎_elim, append_assoc, le-div_iff_mul-le, div-mul-le_self, arith}
use Rattle.std.proofs.lemmas.List.{length-append, length-take-le, take-take, get_or-take, get_or_default}
use Rattle.std.proofs.lemmas.Bool.{cases_lt}
use Rattle.frame_map.specs.Maps.{Rows}
use Rattle.scan.specs.Frames.{Frame, top}
use Rattle.frames.specs.Tables.{records}
use Rattle.frames.specs.Models.{Model, frames}
use Rattle.frames.specs.Layouts.{layout}
use Rattle.frames.specs.Changes.{onto}
use Rattle.frames.specs.Falling.{Fell}
use Rattle.frames.specs.Standing.{Stands, Waiting, no_handler, no_marker, no_record}
use Rattle.frames.specs.declared.records.Handler.{Handler}
use Rattle.frames.specs.declared.records.Marker.{Marker}
use Rattle.frames.specs.declared.records.Record.{Record}
use Rattle.frames.specs.declared.state.State.{State}
use Rattle.frames.proofs.LayoutLaws.{top_part, take-layout, layout_low}
use Rattle.frames.proofs.StackLaws.{frame_number, waiting_part}
use Rattle.frames.proofs.TableLaws.{dropped_count, dropped_kept, dropped_nothing}

module _ (rows : Rows) (ws : List ℕ) (st ts : State) (s : Model) (xs fs : List Frame) (f : Frame) (h : Stands rows ws st s) (parts : frames s ≡ xs ++ (f ∷ fs)) (fell : Fell (length fs) st ts) where
  deeper : length (frames s) ≡ length xs + suc (length fs)
  deeper = ap length parts ∙ length-append xs (f ∷ fs)

  -- a part of what is left is a part of what was there
  part_of : (ys zs : List Frame) → f ∷ fs ≡ ys ++ zs → frames s ≡ (xs ++ ys) ++ zs
  part_of ys zs e = parts ∙ ap (λ q. xs ++ q) e ∙ sym (append_assoc xs ys zs)

  laid_still : take (top (f ∷ fs)) ws ≡ layout s.spacing (min s.level (length fs)) (f ∷ fs)
  laid_still =
      sym (take-take (top (f ∷ fs)) (top (frames s)) ws (subst (λ q. top (f ∷ fs) ≤ top q) (sym parts) (top_part xs (f ∷ fs))))
      ∙ ap (λ q. take (top (f ∷ fs)) q) (h.lies.laid ∙ ap (λ q. layout s.spacing s.level q) parts)
      ∙ take-layout s.spacing s.level xs (f ∷ fs)
      ∙ sym (layout_low s.spacing s.level (length fs) (f ∷ fs) (omega arith))

  -- the marker kept k-th is that of frame (k + 1) * spacing
  marker_frame : (k : ℕ) (d : Marker) → k < length (records st.markers) → (get_or (records st.markers) k d).frame ≡ suc k * s.spacing
  marker_frame k d l =
      let upto : suc k * s.spacing ≤ s.level = (le-div_iff_mul-le {k = s.spacing} {x = suc k} {y = s.level} (let m = h.placed.least in omega arith)).0 (let m = h.marked.many in omega arith) in
      let there = frame_number (frames s) (suc k * s.spacing) (let low = h.placed.low in omega arith) in
      ap (λ r. r.frame) (get_or_default (records st.markers) k d no_marker l ∙ h.marked.put_by there.0 there.1 there.2 k there.3 there.4 (let n = there.4 in omega arith))
      ∙ there.4

  markers_left : length (records ts.markers) ≡ min s.level (length fs) / s.spacing
  markers_left =
      dropped_count (λ r. r.frame) (length fs) (min s.level (length fs) / s.spacing) (records st.markers) (records ts.markers) fell.markers_dropped
      (let m = h.marked.many in
      let below = low_quotient in
      omega arith)
      (λ k d l. let e = marker_frame k d (let m = h.marked.many in let below = low_quotient in omega arith) in let upto = (le-div_iff_mul-le {k = s.spacing} {x = suc k} {y = min s.level (length fs)} some).0 l in omega arith)
      (λ k d a l.
      let e = marker_frame k d l in
      let upto : suc k * s.spacing ≤ s.level = (le-div_iff_mul-le {k = s.spacing} {x = suc k} {y = s.level} some).0 (let m = h.marked.many in omega arith) in
      let over : min s.level (length fs) < suc k * s.spacing = ⊎_elim (λ (l : min s.level (length fs) < suc k * s.spacing). l) (λ (l : suc k * s.spacing ≤ min s.level (length fs)). let q = (le-div_iff_mul-le {k = s.spacing} {x = suc k} {y = min s.level (length fs)} some).1 l in absurd (omega arith)) (cases_lt (min s.level (length fs)) (suc k * s.spacing)) in
      omega arith)
    where
      some : 0 < s.spacing
      some = let m = h.placed.least in omega arith

      low_quotient : min s.level (length fs) / s.spacing ≤ s.level / s.spacing
      low_quotient = (le-div_iff_mul-le {k = s.spacing} {x = min s.level (length fs) / s.spacing} {y = s.level} some).1 (let under = div-mul-le_self (min s.level (length fs)) s.spacing in omega arith)

  records_left : length (records ts.records) ≡ min (suc (length fs)) (length (records st.records))
  records_left =
      dropped_count (λ r. r.frame) (length fs) (min (suc (length fs)) (length (records st.records))) (records st.records) (records ts.records) fell.records_dropped (omega arith)
      (λ k d l. let e = record_frame k d (omega arith) in omega arith)
      (λ k d a l. let e = record_frame k d l in omega arith)
    where
      record_frame : (k : ℕ) (d : Record) → k < length (records st.records) → (get_or (records st.records) k d).frame ≡ k
      record_frame k d l = ap (λ r. r.frame) (get_or_default (records st.records) k d no_record l) ∙ h.recorded.numbered k l

  pub fell_stands : ((i : ℕ) → i < length s.handlers → (get_or s.handlers i no_handler).frame ≤ length fs) → Stands rows ws ts (onto s s.handlers (f ∷ fs))
  fell_stands calm = record {
    placed = record {
      rows_are = h.placed.rows_are;
      room_is = h.placed.room_is;
      few = h.placed.few;
      spaced = fell.spacing_same ∙ h.placed.spaced;
      least = h.placed.least;
      most = h.placed.most;
      registers_are = fell.registers_same ∙ h.placed.registers_are;
      phased = fell.phase_same ∙ h.placed.phased;
      levelled = fell.lower ∙ ap (λ u. min u (length fs)) h.placed.levelled;
      low = omega arith;
    };
    lies = record {
      laid = laid_still;
      fits = let l = h.lies.fits in let e : top (frames s) ≡ top (xs ++ (f ∷ fs)) = ap top parts in let part = top_part xs (f ∷ fs) in omega arith;
      deep = let n = ap length fell.edges_left ∙ length-take-le (suc (suc (length fs))) st.edges (let d = h.lies.deep in let e = deeper in omega arith) in omega arith;
      edged = λ ys zs e.
          ap (λ q. get_or q (length zs) 0) fell.edges_left
          ∙ get_or-take (suc (suc (length fs))) st.edges (length zs) 0 (let n = ap length e ∙ length-append ys zs in omega arith)
          ∙ h.lies.edged (xs ++ ys) zs (part_of ys zs e);
    };
    handled = record {
      handlers_are = dropped_nothing (λ r. r.frame) (length fs) (records st.handlers) (records ts.handlers) fell.handlers_dropped quiet ∙ h.handled.handlers_are;
      inside = calm;
      ordered = h.handled.ordered;
    };
    marked = record {
      many = markers_left;
      put_by = λ ys zs g k e m l.
          dropped_kept (λ r. r.frame) (length fs) (records st.markers) (records ts.markers) k no_marker fell.markers_dropped (marker_left k zs m l)
          ∙ h.marked.put_by (xs ++ ys) zs g k (part_of ys (g ∷ zs) e) m (omega arith);
    };
    recorded = record {
      enough = let n = records_left in let l = h.recorded.enough in omega arith;
      numbered = λ k l.
          ap (λ r. r.frame) (dropped_kept (λ r. r.frame) (length fs) (records st.records) (records ts.records) k no_record fell.records_dropped l)
          ∙ h.recorded.numbered k (let n = records_left in omega arith);
      known = λ ys zs g e_frame e l.
          dropped_kept (λ r. r.frame) (length fs) (records st.records) (records ts.records) (length zs) no_record fell.records_dropped (let n = records_left in let m = h.recorded.enough in omega arith)
          ∙ h.recorded.known (xs ++ ys) zs g e_frame (part_of ys (g ∷ (e_frame ∷ zs)) e) (omega arith);
    };
    waiting = waiting_part rows xs fs f (subst (λ q. Waiting rows q) parts h.waiting);
  }
    where
      quiet : (k : ℕ) (d : Handler) → k < length (records st.handlers) → (get_or (records st.handlers) k d).frame ≤ length fs
      quiet k d l =
          let same : get_or (records st.handlers) k d ≡ get_or s.handlers k no_handler = get_or_default (records st.handlers) k d no_handler l ∙ ap (λ q. get_or q k no_handler) h.handled.handlers_are in
          subst (λ r. r.frame ≤ length fs) (sym same) (calm k (subst (λ q. k < length q) h.handled.handlers_are l))

      marker_left : (k : ℕ) (zs : List Frame) → length zs ≡ suc k * s.spacing → length zs ≤ min s.level (length fs) → k < length (records ts.markers)
      marker_left k zs m l =
          let n = markers_left in
          let q : suc k ≤ min s.level (length fs) / s.spacing = (le-div_iff_mul-le {k = s.spacing} {x = suc k} {y = min s.level (length fs)} (let a = h.placed.least in omega arith)).1 (omega arith) in
          omega arith
