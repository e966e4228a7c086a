-- A frame more: the machine stands for the model with it.
use Rattle.std.proofs.Common.{◌≡◌, ℕ, suc, ◌+◌, ◌-◌, ◌*◌, ◌%◌, ◌^◌, ◌<◌, ◌≤◌, false, cond, ◌&&◌, eqb, ltb, leb, List, [], ◌∷◌, ◌++◌, length, get_or, take, drop, replicate, Some, sym, ap, ◌∙◌, subst, ⊎_elim, append_assoc, arith}
use Rattle.std.proofs.lemmas.List.{length-append, length-take-le, length-drop, length-replicate, length_push, take_at, drop_at, get_or_push, get_or_append_left}
use Rattle.std.proofs.lemmas.Bool.{lt-leb, and_right}
use Rattle.frame_map.specs.Maps.{Rows}
use Rattle.frame_map.specs.declared.row.Row.{Row}
use Rattle.scan.specs.Frames.{Frame, size, top}
use Rattle.scan.proofs.StackLaws.{top-cons}
use Rattle.frames.specs.Tables.{records, depth}
use Rattle.frames.specs.Models.{Model, frames}
use Rattle.frames.specs.Layouts.{marked, marker, frame_words, layout}
use Rattle.frames.specs.Changes.{entered}
use Rattle.frames.specs.Standing.{Stands, Describes, no_marker, no_record, record_of}
use Rattle.frames.specs.Reasons.{enter_reasons}
use Rattle.frames.specs.Views.{View, view, StandsFor, Accepted}
use Rattle.frames.specs.declared.state.Phase.TheVariants.{Running}
use Rattle.frames.specs.declared.state.State.{State}
use Rattle.frames.proofs.ViewLaws.{runs, after_one, fit_clear, fit_describes}
use Rattle.frames.proofs.LayoutLaws.{layout-cons}
use Rattle.frames.proofs.StackLaws.{split_cons, waiting-cons}

-- all but the frames is as it was
pub record SameTables (st ts : State) : Type 0 where
  pub phase_same : ts.phase ≡ st.phase
  pub spacing_same : ts.spacing ≡ st.spacing
  pub registers_same : ts.registers ≡ st.registers
  pub handlers_same : ts.handlers ≡ st.handlers
  pub level_same : ts.level ≡ st.level
  pub markers_same : ts.markers ≡ st.markers
  pub records_same : ts.records ≡ st.records

-- the frame that enters with n words
abbrev fresh : ℕ → ℕ → Frame
fresh p n = record { back = p; slots = replicate (n - 1) 0 }

size_fresh : (p n : ℕ) → 1 ≤ n → size (fresh p n) ≡ n
size_fresh p n some = let l : length (replicate {A = ℕ} (n - 1) 0) ≡ n - 1 = length-replicate (n - 1) 0 in omega arith

-- a new frame is above the low-water mark
unmarked : (m u j : ℕ) → u < j → marked m u j ≡ false
unmarked m u j l = and_right (ltb 0 j) (eqb (j % m) 0 && leb j u) (and_right (eqb (j % m) 0) (leb j u) (lt-leb j u l))

-- the words when a frame of n words is laid at place t
abbrev pub laid_at : List ℕ → ℕ → ℕ → ℕ → List ℕ
laid_at ws t p n = take t ws ++ ((p ∷ replicate (n - 1) 0) ++ drop (t + n) ws)

module _ (rows : Rows) (ws : List ℕ) (st ts : State) (s : Model) (p n : ℕ) (h : Stands rows ws st s) (some : 1 ≤ n) (room : top (frames s) + n ≤ length ws) where
  new_length : length (p ∷ replicate {A = ℕ} (n - 1) 0) ≡ n
  new_length = size_fresh p n some

  front_length : length (take (top (frames s)) ws ++ (p ∷ replicate (n - 1) 0)) ≡ top (frames s) + n
  front_length =
      length-append (take (top (frames s)) ws) (p ∷ replicate (n - 1) 0)
      ∙ ap (λ k. k + length (p ∷ replicate {A = ℕ} (n - 1) 0)) (length-take-le (top (frames s)) ws (omega arith))
      ∙ ap (λ k. top (frames s) + k) new_length

  apart : (laid_at ws (top (frames s)) p n) ≡ (take (top (frames s)) ws ++ (p ∷ replicate (n - 1) 0)) ++ drop (top (frames s) + n) ws
  apart = sym (append_assoc (take (top (frames s)) ws) (p ∷ replicate (n - 1) 0) (drop (top (frames s) + n) ws))

  written_length : length (laid_at ws (top (frames s)) p n) ≡ length ws
  written_length =
      ap length apart
      ∙ length-append (take (top (frames s)) ws ++ (p ∷ replicate (n - 1) 0)) (drop (top (frames s) + n) ws)
      ∙ (let a = front_length in let b = length-drop (top (frames s) + n) ws in omega arith)

  new_top : top (fresh p n ∷ frames s) ≡ top (frames s) + n
  new_top = top-cons (fresh p n) (frames s) ∙ ap (λ k. top (frames s) + k) (size_fresh p n some)

  front : take (top (frames s) + n) (laid_at ws (top (frames s)) p n) ≡ take (top (frames s)) ws ++ (p ∷ replicate (n - 1) 0)
  front = ap (λ q. take (top (frames s) + n) q) apart ∙ take_at (take (top (frames s)) ws ++ (p ∷ replicate (n - 1) 0)) (drop (top (frames s) + n) ws) (top (frames s) + n) front_length

  new_words : frame_words s.spacing s.level (length (frames s)) (fresh p n) ≡ p ∷ replicate (n - 1) 0
  new_words = ap (λ b. cond b (marker s.spacing (length (frames s))) p ∷ replicate (n - 1) 0) (unmarked s.spacing s.level (length (frames s)) (let low = h.placed.low in omega arith))

  new_laid : take (top (fresh p n ∷ frames s)) (laid_at ws (top (frames s)) p n) ≡ layout s.spacing s.level (fresh p n ∷ frames s)
  new_laid =
      ap (λ k. take k (laid_at ws (top (frames s)) p n)) new_top
      ∙ front
      ∙ ap (λ q. q ++ (p ∷ replicate (n - 1) 0)) h.lies.laid
      ∙ ap (λ q. layout s.spacing s.level (frames s) ++ q) (sym new_words)
      ∙ sym (layout-cons s.spacing s.level (fresh p n) (frames s))

  -- words behind the new frame keep their contents
  pub entered_keeps : drop (top (fresh p n ∷ frames s)) (laid_at ws (top (frames s)) p n) ≡ drop (top (fresh p n ∷ frames s)) ws
  entered_keeps =
      ap (λ k. drop k (laid_at ws (top (frames s)) p n)) new_top
      ∙ ap (λ q. drop (top (frames s) + n) q) apart
      ∙ drop_at (take (top (frames s)) ws ++ (p ∷ replicate (n - 1) 0)) (drop (top (frames s) + n) ws) (top (frames s) + n) front_length
      ∙ ap (λ k. drop k ws) (sym new_top)

  pub entered_stands : Describes (rows p) (size s.current) → length (frames s) < 256 → SameTables st ts →
      ts.edges ≡ st.edges ++ (top (frames s) + n) ∷ [] → Stands rows (laid_at ws (top (frames s)) p n) ts (entered s p n)
  entered_stands fits few same edges = record {
    placed = record {
      rows_are = h.placed.rows_are;
      room_is = written_length ∙ h.placed.room_is;
      few = h.placed.few;
      spaced = same.spacing_same ∙ h.placed.spaced;
      least = h.placed.least;
      most = h.placed.most;
      registers_are = same.registers_same ∙ h.placed.registers_are;
      phased = same.phase_same ∙ h.placed.phased;
      levelled = same.level_same ∙ h.placed.levelled;
      low = let low = h.placed.low in omega arith;
    };
    lies = record {
      laid = new_laid;
      fits = let t = new_top in let l = written_length in omega arith;
      deep = let n = ap length edges ∙ length_push st.edges (top (frames s) + n) in let d = h.lies.deep in omega arith;
      edged = λ xs fs e. ⊎_elim (λ (all : fs ≡ fresh p n ∷ frames s). edged_all fs all) (λ (part : (zs : List Frame) × (frames s ≡ zs ++ fs)). edged_part part.0 fs part.1) (split_cons (fresh p n) (frames s) xs fs e);
    };
    handled = record {
      handlers_are = ap records same.handlers_same ∙ h.handled.handlers_are;
      inside = λ i l. let under = h.handled.inside i l in omega arith;
      ordered = h.handled.ordered;
    };
    marked = record {
      many = ap (λ t. length (records t)) same.markers_same ∙ h.marked.many;
      put_by = λ xs fs f k e m l. ap (λ t. get_or (records t) k no_marker) same.markers_same ∙ marks xs fs f k e m l;
    };
    recorded = record {
      enough = subst (λ t. s.level ≤ length (records t)) (sym same.records_same) h.recorded.enough;
      numbered = subst (λ t. (k : ℕ) → k < length (records t) → (get_or (records t) k no_record).frame ≡ k) (sym same.records_same) h.recorded.numbered;
      known = λ xs fs g f e l. ap (λ t. get_or (records t) (length fs) no_record) same.records_same ∙ knows xs fs g f e l;
    };
    waiting = waiting-cons rows (fresh p n) s.current s.older fits h.waiting;
  }
    where
      edged_all : (fs : List Frame) → fs ≡ fresh p n ∷ frames s → get_or ts.edges (length fs) 0 ≡ top fs
      edged_all fs all =
          let long = ap length all in
          ap (λ q. get_or q (length fs) 0) edges
          ∙ get_or_push st.edges (top (frames s) + n) 0 (length fs) (let d = h.lies.deep in omega arith)
          ∙ sym new_top ∙ ap top (sym all)

      edged_part : (zs fs : List Frame) → frames s ≡ zs ++ fs → get_or ts.edges (length fs) 0 ≡ top fs
      edged_part zs fs e =
          let under : length zs + length fs ≡ depth st = sym (length-append zs fs) ∙ ap length (sym e) ∙ sym h.lies.deep in
          ap (λ q. get_or q (length fs) 0) edges
          ∙ get_or_append_left st.edges ((top (frames s) + n) ∷ []) 0 (length fs) (let some = st.some in omega arith)
          ∙ h.lies.edged zs fs e

      marks : (xs fs : List Frame) (f : Frame) (k : ℕ) → fresh p n ∷ frames s ≡ xs ++ (f ∷ fs) → length fs ≡ suc k * s.spacing → length fs ≤ s.level →
          get_or (records st.markers) k no_marker ≡ record { frame = length fs; address = f.back }
      marks xs fs f k e m l =
          ⊎_elim
          (λ (all : f ∷ fs ≡ fresh p n ∷ frames s). let long_one = ap length all in let low = h.placed.low in absurd (omega arith))
          (λ (part : (zs : List Frame) × (frames s ≡ zs ++ (f ∷ fs))). h.marked.put_by part.0 fs f k part.1 m l)
          (split_cons (fresh p n) (frames s) xs (f ∷ fs) e)

      knows : (xs fs : List Frame) (g f : Frame) → fresh p n ∷ frames s ≡ xs ++ (g ∷ (f ∷ fs)) → length fs < s.level →
          get_or (records st.records) (length fs) no_record ≡ record_of rows g.back f fs
      knows xs fs g f e l =
          ⊎_elim
          (λ (all : g ∷ (f ∷ fs) ≡ fresh p n ∷ frames s). let long_one = ap length all in let low = h.placed.low in absurd (omega arith))
          (λ (part : (zs : List Frame) × (frames s ≡ zs ++ (g ∷ (f ∷ fs)))). h.recorded.known part.0 fs g f part.1 l)
          (split_cons (fresh p n) (frames s) xs (g ∷ (f ∷ fs)) e)

-- an enter that is accepted
pub enter_accepted : (v : View) (rows : Rows) (count : ℕ) (ws : List ℕ) (ts : State) (s : Model) (p n m : ℕ) (row : Row) → StandsFor v s → v.state.phase ≡ Running →
    1 ≤ n → n ≤ 32 → depth v.state < 256 → top (frames s) + n ≤ length v.words → m ≡ size s.current → (v.rows p ≡ Some row) × (row.size ≡ m) → rows ≡ v.rows → count ≡ (v.count + 1) % 2 ^ 32 →
    ws ≡ laid_at v.words (top (frames s)) p n → SameTables v.state ts → ts.edges ≡ v.state.edges ++ (top (frames s) + n) ∷ [] →
    Accepted v (view rows count ws ts) (enter_reasons s p n) 1 (entered s p n)
enter_accepted v rows count ws ts s p n m row h on some most shallow fits sized found same counted words tables edges = record {
  clear = (
    runs v.rows v.words v.state s h on,
    (
      λ unfair. unfair (some, most),
      (
        λ full. ⊎_elim (λ (l : 256 ≤ length (frames s)). let d = h.lies.deep in omega arith) (λ (l : s.room < top (frames s) + n). let r = h.placed.room_is in omega arith) full,
        fit_clear v.rows v.words v.state s p m h sized row found.0 found.1,
      ),
    ),
  );
  stands =
      subst (λ q. Stands q ws ts (entered s p n)) (sym same)
      (subst (λ q. Stands v.rows q ts (entered s p n)) (sym words)
      (entered_stands v.rows v.words v.state ts s p n h some fits (fit_describes v.rows v.words v.state s p m h sized row found.0 found.1) (let d = h.lies.deep in omega arith) tables edges));
  counted = counted ∙ sym (after_one v.count);
  keeps = subst (λ q. drop (top (frames (entered s p n))) q ≡ drop (top (frames (entered s p n))) v.words) (sym words) (entered_keeps v.rows v.words v.state ts s p n h some fits);
}
