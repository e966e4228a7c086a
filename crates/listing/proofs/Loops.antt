-- What holds while waiting frames are decoded.
use Rattle.std.proofs.Common.{◌≡◌, ℕ, suc, ◌+◌, ◌-◌, ◌%◌, ◌^◌, ◌<◌, ◌≤◌, List, [], ◌∷◌, ◌++◌, length, take, Some, None, Option, sym, refl, ap, ◌∙◌, subst, append_assoc, arith}
use Rattle.std.proofs.lemmas.Option.{none-some}
use Rattle.frame_map.specs.Maps.{Rows}
use Rattle.frame_map.proofs.Rising.{some_same}
use Rattle.scan.specs.Frames.{Frame}
use Rattle.scan.specs.Masks.{held}
use Rattle.frames.specs.Learning.{SameButRecords}
use Rattle.frames.specs.Models.{Model, frames, newest}
use Rattle.frames.specs.Standing.{Stands, Kept, record_of, scans}
use Rattle.frames.specs.Tables.{records, depth}
use Rattle.frames.specs.Views.{after, view}
use Rattle.frames.specs.declared.records.Record.{Record}
use Rattle.frames.specs.declared.state.State.{State}
use Rattle.frames.proofs.ScanLaws.{length-scans, scans-cons, known_scans, kept_same}
use Rattle.frames.proofs.StackLaws.{frame_number}
use Rattle.frames.proofs.ViewLaws.{after_more}
use Rattle.listing.specs.Decoding.{DecodedFrame}

-- the records rs are those of the frames below frame i, and h is the mask at its entry
abbrev pub Learned : Rows → List Record → Model → ℕ → ℕ → Type 0
Learned rows rs s i h =
    (xs gs : List Frame) (g : Frame) → frames s ≡ xs ++ (g ∷ gs) → length gs ≡ i → (h ≡ held rows g.back gs) × (rs ≡ scans rows g.back gs)

-- before the first frame is decoded
pub learned_first : (rows : Rows) (ws : List ℕ) (st : State) (rs : List Record) (s : Model) (from h : ℕ) → Stands rows ws st s → from ≤ s.level → rs ≡ take from (records st.records) →
    ((xs gs : List Frame) (g : Frame) → frames s ≡ xs ++ (g ∷ gs) → length gs ≡ from → Some h ≡ Some (held rows g.back gs)) → Learned rows rs s from h
learned_first rows ws st rs s from h stands low are mask = λ xs gs g parts n. (
  some_same h (held rows g.back gs) (mask xs gs g parts n),
  are ∙ ap (λ k. take k (records st.records)) (sym n) ∙ known_scans rows ws st s xs gs g stands parts (omega arith),
)

pub same_trans : (st ts us : State) → SameButRecords st ts → SameButRecords ts us → SameButRecords st us
same_trans st ts us a b = record {
  phase_same = b.phase_same ∙ a.phase_same;
  spacing_same = b.spacing_same ∙ a.spacing_same;
  edges_same = b.edges_same ∙ a.edges_same;
  registers_same = b.registers_same ∙ a.registers_same;
  handlers_same = b.handlers_same ∙ a.handlers_same;
  level_same = b.level_same ∙ a.level_same;
  markers_same = b.markers_same ∙ a.markers_same;
}

-- a turn of the loop, at frame i
module _ (rows rows' is : Rows) (c₀ c₁ c₂ : ℕ) (ws : List ℕ) (st ts us : State) (s : Model) (from i h : ℕ) (r : Option ℕ) (same : rows' ≡ rows) (tables : SameButRecords st ts) (kept : Kept rows ws st s)
    (learned : Learned rows (records ts.records) s i h × (c₁ ≡ after c₀ (i - from))) (under : i < depth st - 1) (turn : DecodedFrame (view rows' c₁ ws ts) (view is c₂ ws us) i h r) where
  inside : i < newest s
  inside = let deep = kept.lies.deep in omega arith

  decoded : (xs gs : List Frame) (g : Frame) → frames s ≡ xs ++ (g ∷ gs) → length gs ≡ i + 1 → (r ≡ Some (held rows g.back gs)) × (records us.records ≡ scans rows g.back gs) × (c₂ ≡ (c₁ + 1) % 2 ^ 32)
  decoded xs [] g parts n = absurd (omega arith)
  decoded xs (f ∷ fs) g parts n =
      let d : DecodedFrame (view rows c₁ ws ts) (view is c₂ ws us) i h r = subst (λ q. DecodedFrame (view q c₁ ws ts) (view is c₂ ws us) i h r) same turn in
      let m : length fs ≡ i = omega arith in
      let below = learned.0 (xs ++ g ∷ []) fs f (parts ∙ sym (append_assoc xs (g ∷ []) (f ∷ fs))) m in
      let many : length (records ts.records) ≡ length fs = ap length below.1 ∙ length-scans rows f.back fs in
      let deep = kept.lies.deep in
      let few = st.deep in
      let all = d.decodes s xs fs g f (kept_same rows ws st ts s kept tables) parts m below.0 (let l = inside in omega arith) in
      (all.0, all.1 ∙ ap (λ q. q ++ record_of rows g.back f fs ∷ []) below.1 ∙ sym (scans-cons rows g.back f fs), all.2)

  -- the frame above it is there, so it is decoded
  there : (r ≡ None → ⊥) × (c₂ ≡ (c₁ + 1) % 2 ^ 32)
  there =
      let above = frame_number (frames s) (i + 1) (let l = inside in omega arith) in
      let all = decoded above.0 above.1 above.2 above.3 above.4 in
      (λ none. none-some _ (sym none ∙ all.0), all.2)

  pub loop_stops : r ≡ None → ⊥
  loop_stops = there.0

  pub loop_step : (k : ℕ) → r ≡ Some k → from ≤ i → Learned rows (records us.records) s (i + 1) k × (c₂ ≡ after c₀ (i + 1 - from))
  loop_step k is_some low = (
    λ xs gs g parts n. let all = decoded xs gs g parts n in (some_same k _ (sym is_some ∙ all.0), all.1),
    there.1 ∙ ap (λ n. (n + 1) % 2 ^ 32) learned.1 ∙ sym (after_more c₀ (i - from)) ∙ ap (λ n. after c₀ n) (let e : suc (i - from) ≡ i + 1 - from = omega arith in e),
  )

-- the end of the loop
pub loop_ends : (rows : Rows) (c₀ c₁ : ℕ) (ws : List ℕ) (st : State) (us : List Record) (s : Model) (from i h : ℕ) → Stands rows ws st s → from ≤ s.level → i ≡ depth st - 1 → Learned rows us s i h × (c₁ ≡ after c₀ (i - from)) →
    (Some h ≡ Some (held rows s.current.back s.older)) × (us ≡ scans rows s.current.back s.older) × (c₁ ≡ after c₀ (newest s - from))
loop_ends rows c₀ c₁ ws st us s from i h stands low end learned =
    let deep = stands.lies.deep in
    let n : newest s ≡ i = omega arith in
    let all = learned.0 [] s.older s.current refl n in
    (ap Some all.0, all.1, learned.1 ∙ ap (λ k. after c₀ (k - from)) (sym n))
