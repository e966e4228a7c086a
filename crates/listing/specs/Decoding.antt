-- What decoding promises.
use Rattle.std.specs.Prelude.{◌≡◌, ℕ, ◌+◌, ◌-◌, ◌%◌, ◌^◌, ◌<◌, ◌≤◌, List, [], ◌∷◌, ◌++◌, length, Some, Option}
use Rattle.frame_map.specs.Maps.{Rows}
use Rattle.frame_map.specs.Rows.{Lawful}
use Rattle.frame_map.specs.declared.row.Row.{Row}
use Rattle.scan.specs.Frames.{Frame}
use Rattle.scan.specs.Masks.{held}
use Rattle.frames.specs.Learning.{SameButRecords}
use Rattle.frames.specs.Models.{Model, frames, newest}
use Rattle.frames.specs.Standing.{Stands, Kept, record_of, scans}
use Rattle.frames.specs.Tables.{records}
use Rattle.frames.specs.Views.{View, after}
use Rattle.frames.specs.declared.state.State.{State}

-- the record of frame i, which stands where its row is this one, is added: the mask h before it is the scan's, and the mask behind it is answered
pub record ScannedFrame (st ts : State) (i : ℕ) (row : Row) (h r : ℕ) : Type 0 where
  pub tables : SameButRecords st ts
  pub scanned : (rows : Rows) (p : ℕ) (f : Frame) (fs : List Frame) → rows p ≡ Some row → Lawful row → length fs ≡ i → h ≡ held rows f.back fs → length (records st.records) < 256 →
      (r ≡ held rows p (f ∷ fs)) × (records ts.records ≡ records st.records ++ record_of rows p f fs ∷ [])

-- the record of a waiting frame f is added, by one lookup: the mask before it is the scan's, and the mask behind it is answered
pub record DecodedFrame (v w : View) (i h : ℕ) (r : Option ℕ) : Type 0 where
  pub same : w.rows ≡ v.rows
  pub tables : SameButRecords v.state w.state
  pub decodes : (s : Model) (xs fs : List Frame) (g f : Frame) → Kept v.rows v.words v.state s → frames s ≡ xs ++ (g ∷ (f ∷ fs)) → length fs ≡ i → h ≡ held v.rows f.back fs → length (records v.state.records) < 256 →
      (r ≡ Some (held v.rows g.back (f ∷ fs))) × (records w.state.records ≡ records v.state.records ++ record_of v.rows g.back f fs ∷ []) × (w.count ≡ (v.count + 1) % 2 ^ 32)

-- the mask at the entry of frame `from`, by what was learned of the frames below
abbrev pub HeldAt : State → ℕ → Option ℕ → Type 0
HeldAt st from r =
    (rows : Rows) (ws : List ℕ) (s : Model) (xs gs : List Frame) (g : Frame) → Stands rows ws st s → frames s ≡ xs ++ (g ∷ gs) → length gs ≡ from → from ≤ s.level → r ≡ Some (held rows g.back gs)

-- the waiting frames from `from` on are decoded
pub record DecodedWaiting (v w : View) (from : ℕ) (r : Option ℕ) : Type 0 where
  pub same : w.rows ≡ v.rows
  pub tables : SameButRecords v.state w.state
  pub decodes : (s : Model) → Stands v.rows v.words v.state s → from ≤ s.level →
      (r ≡ Some (held v.rows s.current.back s.older)) × (records w.state.records ≡ scans v.rows s.current.back s.older) × (w.count ≡ after v.count (newest s - from))

-- all frames from `from` on are decoded, the running one by its row at p: then the records are those of the full scan, the mask behind the running frame is answered,
-- and each waiting frame from `from` on was looked up once
pub record Decoded (v w : View) (from : ℕ) (row : Row) (r : Option ℕ) : Type 0 where
  pub same : w.rows ≡ v.rows
  pub tables : SameButRecords v.state w.state
  pub decodes : (s : Model) (p : ℕ) → Stands v.rows v.words v.state s → from ≤ s.level → v.rows p ≡ Some row →
      (r ≡ Some (held v.rows p (frames s))) × (records w.state.records ≡ scans v.rows p (frames s)) × (w.count ≡ after v.count (newest s - from))
