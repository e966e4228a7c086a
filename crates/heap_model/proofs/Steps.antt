-- The steps of a copy on plain buffers.
use Rattle.std.proofs.Common.{◌≡◌, ℕ, ◌+◌, ◌-◌, ◌<◌, ◌≤◌, Bool, List, [], ◌∷◌, ◌++◌, length, get_or, set, sym, refl, ap, ◌∙◌, subst, inl, inr, arith}
use borrow.Rule.Slice.PartMut.{put_mid}
use Rattle.std.specs.List.{between}
use Rattle.std.proofs.lemmas.List.Edits.{length-between}
use Rattle.heap_model.specs.Objects.{Space, space, Place, Pointer, header, size, size_in}
use Rattle.heap_model.specs.Live.{Member}
use Rattle.heap_model.specs.Moving.{Buffers, buffers, Moving, Renamed, noted}
use Rattle.heap_model.specs.Steps.{Marked, Waits, Forwarded}
use Rattle.heap_model.proofs.Buffers.{put_below, put_inner, put_length, cut_at}
use Rattle.heap_model.proofs.Copying.{room_for, header_there, Landed, moving_more, told_there, waits_there}
use Rattle.heap_model.proofs.Firsts.{noted_zero, noted_had, noted_new}
use Rattle.heap_model.proofs.Spans.{renamed_last}
use Rattle.heap_model.specs.Packing.{packed}

-- an object that waits fits where it goes
pub waits_fit : (buf : Buffers) (p n : ℕ) → Waits buf p → n ≡ size_in (get_or buf.from (p - 1) 0)
    → (buf.copy.used + n ≤ length buf.copy.words) × (p - 1 + n ≤ length buf.from) × (buf.copy.used + n ≤ length buf.copy.starts) × (buf.copy.used + n ≤ 16384)
waits_fit buf p n (s, scan, ps, m, a, new) e =
    let h : get_or buf.from (p - 1) 0 ≡ header s p = header_there s buf scan ps m p a new in
    let z : n ≡ size s p = e ∙ ap size_in h in
    let r : buf.copy.used + size s p ≤ s.used = room_for s buf scan ps m p a new in
    let i : p - 1 + size s p ≤ s.used = m.sound.tiled.inside (p - 1) a.1 in
    (omega (arith, r, z, m.words_long, m.long), omega (arith, i, z, m.from_long, m.long), omega (arith, r, z, m.starts_long, m.long), omega (arith, r, z, m.short))

-- the object's words are copied, its header is marked, and the old header tells the new place
pub moved_over : (s : Space) (buf : Buffers) (scan : ℕ) (ps : List ℕ) (p n : ℕ) → Moving s buf scan ps → Place s p → (Member p ps → ⊥)
    → n ≡ size_in (get_or buf.from (p - 1) 0) → (cut : List ℕ) → cut ≡ between (p - 1) (p - 1 + n) buf.from → (starts' : List Bool) → Marked buf.copy.starts starts' buf.copy.used n
    → (from' to' : List ℕ) → from' ≡ set buf.from (p - 1) (2147483648 + (1 + buf.copy.used)) → to' ≡ put_mid buf.copy.used (buf.copy.used + n - buf.copy.used) buf.copy.words cut
    → Moving s (buffers from' (space to' starts' (buf.copy.used + n))) scan (ps ++ p ∷ [])
moved_over s buf scan ps p n m a new e cut ce starts' k from' to' fe te =
    let free : ℕ = buf.copy.used in
    let to : List ℕ = buf.copy.words in
    let h : get_or buf.from (p - 1) 0 ≡ header s p = header_there s buf scan ps m p a new in
    let z : n ≡ size s p = e ∙ ap size_in h in
    let fit : (free + n ≤ length to) × (p - 1 + n ≤ length buf.from) × (free + n ≤ length buf.copy.starts) × (free + n ≤ 16384) = waits_fit buf p n (s, scan, ps, m, a, new) e in
    let len : length cut ≡ free + n - free = ap length ce ∙ length-between buf.from (p - 1) (p - 1 + n) fit.1 ∙ (omega arith) in
    let te' : (x : ℕ) → get_or to' x 0 ≡ get_or (put_mid free (free + n - free) to cut) x 0 = λ x. ap (λ y. get_or y x 0) te in
    let l : Landed s buf (space to' starts' (free + n)) p =
    record {
      grown = ap (λ x. free + x) z;
      to_length = ap length te ∙ put_length free (free + n) to cut 0 (omega arith) fit.0 len;
      starts_length = k.long;
      same = λ i g. te' i ∙ put_below free (free + n) to cut 0 i g (omega (arith, fit.0));
      copied = λ j g.
          te' (free + j) ∙ put_inner free (free + n) to cut 0 j (omega (arith, len, z)) (omega (arith, fit.0))
          ∙ ap (λ x. get_or x j 0) ce ∙ cut_at (p - 1) (p - 1 + n) buf.from 0 j (omega (arith, z));
      begun = k.here;
      inner = λ i g h. k.inner i g (omega (arith, z));
      old = k.below;
    } in
    moving_more s buf scan ps m p a new (space to' starts' (free + n)) l from' fe

module _ (s : Space) (buf : Buffers) (scan : ℕ) (ps : List ℕ) (w : ℕ) (m : Moving s buf scan ps) (good : Pointer s w) where
  -- 0 stays
  pub forwarded_none : w ≡ 0 → Forwarded s buf scan ps w 0
  forwarded_none e =
      record {
        moving = subst (λ q. Moving s buf scan q) (sym (noted_zero ps w e)) m;
        renamed = subst (λ q. Renamed s q w 0) (sym (noted_zero ps w e)) (inl (e, refl));
      }

  -- a moved object's header tells
  pub forwarded_told : 0 < w → 2147483648 ≤ get_or buf.from (w - 1) 0 → (v : ℕ) → v ≡ get_or buf.from (w - 1) 0 - 2147483648 → Forwarded s buf scan ps w v
  forwarded_told pos big v e =
      let t : (k : ℕ) × (k < length ps) × (get_or ps k 0 ≡ w) × (get_or buf.from (w - 1) 0 ≡ 2147483648 + packed s ps k) = told_there s buf scan ps m w (good pos) big in
      let q : noted ps w ≡ ps = noted_had ps w (t.0, t.1, t.2) in
      record {
        moving = subst (λ q. Moving s buf scan q) (sym q) m;
        renamed = subst (λ q. Renamed s q w v) (sym q) (inr (t.0, t.1, t.2, omega (arith, e, t.3)));
      }

  -- one that waits is moved
  pub forwarded_new : 0 < w → get_or buf.from (w - 1) 0 < 2147483648 → (buf' : Buffers) (v : ℕ) → Moving s buf' scan (ps ++ w ∷ []) → v ≡ buf.copy.used + 1
      → Forwarded s buf' scan ps w v
  forwarded_new pos small buf' v n e =
      let q : noted ps w ≡ ps ++ w ∷ [] = noted_new ps w pos (waits_there s buf scan ps m w small) in
      record {
        moving = subst (λ q. Moving s buf' scan q) (sym q) n;
        renamed = subst (λ q. Renamed s q w v) (sym q) (renamed_last s ps w v (omega (arith, e, m.grown)));
      }
