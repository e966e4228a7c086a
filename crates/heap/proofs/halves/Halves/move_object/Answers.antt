-- The object's words, its mark and its new place are written.
use Rattle.std.proofs.Common.{◌≡◌, ℕ, ◌+◌, ◌-◌, length, get_or, set, vec_items, ap, ◌∙◌, arith, rules}
use borrow.Rule.Slice.PartMut.{put_mid}
use Rattle.std.specs.List.{between}
use Rattle.std.proofs.lemmas.List.{with_items_is, places, get_or_read}
use Rattle.heap_model.specs.Objects.{size_in}
use Rattle.heap_model.specs.Steps.{Waits}
use Rattle.heap_model.proofs.Steps.{waits_fit, moved_over}
use Rattle.heap.specs.declared.halves.Halves.{Halves}
use Rattle.heap.specs.Buffers.{moving}
use Rattle.heap.proofs.Writes.{written_back}
use Rattle.heap.proofs.halves.Halves.move_object.Goals as goal

-- the header that is read tells the size
size_is : (h : Halves) (p n x : ℕ) → Waits (moving h) p → n ≡ size_in x → x ≡ get_or (vec_items h.words) (p - 1) x → n ≡ size_in (get_or (vec_items h.words) (p - 1) 0)
size_is h p n x (s, scan, ps, m, a, new) e r = e ∙ ap size_in (get_or_read (vec_items h.words) (p - 1) x (omega (arith, m.long, m.from_long, a.1.0)) r 0)

pub slice_bounds-copy_from_slice-end : goal.slice_bounds-copy_from_slice-end
slice_bounds-copy_from_slice-end c =
    let size = size_is c.args.self.now c.args.place c.size_of-size.result c.index.result.now c.requires c.size_of-size.ensures c.index.ensures in
    omega (arith, (waits_fit (moving c.args.self.now) c.args.place c.size_of-size.result c.requires size).0, ap length c.deref_mut.ensures.value)

pub slice_bounds-copy_from_slice-end-2 : goal.slice_bounds-copy_from_slice-end-2
slice_bounds-copy_from_slice-end-2 c =
    let size = size_is c.args.self.now c.args.place c.size_of-size.result c.index.result.now c.requires c.size_of-size.ensures c.index.ensures in
    omega (arith, (waits_fit (moving c.args.self.now) c.args.place c.size_of-size.result c.requires size).1, ap length c.deref.ensures.value)

pub returns : goal.returns
returns c s scan ps m a new =
    let h = c.args.self.now in
    let p : ℕ = c.args.place in
    let n : ℕ = c.size_of-size.result in
    let cut : c.copy_from_slice.new.self ≡ between (p - 1) (p - 1 + n) (vec_items h.words) = c.copy_from_slice.ensures.after ∙ ap (λ xs. between (p - 1) (p - 1 + n) xs) c.deref.ensures.value in
    let laid : _ ≡ put_mid h.used (h.used + n - h.used) (vec_items h.idle) c.copy_from_slice.new.self =
    with_items_is h.idle _ (search (rules, places)) ∙ ap (λ xs. put_mid h.used (h.used + n - h.used) xs c.copy_from_slice.new.self) c.deref_mut.ensures.value in
    moved_over s (moving h) scan ps p n m a new (size_is h p n c.index.result.now c.requires c.size_of-size.ensures c.index.ensures) c.copy_from_slice.new.self cut
    _ (written_back h.starts _ _ _ _ _ _ _ c.deref_mut-2.ensures.value c.write_object.ensures) _ _ (ap (λ x. set (vec_items h.words) (p - 1) x) (omega arith)) laid
