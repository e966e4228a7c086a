use Rattle.std.proofs.Common.{◌≡◌, ◌-◌, ◌<◌, vec_items, vec_len, ap, arith, rules}
use Rattle.std.proofs.lemmas.List.{get_or_read_under}
use Rattle.heap_model.specs.Objects.{Pointer, refs, header, refs_in}
use Rattle.heap_model.proofs.Changes.{sound_stored}
use Rattle.heap.specs.Content.{content}
use Rattle.heap.proofs.state.Heap.store.Goals as goal

pub invariant_of-self-clause-sound : goal.invariant_of-self-clause-sound
invariant_of-self-clause-sound c =
    let h = c.args.self.now in
    let ws = h.halves.words in
    let f = c.in_ok-at.ensures in
    let head : c.index.result.now ≡ header (content h) c.args.place = get_or_read_under (vec_items ws) (c.args.place - 1) (vec_len ws) c.index.result.now 0 c.index.ensures (omega (arith, f.0.0.0, f.0.0.1.0)) ws.ok.0 in
    let good : c.args.field < refs (content h) c.args.place → Pointer (content h) c.args.word =
    λ l. elim c.else-field-refs.branch [
      | goal.else-field-refs-via-then-field-refs+else-not-is_pointer w ↦ search rules
      | goal.else-field-refs-via-else-field-refs w ↦ absurd (omega (arith, c.refs_of-refs.ensures, ap refs_in head, w.if-field-refs.false))
    ] in
    sound_stored (content h) h.sound (c.args.place - 1) c.args.field c.args.word f.0.0.1 f.0.1 c.in_ok-at.at (omega (arith, f.1, f.0.0.0)) (omega (arith, f.1, ws.ok.0, h.sound.tiled.inside (c.args.place - 1) f.0.0.1, f.0.0.0, f.0.1)) good
