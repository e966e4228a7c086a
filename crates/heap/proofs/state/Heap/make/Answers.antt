use Rattle.std.proofs.Common.{refl, rules}
use Rattle.heap_model.proofs.Makes.{made_sound, made_is}
use Rattle.heap.proofs.Writes.{written_back}
use Rattle.heap.proofs.state.Heap.make.Goals as goal

pub invariant_of-self-clause-sound : goal.invariant_of-self-clause-sound
invariant_of-self-clause-sound c =
    let h = c.args.self.now.halves in
    made_sound _ _ _ _ h.used c.args.refs c.args.plain (search rules) (search rules)
    (written_back h.words _ _ _ _ _ _ _ c.deref_mut.ensures.value c.write_object.ensures) (written_back h.starts _ _ _ _ _ _ _ c.deref_mut-2.ensures.value c.write_object-2.ensures) c.args.self.now.sound

pub returns : goal.returns
returns c =
    let h = c.args.self.now.halves in (
      (search rules, search rules),
      search rules,
      refl,
      made_is _ _ _ _ h.used c.args.refs c.args.plain (search rules) (search rules)
          (written_back h.words _ _ _ _ _ _ _ c.deref_mut.ensures.value c.write_object.ensures) (written_back h.starts _ _ _ _ _ _ _ c.deref_mut-2.ensures.value c.write_object-2.ensures),
    )
