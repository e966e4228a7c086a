use Rattle.std.proofs.Common.{vec_items}
use Rattle.heap_model.proofs.Changes.{sound_none}
use Rattle.heap.proofs.state.Heap.new.Goals as goal

pub invariant_of-result-clause-sound : goal.invariant_of-result-clause-sound
invariant_of-result-clause-sound c = sound_none (vec_items c.args.first) (vec_items c.args.starts)
