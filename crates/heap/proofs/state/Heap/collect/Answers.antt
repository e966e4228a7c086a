use Rattle.std.proofs.Common.{◌≡◌, List, ℕ, [], refl, vec_len, arith, rules}
use Rattle.heap_model.specs.Moving.{Rooting}
use Rattle.heap_model.specs.Steps.{Gathered}
use Rattle.heap_model.proofs.Scans.{rooting_none}
use Rattle.heap.specs.declared.halves.Halves.{Halves}
use Rattle.heap.specs.declared.state.Heap.{Heap}
use Rattle.heap.specs.Buffers.{begun, moved}
use Rattle.heap.specs.Content.{content, room}
use Rattle.heap.specs.Calls.{Pointers}
use Rattle.heap.proofs.state.Heap.collect.Goals as goal

-- nothing is moved yet
ready : (h : Heap) (roots : List ℕ) → Pointers (content h) roots → Rooting (content h) roots roots (begun h.halves) [] 0
ready h roots good =
    let b = h.halves in
    rooting_none (content h) (begun b).copy roots h.sound (omega arith) (omega (arith, b.words.ok.0)) (omega (arith, b.words.ok.0, b.idle.ok.0)) (omega (arith, b.words.ok.0, b.starts.ok.0)) refl good

-- the buffers keep their size
sized : (h : Heap) (b : Halves) (roots roots' : List ℕ) → Gathered (content h) roots roots' (moved b) → (vec_len b.words ≡ room h) × (vec_len b.idle ≡ room h) × (vec_len b.starts ≡ room h)
sized h b roots roots' g =
    (omega (arith, g.words_long, b.words.ok.0, h.halves.words.ok.0), omega (arith, g.from_long, b.idle.ok.0, h.halves.words.ok.0), omega (arith, g.starts_long, b.starts.ok.0, h.halves.words.ok.0))

pub copy_live-requires : goal.copy_live-requires
copy_live-requires c = (content c.args.self.now, ready c.args.self.now c.args.roots.now c.in_default.ensures)

pub invariant_of-self : goal.invariant_of-self
invariant_of-self c =
    let g = c.copy_live.ensures (content c.args.self.now) (ready c.args.self.now c.args.roots.now c.in_default.ensures) in
    let z = sized c.args.self.now c.copy_live.new.self c.args.roots.now c.copy_live.new.roots g in
    record { low = search rules; high = search rules; paired = search rules; flags = search rules; fits = omega (arith, g.fits); sound = g.sound }

pub returns : goal.returns
returns c =
    let g = c.copy_live.ensures (content c.args.self.now) (ready c.args.self.now c.args.roots.now c.in_default.ensures) in
    (c.in_default.ensures, (sized c.args.self.now c.copy_live.new.self c.args.roots.now c.copy_live.new.roots g).0, (g.list, g.collected))
