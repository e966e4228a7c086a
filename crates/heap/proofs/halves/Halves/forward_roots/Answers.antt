use Rattle.std.proofs.Common.{◌≡◌, get_or, sym, subst, arith}
use Rattle.heap_model.specs.Objects.{Pointer}
use Rattle.heap_model.specs.Moving.{noted}
use Rattle.heap_model.specs.Steps.{Rooted, Forwarded}
use Rattle.heap_model.proofs.Scans.{rooting_more}
use Rattle.heap.specs.Buffers.{moving}
use Rattle.heap.proofs.halves.Halves.forward_roots.Goals as goal

pub loop-i-preserved : goal.loop-i-preserved
loop-i-preserved c s h =
    let buf = moving c.loop-i.self in
    let n = c.loop-i.i in
    let r : Rooted s c.args.roots.now c.loop-i.roots buf n = c.loop-i.invariant s h in
    let e : get_or c.loop-i.roots n 0 ≡ get_or c.args.roots.now n 0 = r.1.rest n (omega arith) in
    let good : Pointer s (get_or c.loop-i.roots n 0) = subst (λ x. Pointer s x) (sym e) (r.1.good n c.loop-i-test.true) in
    let f : Forwarded s (moving c.forward.new.self) 0 r.0 (get_or c.loop-i.roots n 0) c.forward.result = c.forward.ensures s 0 r.0 r.1.moving good in
    (noted r.0 (get_or c.args.roots.now n 0), rooting_more s c.args.roots.now c.loop-i.roots buf r.0 n r.1 c.loop-i-test.true (moving c.forward.new.self) c.forward.result f.moving f.renamed)
