use Rattle.std.proofs.Common.{length, arith}
use Rattle.heap_model.specs.Steps.{Rooted}
use Rattle.heap_model.proofs.Scans.{scanning_none}
use Rattle.heap_model.proofs.Collections.{gathered}
use Rattle.heap.specs.Buffers.{moving}
use Rattle.heap.proofs.halves.Halves.copy_live.Goals as goal

pub scan_all-requires : goal.scan_all-requires
scan_all-requires c =
    let p = c.requires in
    let r : Rooted p.0 c.args.roots.now c.forward_roots.new.roots (moving c.forward_roots.new.self) (length c.args.roots.now) = c.forward_roots.ensures p.0 p.1 in
    (p.0, c.args.roots.now, r.0, scanning_none p.0 c.args.roots.now c.forward_roots.new.roots (moving c.forward_roots.new.self) r.0 (length c.args.roots.now) r.1 (omega arith))

pub returns : goal.returns
returns c s h =
    let buf = moving c.forward_roots.new.self in
    let r : Rooted s c.args.roots.now c.forward_roots.new.roots buf (length c.args.roots.now) = c.forward_roots.ensures s h in
    rw (c.swap.ensures.x_after, c.swap.ensures.y_after)
    (gathered s c.args.roots.now c.forward_roots.new.roots buf (moving c.scan_all.new.self) r
    (c.scan_all.ensures s c.args.roots.now r.0 (scanning_none s c.args.roots.now c.forward_roots.new.roots buf r.0 (length c.args.roots.now) r.1 (omega arith))))
