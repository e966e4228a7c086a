use Rattle.std.proofs.Common.{sym}
use Rattle.scan.proofs.MaskLaws.{low_slot, tested}
use Rattle.scan.proofs.StackLaws.{saved_more, saved_none}
use Rattle.scan.proofs.saved_roots.Goals as goal

pub loop-k-init : goal.loop-k-init
loop-k-init c l = sym (saved_none c.args.row.now c.args.held)

pub loop-k-preserved : goal.loop-k-preserved
loop-k-preserved c l =
    let bit = tested c.from.result c.loop-k.k c.has_bit.result c.has_bit.ensures in
    let slot = c.saved_bit-roots.ensures (low_slot c.args.row.now c.loop-k.k l) in
    let more = saved_more c.args.row.now c.args.held c.loop-k.k in
    let now = c.loop-k.invariant l in
    rw (now, slot, bit, c.from.ensures) more
