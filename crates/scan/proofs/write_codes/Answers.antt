use Rattle.std.proofs.Common.{sym, arith}
use Rattle.scan.proofs.MaskLaws.{tested}
use Rattle.scan.proofs.RootLaws.{length-codes}
use Rattle.scan.proofs.StackLaws.{codes_more, codes_none}
use Rattle.scan.proofs.WritingLaws.{wrote_as, wrote_length, wrote_none, wrote_then}
use Rattle.scan.proofs.write_codes.Goals as goal

pub loop-i-init : goal.loop-i-init
loop-i-init c = wrote_as (sym (codes_none c.args.base c.args.mask)) (wrote_none c.args.at c.args.out.now (omega arith))

pub write_code-place-requires : goal.write_code-place-requires
write_code-place-requires c = omega (arith, c.loop-i.invariant.end, wrote_length c.loop-i.invariant, length-codes c.args.base c.args.mask c.loop-i.i)

pub loop-i-preserved : goal.loop-i-preserved
loop-i-preserved c =
    let bit = tested c.args.mask c.loop-i.i c.has_bit.result c.has_bit.ensures in
    let wrote = wrote_then c.loop-i.invariant c.write_code-place.ensures in
    wrote_as (rw bit (codes_more c.args.base c.args.mask c.loop-i.i)) wrote
