use Rattle.std.proofs.Common.{◌<◌, get_or, None, arith, rules}
use Rattle.delta_layout.specs.Parsing.{saved_in, slots_in}
use Rattle.delta_code.specs.Reading.{Took}
use Rattle.delta_code.proofs.ReaderLaws.{slot_read, slot_missing, bit_told, changed_small}
use Rattle.delta_code.proofs.reader.Reader.saved.Goals as goal

pub returns-in_err-read : goal.returns-in_err-read
unfolding saved_in
returns-in_err-read c =
    let stops : Took (slots_in c.in_ok-moved.moved c.args.was 8) None c.byte.new.self c.changed.new.self =
    slot_missing c.in_ok-moved.moved c.loop-k.k c.from-in-loop-k.result c.has_bit.result c.args.was c.loop-k.slot-items c.byte.new.self c.loop-k.self c.changed.new.self (omega arith) (bit_told c.has_bit.result c.in_ok-moved.moved c.from.result c.loop-k.k c.from.ensures c.has_bit.ensures) c.from-in-loop-k.ensures c.loop-k.invariant c.in_err-read.ensures in
    search rules

pub overflow_cast-slot : goal.overflow_cast-slot
overflow_cast-slot c =
    let low : get_or c.loop-k.slot-items c.loop-k.k 0 < 256 = search rules in
    omega (arith, changed_small 1 c.has_bit.result c.from-in-loop-k.result c.in_ok-read.read c.loop-k.self c.changed.new.self (omega arith) c.in_ok-read.ensures)

pub loop-k-preserved : goal.loop-k-preserved
loop-k-preserved c =
    slot_read c.in_ok-moved.moved c.loop-k.k c.from-in-loop-k.result c.has_bit.result c.args.was c.loop-k.slot-items c.in_ok-read.read c.byte.new.self c.loop-k.self c.changed.new.self (bit_told c.has_bit.result c.in_ok-moved.moved c.from.result c.loop-k.k c.from.ensures c.has_bit.ensures) c.from-in-loop-k.ensures c.loop-k.invariant c.in_ok-read.ensures
