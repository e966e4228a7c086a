use Rattle.std.proofs.Common.{◌<◌, arith, rules}
use Rattle.delta_code.proofs.ReaderLaws.{changed_small}
use Rattle.delta_code.proofs.reader.Reader.row.Goals as goal

pub overflow_cast-result : goal.overflow_cast-result
overflow_cast-result c =
    let low : c.from.result < 65536 = search rules in
    omega (arith, changed_small 2 c.has_flag-3.result c.from.result c.in_ok-registers.registers c.changed.new.self c.changed-2.new.self low c.in_ok-registers.ensures)

pub overflow_cast-result-2 : goal.overflow_cast-result-2
overflow_cast-result-2 c =
    let low : c.from-2.result < 256 = search rules in
    omega (arith, changed_small 1 c.has_flag-4.result c.from-2.result c.in_ok-untouched.untouched c.changed-2.new.self c.changed-3.new.self low c.in_ok-untouched.ensures)
