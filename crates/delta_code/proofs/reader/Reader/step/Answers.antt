use Rattle.std.proofs.Common.{arith}
use Rattle.delta_code.proofs.ReaderLaws.{number_small}
use Rattle.delta_code.proofs.reader.Reader.step.Goals as goal
use Rattle.delta_code.proofs.reader.Reader.step.Goals.{then-wide, else-wide}

pub overflow_cast-result : goal.overflow_cast-result
overflow_cast-result c =
    let small = number_small c.if-wide.bytes.0 c.in_ok-step.step c.args.self.now c.number.new.self c.in_ok-step.ensures in
    elim c.if-wide.branch [ then-wide w ↦ omega (arith, rw w.bytes-is at small) | else-wide w ↦ omega (arith, rw w.bytes-is at small) ]
