use Rattle.std.proofs.Common.{Some}
use Rattle.delta_layout.specs.Parsing.{slots_in}
use Rattle.delta_code.specs.Reading.{Took}
use Rattle.delta_code.proofs.reader.Reader.saved.Given as goal

-- the slots of the registers below r(8 + k) are read
abbrev pub invariant-loop-k : goal.invariant-loop-k
invariant-loop-k l = Took (slots_in l.moved l.initial.slot-items l.k) (Some l.slot-items) l.initial.self l.self
