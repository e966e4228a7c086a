use Rattle.std.proofs.Common.{◌/◌, rules}
use lib.Bits.{bit_and}
use Rattle.words.proofs.TestLaws.{when_equal}
use Rattle.frame_map.specs.Rows.{Masked}
use Rattle.frame_map.proofs.RowLaws.{disjoint_from, disjoint_to}
use Rattle.frame_map.proofs.row.Row.has_fair_registers.Goals as goal

pub returns : goal.returns
returns c =
    when_equal (bit_and (c.args.self.now.registers / 256) c.args.self.now.untouched) 0 (Masked c.args.self.now)
    (λ z. record { sixteen = search rules; eight = search rules; disjoint = disjoint_from c.args.self.now z })
    (λ m. disjoint_to c.args.self.now m)
