use Rattle.std.proofs.Common.{◌≡◌, ◌/◌, ◌^◌, ◌<◌, min, sym, ap, ◌∙◌, arith, rules}
use Rattle.words.proofs.BitLaws.{low_bit}
use Rattle.words.proofs.TestLaws.{when_equal}
use Rattle.frame_map.specs.Rows.{Slotted}
use Rattle.frame_map.proofs.RowLaws.{slotted_from, slotted_to}
use Rattle.frame_map.proofs.row.Row.has_fair_slots.Goals as goal

-- word 0 is no slot
pub returns-then-has_bit : goal.returns-then-has_bit
returns-then-has_bit c s = let h = (s 0 c.if-has_bit.ensures).0 in omega arith

pub returns : goal.returns
returns c =
    let fits : c.args.self.now.slots < 2 ^ 32 = search rules in
    let e : c.from.result / 2 ^ c.min.result ≡ c.args.self.now.slots / 2 ^ min c.args.self.now.size 32 =
    ap (λ x. x / 2 ^ c.min.result) c.from.ensures ∙ ap (λ x. c.args.self.now.slots / 2 ^ x) c.min.ensures in
    when_equal (c.from.result / 2 ^ c.min.result) 0 (Slotted c.args.self.now)
    (λ z. slotted_from c.args.self.now (min c.args.self.now.size 32) (omega arith) (λ odd. c.if-has_bit.ensures (low_bit c.args.self.now.slots odd)) (sym e ∙ z))
    (λ s. e ∙ slotted_to c.args.self.now fits s)
