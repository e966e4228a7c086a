use Rattle.std.proofs.Common.{◌≡◌, ℕ, List, length, ap, ◌∙◌, subst, arith, rules}
use Rattle.std.specs.Fmt.{HasWritten}
use Rattle.std.specs.List.{flat_map}
use Rattle.std.proofs.lemmas.List.{take_all}
use Rattle.frame_map.specs.Texts.{slot_word}
use Rattle.frame_map.proofs.TextLaws.{slots_flat}
use Rattle.frame_map.proofs.show.SlotsDisplay.fmt.Goals as goal

pub returns-clause-writes : goal.returns-clause-writes
returns-clause-writes g c =
    let xs : List ℕ = c.args.self.now.0 in
    let long : length xs ≡ 8 = search rules in
    let all = ap (flat_map slot_word) (take_all c.loop-slot.slot-index xs (omega arith)) ∙ slots_flat xs long in
    λ plain ok. subst (λ t. HasWritten g.W.Write.write_str_gives c.args.f.now t c.loop-slot.f) all (c.loop-slot.invariant plain)
