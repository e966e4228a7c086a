use Rattle.std.proofs.Common.{◌≡◌, Some, option_map, ap, ◌∙◌, rules, arith}
use Rattle.frames.proofs.ScanLaws.{held_none_at, held_answers}
use Rattle.listing.proofs.decode.held_at.Goals as goal

pub returns-then-from-eq0 : goal.returns-then-from-eq0
returns-then-from-eq0 c = λ rows ws s xs gs up h parts n low. ap Some (held_none_at rows gs up.back (omega arith))

pub returns : goal.returns
returns c = λ rows ws s xs gs up h parts n low.
    let mask : c.map.result ≡ option_map (λ r. r.held) c.get.result = search rules in
    mask ∙ held_answers rows ws c.args.state.now s xs gs up c.args.from c.get.result h parts n low (omega arith) c.get.ensures
