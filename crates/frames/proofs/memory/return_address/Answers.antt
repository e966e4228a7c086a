use Rattle.std.proofs.Common.{get_or, ap, ◌≡◌, option_map, sym, ◌∙◌, rules, arith}
use Rattle.frames.proofs.StandLaws.{frame_deep, marker_answers, word_answers}
use Rattle.frames.proofs.memory.return_address.Goals as goal

pub returns-then-frame-depth : goal.returns-then-frame-depth
returns-then-frame-depth g c = λ rows s xs fs f h e at.
    let l = frame_deep _ c.args.state.now s xs fs f h.lies e in
    absurd (omega arith)

pub returns-then-is_marked : goal.returns-then-is_marked
returns-then-is_marked g c = λ rows s xs fs f h e at.
    let address : c.map.result ≡ option_map (λ m. m.address) c.get.result = search rules in
    address ∙ marker_answers rows _ c.args.state.now s c.args.frame f c.get.result (record { stands = h; above = xs; below = fs; parts = e; number = at }) (sym c.is_marked.ensures ∙ c.if-is_marked.true) c.get.ensures

pub returns : goal.returns
returns g c = λ rows s xs fs f h e at.
    let from : c.from.result ≡ get_or c.args.state.now.edges c.args.frame 0 = c.from.ensures ∙ c.in_ok-get.ensures.1 0 in
    c.ok.ensures.value ∙ word_answers rows _ c.args.state.now s c.args.frame f c.read.result (record { stands = h; above = xs; below = fs; parts = e; number = at }) (sym c.is_marked.ensures ∙ c.if-is_marked.false) (rw (← from) c.read.ensures)
