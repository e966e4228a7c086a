use Rattle.std.proofs.Common.{◌≡◌, ◌≤◌, rules, ap, ◌∙◌, subst, arith}
use Rattle.frames.specs.Fresh.{Fresh}
use Rattle.frames.specs.declared.state.Phase.TheVariants.{Running}
use Rattle.frames.proofs.Entering.{laid_at}
use Rattle.frames.proofs.Starting.{start_accepted}
use Rattle.machine.proofs.machine.Machine.start.Goals as goal

pub returns : goal.returns
returns g c =
    let fair = rw c.in_ok-size.ensures.ok_part at c.frame_size.ensures in
    let some = fair.1.0 in
    let same : c.in_ok-size.size ≡ c.args.size = fair.0 in
    let low : 4 ≤ c.args.spacing = search rules in
    let high : c.args.spacing ≤ 64 = search rules in
    start_accepted _ _ _ c.args.spacing c.args.size c.if-is_started.ensures (omega arith, omega arith, fair.1, omega (arith, c.from.ensures, c.len.ensures)) (g.met.S.StackMemory.few c.args.self.now.memory)
    (c.lay_frame.ensures (omega arith) (omega (arith, c.from.ensures, c.len.ensures)) ∙ ap (λ k. laid_at (g.S.StackMemory.words c.args.self.now.memory) 0 0 k) same)
    (subst (λ k. Fresh Running c.args.spacing k c.new-self.result) (c.from-2.ensures ∙ same) c.new-self.ensures)
