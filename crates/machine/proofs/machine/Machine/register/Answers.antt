use Rattle.std.proofs.Common.{get_or, refl, ap, ◌∙◌, inl, inr}
use Rattle.refusal.specs.declared.Refusal.TheVariants.{OutOfRange}
use Rattle.frames.proofs.CallLaws.{register_read}
use Rattle.frames.proofs.ViewLaws.{runs, stopped, stays_as, handed}
use Rattle.machine.proofs.machine.Machine.register.Goals as goal

pub returns-in_err-running : goal.returns-in_err-running
returns-in_err-running g c = λ s h. stopped _ _ _ s _ _ h c.from_residual.ensures.1 c.in_err-running.ensures

pub returns-in_err-place : goal.returns-in_err-place
returns-in_err-place g c = λ s h.
    handed _ _ _ _ c.from_residual-in_err-place.ensures.1
    (stays_as _ s _ _ OutOfRange h c.in_err-place.ensures.0 refl (inr (runs _ _ _ s h c.in_ok-running.ensures, inl (refl, c.in_err-place.ensures.1))))

pub returns : goal.returns
returns g c = λ s h. (
  register_read _ s c.args.register h c.in_ok-running.ensures c.in_ok-place.ensures.1,
  ap (λ k. get_or c.args.self.now.state.registers k 0) c.in_ok-place.ensures.0 ∙ ap (λ q. get_or q c.args.register 0) h.placed.registers_are,
)
