use Rattle.std.proofs.Common.{set, refl, ap, inl, inr, rules}
use Rattle.refusal.specs.declared.Refusal.TheVariants.{OutOfRange}
use Rattle.frames.proofs.CallLaws.{register_written}
use Rattle.frames.proofs.ViewLaws.{handed, runs, stopped, stays_as}
use Rattle.machine.proofs.machine.Machine.set_register.Goals as goal

pub returns-in_err-running : goal.returns-in_err-running
returns-in_err-running g c = λ s h. stopped _ _ _ s _ _ h c.from_residual.ensures.1 c.in_err-running.ensures

pub returns-in_err-place : goal.returns-in_err-place
returns-in_err-place g c = λ s h.
    handed _ _ _ _ c.from_residual-in_err-place.ensures.1
    (stays_as _ s _ _ OutOfRange h c.in_err-place.ensures.0 refl (inr (runs _ _ _ s h c.in_ok-running.ensures, inl (refl, c.in_err-place.ensures.1))))

pub returns : goal.returns
returns g c = λ s h. (
  register_written _ _ s c.args.register c.args.word h c.in_ok-running.ensures c.in_ok-place.ensures.1
      (search rules)
      (ap (λ k. set c.args.self.now.state.registers k c.args.word) c.in_ok-place.ensures.0),
  tt,
)
