use Rattle.std.proofs.Common.{refl, inl, inr, arith, rules}
use Rattle.refusal.specs.declared.Refusal.TheVariants.{NothingThere}
use Rattle.frames.proofs.CallLaws.{untry_accepted}
use Rattle.frames.proofs.HandlerLaws.{handler_there, handler_none}
use Rattle.frames.proofs.TableLaws.{popped}
use Rattle.frames.proofs.ViewLaws.{runs, stays, stopped}
use Rattle.machine.proofs.machine.Machine.untry.Goals as goal

pub returns-in_err-running : goal.returns-in_err-running
returns-in_err-running g c = λ s h. stopped _ _ _ s _ _ h c.from_residual.ensures.1 c.in_err-running.ensures

pub returns-then-not-has_handler : goal.returns-then-not-has_handler
returns-then-not-has_handler g c = λ s h.
    let none = handler_none _ s c.newest.result h.handled (omega (arith, c.newest.ensures, h.lies.deep)) c.if-not-has_handler.ensures in
    stays _ s _ NothingThere h refl (inr (runs _ _ _ s h c.in_ok-running.ensures, inl (refl, none)))

pub returns : goal.returns
returns g c = λ s h.
    let there = c.if-not-has_handler.ensures in (
      untry_accepted _ _ s there.1 h c.in_ok-running.ensures (handler_there _ s c.newest.result h.handled (omega (arith, c.newest.ensures, h.lies.deep)) there)
          (search rules)
          (popped _ _ there.0 there.1 c.pop.result there.2 c.pop.ensures),
      tt,
    )
