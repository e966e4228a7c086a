use Rattle.std.proofs.Common.{◌≡◌, refl, inl, inr, rules}
use Rattle.refusal.specs.declared.Refusal.TheVariants.{NothingThere}
use Rattle.frames.proofs.CallLaws.{raise_accepted, none_left}
use Rattle.frames.proofs.ViewLaws.{handed, runs, stopped}
use Rattle.machine.proofs.machine.Machine.raise.Goals as goal

pub returns-in_err-running : goal.returns-in_err-running
returns-in_err-running g c = λ s h. stopped _ _ _ s _ _ h c.from_residual.ensures.1 c.in_err-running.ensures

pub returns-in_err-handler : goal.returns-in_err-handler
returns-in_err-handler g c = λ s h.
    let none = rw c.in_err-handler.ensures.ok_part at c.pop.ensures in
    let told = rw c.in_err-handler.ensures.ok_part at c.in_err-handler.ensures.value in
    let why : c.in_err-handler.field-0.0 ≡ NothingThere = cc in
    handed _ _ _ _ c.from_residual-in_err-handler.ensures.1 (rw why
    (none_left _ _ s _ NothingThere h (search rules)
    none.0 none.1 refl (λ empty. inr (runs _ _ _ s h c.in_ok-running.ensures, inl (refl, empty)))))

pub returns : goal.returns
returns g c = λ s h.
    let popped = rw c.in_ok-handler.ensures.ok_part at c.pop.ensures in
    raise_accepted _ _ _ s c.in_ok-handler.handler h c.in_ok-running.ensures (search rules) popped c.fall_to.ensures
