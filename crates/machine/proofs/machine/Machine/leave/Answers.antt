use Rattle.std.proofs.Common.{◌≡◌, [], sym, ◌∙◌, refl, inl, inr, arith}
use Rattle.std.proofs.lemmas.Option.{none-some}
use Rattle.frame_map.proofs.Rising.{some_same}
use Rattle.refusal.specs.declared.Refusal.TheVariants.{NothingThere, HandlerStands}
use Rattle.frames.specs.Models.{newest}
use Rattle.frames.proofs.CallLaws.{leave_accepted}
use Rattle.frames.proofs.HandlerLaws.{handler_there, handler_none}
use Rattle.frames.proofs.StandLaws.{kept_of}
use Rattle.frames.proofs.ViewLaws.{runs, stays, stopped}
use Rattle.machine.proofs.machine.Machine.leave.Goals as goal

pub returns-in_err-running : goal.returns-in_err-running
returns-in_err-running g c = λ s h. stopped _ _ _ s _ _ h c.from_residual.ensures.1 c.in_err-running.ensures

pub returns-then-frame-lt1 : goal.returns-then-frame-lt1
returns-then-frame-lt1 g c = λ s h. stays _ s _ NothingThere h refl (inr (runs _ _ _ s h c.in_ok-running.ensures, inl (refl, omega (arith, h.lies.deep, c.newest-frame.ensures))))

pub returns-then-has_handler : goal.returns-then-has_handler
returns-then-has_handler g c = λ s h.
    let deep = h.lies.deep in
    let at : c.newest-frame.result ≡ newest s = omega (arith, c.newest-frame.ensures) in
    let there = handler_there _ s c.newest-frame.result h.handled at c.if-has_handler.ensures in
    stays _ s _ HandlerStands h refl
    (inr (runs _ _ _ s h c.in_ok-running.ensures, inr (λ z. omega arith, inl (refl, there))))

pub returns-in_err-point : goal.returns-in_err-point
returns-in_err-point g c = λ s h.
    let deep = h.lies.deep in
    absurd (none-some _ (sym c.in_err-point.ensures.ok_part ∙ c.return_address.ensures _ s [] s.older s.current (kept_of _ _ _ s h) refl (omega (arith, c.newest-frame.ensures))))

pub returns : goal.returns
returns g c = λ s h.
    let deep = h.lies.deep in
    let at : c.newest-frame.result ≡ newest s = omega (arith, c.newest-frame.ensures) in
    let none = handler_none _ s c.newest-frame.result h.handled at c.if-has_handler.ensures in
    let point : c.in_ok-point.point ≡ s.current.back = some_same _ _ (sym c.in_ok-point.ensures.ok_part ∙ c.return_address.ensures _ s [] s.older s.current (kept_of _ _ _ s h) refl (omega arith)) in
    (leave_accepted _ _ _ _ s h c.in_ok-running.ensures (omega (arith, c.newest-frame.ensures)) none c.lookup.ensures.same c.lookup.ensures.counted (rw (← c.newest-frame.ensures) c.fall_to.ensures), point)
