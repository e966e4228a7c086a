use Rattle.std.proofs.Common.{sym, ◌<◌, ◌≡◌, length, refl, ap, ◌∙◌, inl, inr, arith, rules}
use Rattle.std.proofs.lemmas.Bool.{eqb-true, eqb-false}
use Rattle.refusal.specs.declared.Refusal.TheVariants.{NoRoom}
use Rattle.frames.specs.Models.{newest}
use Rattle.frames.specs.Tables.{records}
use Rattle.frames.proofs.CallLaws.{try_accepted}
use Rattle.frames.proofs.TableLaws.{pushed}
use Rattle.frames.proofs.ViewLaws.{handed, runs, size_is, stays, stays_asked, stopped, unfit}
use Rattle.machine.proofs.machine.Machine.try_at.Goals as goal

pub returns-in_err-running : goal.returns-in_err-running
returns-in_err-running g c = λ s h. stopped _ _ _ s _ _ h c.from_residual.ensures.1 c.in_err-running.ensures

pub returns-then-is_full : goal.returns-then-is_full
returns-then-is_full g c = λ s h.
    let same = ap length h.handled.handlers_are in
    let all = eqb-true _ 64 (sym c.is_full.ensures.value ∙ c.if-is_full.true) in
    stays _ s _ NoRoom h refl (inr (runs _ _ _ s h c.in_ok-running.ensures, inl (refl, omega arith)))

pub returns-in_err-fitting_row : goal.returns-in_err-fitting_row
returns-in_err-fitting_row g c = λ s h.
    let same = ap length h.handled.handlers_are in
    let room = eqb-false _ 64 (sym c.is_full.ensures.value ∙ c.if-is_full.false) in
    let few = c.is_full.ensures.fits in
    let why = unfit _ _ _ s c.args.point c.size.result h (c.size.ensures ∙ size_is _ _ _ s h) c.in_err-fitting_row.field-0.0 c.in_err-fitting_row.ensures.found in
    handed _ _ _ _ c.from_residual-in_err-fitting_row.ensures.1
    (stays_asked _ _ _ s _ _ h c.fitting_row.ensures.same c.fitting_row.ensures.counted why.1
    (inr (runs _ _ _ s h c.in_ok-running.ensures, inr (λ full. room (omega arith), why.0))))

pub returns : goal.returns
returns g c = λ s h.
    let table = c.args.self.now.state.handlers in
    let room = eqb-false _ 64 (sym c.is_full.ensures.value ∙ c.if-is_full.false) in
    let few : length (records table) < 64 = omega (arith, c.is_full.ensures.fits) in
    let deep = h.lies.deep in
    let at : c.newest-frame.result ≡ newest s = omega (arith, c.newest-frame.ensures) in (
      try_accepted _ _ _ _ s c.args.point c.size.result _ (record { frame = c.newest-frame.result; point = c.args.point }) h c.in_ok-running.ensures few
          (c.size.ensures ∙ size_is _ _ _ s h) c.in_ok-fitting_row.ensures.found c.fitting_row.ensures.same c.fitting_row.ensures.counted
          (search rules)
          (ap (λ k. record { frame = k; point = c.args.point }) at)
          (pushed 64 (records table) (records c.push.new.self) _ c.push.result few c.push.ensures),
      tt,
    )
