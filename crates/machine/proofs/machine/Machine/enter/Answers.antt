use Rattle.std.proofs.Common.{◌≡◌, ◌+◌, ◌<◌, ◌≤◌, ◌⊎◌, sym, [], ◌∷◌, ◌++◌, length, refl, ap, ◌∙◌, inl, inr, ⊎_elim, arith, rules}
use Rattle.std.proofs.lemmas.Bool.{eqb-true, eqb-false}
use Rattle.scan.specs.Frames.{top}
use Rattle.frames.specs.Models.{frames}
use Rattle.refusal.specs.declared.Refusal.TheVariants.{OutOfRange, NoRoom}
use Rattle.frames.proofs.ViewLaws.{handed, runs, top_is, size_is, stays, stays_as, stays_asked, stopped, unfit}
use Rattle.frames.proofs.Entering.{laid_at, enter_accepted}
use Rattle.frames.proofs.TableLaws.{pushed}
use Rattle.machine.proofs.machine.Machine.enter.Goals as goal
use Rattle.machine.proofs.machine.Machine.enter.Goals.{then-is_full-via-then-is_full, then-is_full-via-else-is_full+then-end-len}

pub returns-in_err-running : goal.returns-in_err-running
returns-in_err-running g c = λ s h. stopped _ _ _ s _ _ h c.from_residual.ensures.1 c.in_err-running.ensures

pub returns-in_err-size : goal.returns-in_err-size
returns-in_err-size g c = λ s h.
    let unfair = rw c.in_err-size.ensures.ok_part at c.frame_size.ensures in
    let told = rw c.in_err-size.ensures.ok_part at c.in_err-size.ensures.value in
    let why : c.in_err-size.field-0.0 ≡ OutOfRange = cc in
    handed _ _ _ _ c.from_residual-in_err-size.ensures.1 (stays_as _ s _ _ OutOfRange h why refl (inr (runs _ _ _ s h c.in_ok-running.ensures, inl (refl, unfair))))

pub returns-then-is_full : goal.returns-then-is_full
returns-then-is_full g c = λ s h.
    let fair = rw c.in_ok-size.ensures.ok_part at c.frame_size.ensures in
    let same : c.in_ok-size.size ≡ c.args.size = fair.0 in
    let full : (256 ≤ length (frames s)) ⊎ (s.room < top (frames s) + c.args.size) =
    elim c.then-is_full.branch [
      | then-is_full-via-then-is_full w ↦ (let all = eqb-true _ 257 (sym c.is_full.ensures.value ∙ w.if-is_full.true) in inl (omega (arith, h.lies.deep)))
      | then-is_full-via-else-is_full+then-end-len w ↦ inr (omega (arith, top_is _ _ _ s h, c.top-top.ensures, c.from.ensures, c.from-2.ensures, w.len.ensures, h.placed.room_is, w.if-end-len.true))
    ] in
    stays _ s _ NoRoom h refl (inr (runs _ _ _ s h c.in_ok-running.ensures, inr (λ unfair. unfair fair.1, inl (refl, full))))

pub returns-in_err-fitting_row : goal.returns-in_err-fitting_row
returns-in_err-fitting_row g c = λ s h.
    let fair = rw c.in_ok-size.ensures.ok_part at c.frame_size.ensures in
    let same : c.in_ok-size.size ≡ c.args.size = fair.0 in
    let room = eqb-false _ 257 (sym c.is_full.ensures.value ∙ c.if-is_full.false) in
    let why = unfit _ _ _ s c.args.point c.size.result h (c.size.ensures ∙ size_is _ _ _ s h) c.in_err-fitting_row.field-0.0 c.in_err-fitting_row.ensures.found in
    handed _ _ _ _ c.from_residual-in_err-fitting_row.ensures.1
    (stays_asked _ _ _ s _ _ h c.fitting_row.ensures.same c.fitting_row.ensures.counted why.1
    (inr (
      runs _ _ _ s h c.in_ok-running.ensures,
      inr (
        λ unfair. unfair fair.1,
        inr (
          λ full. ⊎_elim (λ (l : 256 ≤ _). room (omega (arith, h.lies.deep, c.args.self.now.state.deep))) (λ (l : s.room < _). omega (arith, top_is _ _ _ s h, c.top-top.ensures, c.from.ensures, c.from-2.ensures, c.len.ensures, h.placed.room_is, c.if-end-len.false)) full,
          why.0,
        ),
      ),
    )))

pub returns : goal.returns
returns g c = λ s h.
    let fair = rw c.in_ok-size.ensures.ok_part at c.frame_size.ensures in
    let some = fair.1.0 in
    let same : c.in_ok-size.size ≡ c.args.size = fair.0 in
    let place : c.top-top.result ≡ top (frames s) = c.top-top.ensures ∙ top_is _ _ _ s h in
    let end : c.from.result + c.from-2.result ≡ top (frames s) + c.args.size = omega (arith, c.from.ensures, c.from-2.ensures) in
    let room = eqb-false _ 257 (sym c.is_full.ensures.value ∙ c.if-is_full.false) in
    let ws = g.S.StackMemory.words c.args.self.now.memory in
    let fits : top (frames s) + c.args.size ≤ length ws = omega (arith, c.len.ensures, c.if-end-len.false) in (
      enter_accepted _ _ _ _ _ s c.args.point c.args.size c.size.result _ h c.in_ok-running.ensures some fair.1.1 (omega (arith, c.args.self.now.state.deep)) fits
          (c.size.ensures ∙ size_is _ _ _ s h) c.in_ok-fitting_row.ensures.found c.fitting_row.ensures.same c.fitting_row.ensures.counted
          (c.lay_frame.ensures (omega arith) (omega arith) ∙ ap (λ t. laid_at ws t c.args.point c.in_ok-size.size) place ∙ ap (λ k. laid_at ws (top (frames s)) c.args.point k) same)
          (search rules)
          (pushed 257 _ _ _ _ (omega (arith, c.args.self.now.state.deep)) c.push.ensures ∙ ap (λ k. c.args.self.now.state.edges ++ k ∷ []) end),
      tt,
    )
