use Rattle.std.proofs.Common.{◌≡◌, ◌+◌, set, refl, ap, ◌∙◌, inl, inr, arith}
use Rattle.std.proofs.lemmas.Result.{MatchResult-weaker}
use Rattle.refusal.specs.declared.Refusal.TheVariants.{OutOfRange}
use Rattle.scan.specs.Frames.{top}
use Rattle.frames.proofs.CallLaws.{slot_written}
use Rattle.frames.proofs.ViewLaws.{handed, runs, slot_at, slot_in, slot_out, slot_there, stopped, stays_as}
use Rattle.machine.proofs.machine.Machine.set_slot.Goals as goal

pub returns-in_err-running : goal.returns-in_err-running
returns-in_err-running g c = λ s h. stopped _ _ _ s _ _ h c.from_residual.ensures.1 c.in_err-running.ensures

pub returns-in_err-place : goal.returns-in_err-place
returns-in_err-place g c = λ s h.
    handed _ _ _ _ c.from_residual-in_err-place.ensures.1
    (stays_as _ s _ _ OutOfRange h c.in_err-place.ensures.0 refl (inr (runs _ _ _ s h c.in_ok-running.ensures, inl (refl, λ fair. c.in_err-place.ensures.1 (fair.0, slot_out _ _ _ s h c.args.slot fair.1)))))

pub returns : goal.returns
returns g c = λ s h.
    let place : c.in_ok-place.place ≡ top s.older + c.args.slot = c.in_ok-place.ensures.0 ∙ slot_at _ _ _ s h c.args.slot in
    let some = c.in_ok-place.ensures.1 in
    let inside = slot_in _ _ _ s h c.args.slot c.in_ok-place.ensures.2 in
    MatchResult-weaker c.write.result c.write.ensures
    (λ _ changed. (
      slot_written _ s c.args.slot h c.in_ok-running.ensures some inside c.args.word _ (changed.words_after ∙ ap (λ k. set (g.S.StackMemory.words c.args.self.now.memory) k c.args.word) place),
      tt,
    ))
    (λ e none. let past = none.past in let there = slot_there _ _ _ s h c.args.slot inside in absurd (omega arith))
