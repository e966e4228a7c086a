use Rattle.std.proofs.Common.{◌≡◌, ◌-◌, sym, refl, ap, ◌∙◌, arith, rules}
use Rattle.std.proofs.lemmas.Option.{none-some}
use Rattle.frames.proofs.StackLaws.{frame_number}
use Rattle.frames.proofs.StandLaws.{kept_of}
use Rattle.frames.proofs.ViewLaws.{after_none}
use Rattle.frames.specs.Models.{frames}
use Rattle.frames.specs.Views.{after}
use Rattle.listing.proofs.Loops.{learned_first, same_trans, loop_step, loop_stops, loop_ends}
use Rattle.listing.proofs.decode.decode_all_waiting.Goals as goal

pub returns-in_err-held : goal.returns-in_err-held
returns-in_err-held g c = record {
  same = refl;
  tables = search rules;
  decodes = λ s h low.
      let under = h.placed.low in
      let there = frame_number (frames s) c.args.from (omega arith) in
      absurd (none-some _ (sym c.in_err-held.was ∙ c.held_at.ensures _ _ s there.0 there.1 there.2 h there.3 there.4 low));
}

pub loop-frame-init : goal.loop-frame-init
loop-frame-init g c = (
  refl,
  search rules,
  λ s h low. (
    learned_first _ _ _ _ s c.args.from c.in_ok-held.held h low c.truncate.ensures (λ xs gs up parts n. sym c.in_ok-held.was ∙ c.held_at.ensures _ _ s xs gs up h parts n low),
    sym (ap (λ k. after (g.M.FrameMap.count c.args.map.now) k) (let e : c.args.from - c.args.from ≡ 0 = omega arith in e) ∙ after_none (g.M.FrameMap.count c.args.map.now)),
  ),
)

pub returns-in_err-held-2 : goal.returns-in_err-held-2
returns-in_err-held-2 g c = record {
  same = c.decode_waiting.ensures.same ∙ c.loop-frame.invariant.0;
  tables = same_trans _ _ _ c.loop-frame.invariant.1 c.decode_waiting.ensures.tables;
  decodes = λ s h low.
      absurd
      (loop_stops _ _ _ _ _ _ _ _ _ _ s c.args.from c.loop-frame.frame c.loop-frame.held _ c.loop-frame.invariant.0 c.loop-frame.invariant.1 (kept_of _ _ _ s h) (c.loop-frame.invariant.2 s h low)
      (omega (arith, c.newest-frame-end.ensures)) c.decode_waiting.ensures c.in_err-held-2.was);
}

pub loop-frame-preserved : goal.loop-frame-preserved
loop-frame-preserved g c = (
  c.decode_waiting.ensures.same ∙ c.loop-frame.invariant.0,
  same_trans _ _ _ c.loop-frame.invariant.1 c.decode_waiting.ensures.tables,
  λ s h low.
      loop_step _ _ _ _ _ _ _ _ _ _ s c.args.from c.loop-frame.frame c.loop-frame.held _ c.loop-frame.invariant.0 c.loop-frame.invariant.1 (kept_of _ _ _ s h) (c.loop-frame.invariant.2 s h low)
      (omega (arith, c.newest-frame-end.ensures)) c.decode_waiting.ensures c.in_ok-held-2.held c.in_ok-held-2.was c.loop-frame.auto.frame,
)

pub returns : goal.returns
returns g c = record {
  same = c.loop-frame.invariant.0;
  tables = c.loop-frame.invariant.1;
  decodes = λ s h low.
      let deep = h.lies.deep in
      let under = h.placed.low in
      let end = c.loop-frame.auto.frame-end (omega (arith, c.newest-frame-end.ensures)) in
      loop_ends _ _ _ _ _ _ s c.args.from c.loop-frame.frame c.loop-frame.held h low (omega (arith, c.newest-frame-end.ensures)) (c.loop-frame.invariant.2 s h low);
}
