use Rattle.std.proofs.Common.{◌≡◌, suc, ◌∷◌, length, Some, sym, refl, ap, ◌∙◌, arith, rules}
use Rattle.std.proofs.lemmas.Option.{none-some}
use Rattle.frame_map.proofs.Rising.{some_same}
use Rattle.frames.proofs.ScanLaws.{waiting_row, described_some}
use Rattle.frames.proofs.StandLaws.{second_deep}
use Rattle.listing.proofs.decode.decode_waiting.Goals as goal

pub returns-in_err-point : goal.returns-in_err-point
returns-in_err-point g c = record {
  same = refl;
  tables = search rules;
  decodes = λ s xs fs up f k parts n m room.
      let deep = second_deep _ _ s xs fs up f k.lies parts in
      let at : suc (length fs) ≡ c.saturating_add.result = omega (arith, c.saturating_add.ensures, c.args.state.now.deep) in
      absurd (none-some up.back (sym c.in_err-point.was ∙ c.return_address.ensures _ s xs (f ∷ fs) up k parts at));
}

pub returns-in_err-row : goal.returns-in_err-row
returns-in_err-row g c = record {
  same = c.lookup.ensures.same;
  tables = search rules;
  decodes = λ s xs fs up f k parts n m room.
      let deep = second_deep _ _ s xs fs up f k.lies parts in
      let at : suc (length fs) ≡ c.saturating_add.result = omega (arith, c.saturating_add.ensures, c.args.state.now.deep) in
      let point : c.in_ok-point.point ≡ up.back = some_same _ _ (sym c.in_ok-point.was ∙ c.return_address.ensures _ s xs (f ∷ fs) up k parts at) in
      absurd (described_some _ _ (waiting_row _ xs fs up f _ parts k.waiting) (sym c.in_err-row.was ∙ c.lookup.ensures.found ∙ ap (g.M.FrameMap.rows c.args.map.now) point));
}

pub returns : goal.returns
returns g c = record {
  same = c.lookup.ensures.same;
  tables = c.scan_into.ensures.tables;
  decodes = λ s xs fs up f k parts n m room.
      let deep = second_deep _ _ s xs fs up f k.lies parts in
      let at : suc (length fs) ≡ c.saturating_add.result = omega (arith, c.saturating_add.ensures, c.args.state.now.deep) in
      let point : c.in_ok-point.point ≡ up.back = some_same _ _ (sym c.in_ok-point.was ∙ c.return_address.ensures _ s xs (f ∷ fs) up k parts at) in
      let found : g.M.FrameMap.rows c.args.map.now up.back ≡ Some c.in_ok-row.row = sym (sym c.in_ok-row.was ∙ c.lookup.ensures.found ∙ ap (g.M.FrameMap.rows c.args.map.now) point) in
      let all = c.scan_into.ensures.scanned (g.M.FrameMap.rows c.args.map.now) up.back f fs found (g.met.M.FrameMap.lawful c.args.map.now up.back c.in_ok-row.row found) n m room in
      (ap Some all.0, all.1, c.lookup.ensures.counted);
}
