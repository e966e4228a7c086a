use Rattle.std.proofs.Common.{◌≡◌, [], ◌∷◌, ◌++◌, length, Some, sym, ap, ◌∙◌, arith}
use Rattle.frames.specs.Standing.{record_of}
use Rattle.frames.specs.Tables.{records}
use Rattle.frames.proofs.ScanLaws.{length-scans, scans-cons}
use Rattle.frame_map.proofs.Rising.{some_same}
use Rattle.listing.proofs.Loops.{same_trans}
use Rattle.listing.proofs.decode.decode_from.Goals as goal

pub returns : goal.returns
returns g c = record {
  same = c.decode_all_waiting.ensures.same;
  tables = same_trans _ _ _ c.decode_all_waiting.ensures.tables c.scan_into.ensures.tables;
  decodes = λ s p h low found.
      let below = c.decode_all_waiting.ensures.decodes s h low in
      let rows = g.M.FrameMap.rows c.args.map.now in
      let mask = some_same _ _ (sym c.in_ok-entered.was ∙ below.0) in
      let many : length (records c.decode_all_waiting.new.state.records) ≡ length s.older = ap length below.1 ∙ length-scans rows s.current.back s.older in
      let deep = h.lies.deep in
      let at : length s.older ≡ c.newest-frame.result = omega (arith, c.newest-frame.ensures, ap (λ e. length e) c.decode_all_waiting.ensures.tables.edges_same) in
      let all = c.scan_into.ensures.scanned rows p s.current s.older found (g.met.M.FrameMap.lawful c.args.map.now p c.args.row.now found) at mask (omega (arith, c.args.state.now.deep)) in (
        ap Some all.0,
        all.1 ∙ ap (λ q. q ++ record_of rows p s.current s.older ∷ []) below.1 ∙ sym (scans-cons rows p s.current s.older),
        below.2,
      );
}
