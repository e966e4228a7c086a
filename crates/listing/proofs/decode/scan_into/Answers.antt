use Rattle.std.proofs.Common.{[], ◌∷◌, ◌++◌, sym, ap, ◌∙◌, rules}
use Rattle.frames.proofs.ScanLaws.{decoded_held, decoded_record}
use Rattle.frames.proofs.TableLaws.{pushed}
use Rattle.frames.specs.Tables.{records}
use Rattle.listing.proofs.decode.scan_into.Goals as goal

pub returns : goal.returns
returns c = record {
  tables = search rules;
  scanned = λ rows p f fs found lawful n m room.
      let steps = c.scan_frame-roots.ensures lawful in (
        decoded_held rows p c.args.row.now f fs c.args.held _ (sym found) m steps.held_mask,
        pushed 256 (records c.args.state.now.records) _ _ c.push.result room c.push.ensures
            ∙ ap (λ r. records c.args.state.now.records ++ r ∷ []) (decoded_record rows p c.args.row.now f fs c.args.frame c.args.held _ _ (sym found) (sym n) m (steps.roots_mask f.slots) steps.held_mask),
      );
}
