use Rattle.std.proofs.Common.{vec_items, sym, ap, ◌∙◌, subst, rules}
use Rattle.frame_map.specs.Tables.{Table, row_for}
use Rattle.sorted_map.specs.MapTable.{table_of}
use Rattle.sorted_map.proofs.PieceLaws.{pieces_all}
use Rattle.sorted_map.proofs.methods.SortedMapFrameMap.lookup.Goals as goal

pub find-requires : goal.find-requires
find-requires c =
    subst Table (sym (pieces_all (vec_items c.args.self.now.image) c.deref.result.now c.as_chunks.result.0.now c.deref.ensures.value c.as_chunks.ensures.front)) (table_of c.args.self.now)

pub returns : goal.returns
returns c = record {
  found = c.find.ensures ∙ ap (row_for c.args.point) (pieces_all (vec_items c.args.self.now.image) c.deref.result.now c.as_chunks.result.0.now c.deref.ensures.value c.as_chunks.ensures.front);
  same = search rules;
  counted = search rules;
}
