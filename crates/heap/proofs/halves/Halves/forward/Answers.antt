use Rattle.std.proofs.Common.{◌≡◌, ◌-◌, get_or, vec_items, arith, rules}
use Rattle.std.proofs.lemmas.List.{get_or_read}
use Rattle.heap_model.specs.Objects.{Place}
use Rattle.heap_model.proofs.Steps.{forwarded_none, forwarded_told, forwarded_new}
use Rattle.heap_model.proofs.Copying.{waits_there}
use Rattle.heap.specs.Buffers.{moving}
use Rattle.heap.proofs.halves.Halves.forward.Goals as goal

pub returns-then-word-eq0 : goal.returns-then-word-eq0
returns-then-word-eq0 c s scan ps m good = forwarded_none s (moving c.args.self.now) scan ps c.args.word m good c.if-word-eq0.true

pub returns-then-header-ge-FORWARDED : goal.returns-then-header-ge-FORWARDED
returns-then-header-ge-FORWARDED c s scan ps m good =
    let ws = vec_items c.args.self.now.words in
    let a : Place s c.args.word = good (search rules) in
    let head : c.index-header.result.now ≡ get_or ws (c.args.word - 1) 0 = get_or_read ws (c.args.word - 1) c.index-header.result.now (omega (arith, m.long, m.from_long)) c.index-header.ensures 0 in
    forwarded_told s (moving c.args.self.now) scan ps c.args.word m good a.0 (omega arith) _ (omega arith)

pub returns : goal.returns
returns c s scan ps m good =
    let ws = vec_items c.args.self.now.words in
    let a : Place s c.args.word = good (search rules) in
    let head : c.index-header.result.now ≡ get_or ws (c.args.word - 1) 0 = get_or_read ws (c.args.word - 1) c.index-header.result.now (omega (arith, m.long, m.from_long)) c.index-header.ensures 0 in
    forwarded_new s (moving c.args.self.now) scan ps c.args.word m good a.0 (omega arith) (moving c.move_object.new.self) _
    (c.move_object.ensures s scan ps m a (waits_there s (moving c.args.self.now) scan ps m c.args.word (omega arith))) (omega arith)
