use Rattle.std.proofs.Common.{◌≡◌, ◌+◌, ◌-◌, ◌<◌, length, set, sym, ap, ◌∙◌, arith}
use Rattle.frames.proofs.MemoryLaws.{zeroed, zeroed_more, zeroed_first, length_zeroed, written}
use Rattle.frames.proofs.memory.lay_frame.Goals as goal

pub loop-place-preserved : goal.loop-place-preserved
loop-place-preserved g c = λ l.
    let ws = g.S.StackMemory.words c.args.memory.now in
    let start = c.from-start.result in
    let place = c.loop-place.place in
    let here : start + (place - start) ≡ place = omega arith in
    let next : place - start + 1 ≡ place + 1 - start = omega arith in
    let inside : start + (place - start) < length ws = omega arith in
    let now = c.loop-place.invariant l in
    let long : length (g.S.StackMemory.words c.loop-place.memory) ≡ length ws = ap length now ∙ length_zeroed ws start (place - start) (omega arith) in
    written (g.S.StackMemory.words c.loop-place.memory) (g.S.StackMemory.words c.write.new.self) place 0 c.write.result (omega arith) c.write.ensures
    ∙ ap (λ q. set q place 0) now
    ∙ ap (λ k. set (zeroed ws start (place - start)) k 0) (sym here)
    ∙ zeroed_more ws start (place - start) inside
    ∙ ap (λ k. zeroed ws start k) next

pub returns : goal.returns
returns g c = λ some l.
    let ws = g.S.StackMemory.words c.args.memory.now in
    let a : c.from-start.result ≡ c.args.at = c.from-start.ensures in
    let n : c.loop-place.place - c.from-start.result ≡ c.args.size = omega (arith, c.from.ensures) in
    let now = rw (n, a) at (c.loop-place.invariant (omega (arith, c.from.ensures, c.from-start.ensures))) in
    let long : length (g.S.StackMemory.words c.loop-place.memory) ≡ length ws = ap length now ∙ length_zeroed ws c.args.at c.args.size l in
    written (g.S.StackMemory.words c.loop-place.memory) (g.S.StackMemory.words c.write-2.new.self) c.from-start.result c.args.address c.write-2.result (omega arith) c.write-2.ensures
    ∙ ap (λ k. set (g.S.StackMemory.words c.loop-place.memory) k c.args.address) a
    ∙ ap (λ q. set q c.args.at c.args.address) now
    ∙ zeroed_first ws c.args.at c.args.size c.args.address some l
