use Rattle.std.proofs.Common.{◌≡◌, vec_items, get_or, ap, ◌∙◌, ℕ, ◌+◌, ◌<◌, length, sym, subst, arith, rules}
use Rattle.std.proofs.lemmas.List.{get_or_read}
use Rattle.heap_model.specs.Objects.{size_in}
use Rattle.heap_model.specs.Moving.{Moving}
use Rattle.heap_model.specs.Steps.{Scanned}
use Rattle.heap_model.proofs.Scans.{scan_next, scan_inside}
use Rattle.heap_model.proofs.Collections.{scanned_all}
use Rattle.heap.specs.Buffers.{moving}
use Rattle.heap.proofs.halves.Halves.scan_all.Goals as goal

pub loop-scan-init : goal.loop-scan-init
loop-scan-init c s roots ps h = (0, (ps, h, λ w v r. r))

pub scan_object-requires : goal.scan_object-requires
scan_object-requires c =
    let p = c.requires in
    let i = c.loop-scan.invariant p.0 p.1 p.2 p.3 in
    (p.0, p.1, i.1.0, i.0, i.1.1, scan_next p.0 p.1 (moving c.loop-scan.self) c.loop-scan.scan i.1.0 i.0 i.1.1 (search rules))

pub loop-scan-preserved : goal.loop-scan-preserved
loop-scan-preserved c s roots ps h =
    let i : (k : ℕ) × Scanned s roots ps (moving c.loop-scan.self) c.loop-scan.scan k = c.loop-scan.invariant s roots ps h in
    let l : i.0 < length i.1.0 = scan_next s roots (moving c.loop-scan.self) c.loop-scan.scan i.1.0 i.0 i.1.1 (search rules) in
    let ws = vec_items c.loop-scan.self.idle in
    let there : c.loop-scan.scan < length ws = omega (arith, scan_inside s roots (moving c.loop-scan.self) c.loop-scan.scan i.1.0 i.0 i.1.1 l) in
    let size : c.size_of-size.result ≡ size_in (get_or ws c.loop-scan.scan 0) = c.size_of-size.ensures ∙ ap size_in (get_or_read ws c.loop-scan.scan c.index.result.now there c.index.ensures 0) in
    let n : Scanned s roots i.1.0 (moving c.scan_object.new.self) (c.loop-scan.scan + c.size_of-size.result) (i.0 + 1) =
    subst (λ x. Scanned s roots i.1.0 (moving c.scan_object.new.self) (c.loop-scan.scan + x) (i.0 + 1)) (sym size) (c.scan_object.ensures s roots i.1.0 i.0 i.1.1 l) in
    (i.0 + 1, (n.0, n.1, λ w v r. n.2 w v (i.1.2 w v r)))

pub returns : goal.returns
returns c s roots ps h =
    let i : (k : ℕ) × Scanned s roots ps (moving c.loop-scan.self) c.loop-scan.scan k = c.loop-scan.invariant s roots ps h in
    let e = scanned_all s roots (moving c.loop-scan.self) c.loop-scan.scan i.1.0 i.0 i.1.1 (search rules) in
    (i.1.0, subst (λ x. Moving s (moving c.loop-scan.self) x i.1.0) e.0 i.1.1.moving, i.1.1.early, e.1, i.1.2)
