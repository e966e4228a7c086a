use Rattle.std.proofs.Common.{◌≡◌, ℕ, ◌+◌, ◌/◌, Some, sym, ap, ◌∙◌, arith}
use Rattle.sorted_map.proofs.SearchLaws.{below_too, above_too, found_row, found_nowhere}
use Rattle.sorted_map.proofs.search.find.Goals as goal

-- the point that was read is that of the middle row
pub returns-then-here-point : goal.returns-then-here-point
returns-then-here-point c =
    let middle : ℕ = (c.loop-low.low + c.loop-low.high) / 2 in
    ap (λ e. Some e.row) c.entry_of-entry.ensures
    ∙ sym (found_row c.args.rows.now c.requires c.args.point middle (omega arith)
    (ap (λ e. e.point) (sym c.entry_of-entry.ensures) ∙ sym c.from-here.ensures ∙ c.if-here-point.true))

pub loop-low-preserved-then-here-point-2 : goal.loop-low-preserved-then-here-point-2
loop-low-preserved-then-here-point-2 c =
    let middle : ℕ = (c.loop-low.low + c.loop-low.high) / 2 in (
      omega arith,
      omega arith,
      below_too c.args.rows.now c.requires c.args.point middle (omega arith) (omega (arith, ap (λ e. e.point) c.entry_of-entry.ensures)),
      c.loop-low.invariant.3,
    )

pub loop-low-preserved : goal.loop-low-preserved
loop-low-preserved c =
    let middle : ℕ = (c.loop-low.low + c.loop-low.high) / 2 in (
      omega arith,
      omega arith,
      c.loop-low.invariant.2,
      above_too c.args.rows.now c.requires c.args.point middle (omega (arith, ap (λ e. e.point) c.entry_of-entry.ensures)),
    )

pub returns : goal.returns
returns c =
    let met : c.loop-low.low ≡ c.loop-low.high = omega arith in
    sym (found_nowhere c.args.rows.now c.requires c.args.point c.loop-low.low
    c.loop-low.invariant.2 (λ j h l. c.loop-low.invariant.3 j (omega arith) l))
