use Rattle.std.proofs.Common.{◌≡◌, ℕ, List, ◌+◌, ◌*◌, ◌/◌, ◌^◌, ◌<◌, ◌≤◌, length, sym, refl, ap, ◌∙◌, subst, add-one, arith}
use Rattle.std.proofs.lemmas.Bool.{eqb-false}
use Rattle.sorted_map.specs.Checking.{Follows, point_before}
use Rattle.sorted_map.specs.Decoding.{entry_in}
use Rattle.sorted_map.specs.Layout.{GoodRows}
use Rattle.sorted_map.proofs.ImageLaws.{good_none, good_more, good_follows, good_long, point_fits, told}
use Rattle.sorted_map.proofs.PieceLaws.{piece_entry, piece_follows, follows_piece}
use Rattle.sorted_map.proofs.check.check_sorted.Goals as goal
use Rattle.sorted_map.proofs.check.check_sorted.Goals.{then-i-ge-MAX_ROWS-via-then-i-ge-MAX_ROWS, then-i-ge-MAX_ROWS-via-else-i-ge-MAX_ROWS+then-not-follows}

pub loop-i-init : goal.loop-i-init
unfolding point_before
loop-i-init c = (good_none c.args.image.now, refl, omega arith)

-- a table has no 1,025th row, and the row that may not follow is no good one more
pub returns-then-i-ge-MAX_ROWS : goal.returns-then-i-ge-MAX_ROWS
returns-then-i-ge-MAX_ROWS c =
    told c.args.image.now c.fault.result c.loop-i.i c.fault.ensures c.loop-i.invariant.0 (omega (arith, c.as_chunks.ensures.front_len))
    (λ g. elim c.then-i-ge-MAX_ROWS.branch [
      | then-i-ge-MAX_ROWS-via-then-i-ge-MAX_ROWS w ↦
          let few : length g.entries ≤ 1024 = g.table.few in omega (arith, g.many, w.if-i-ge-MAX_ROWS.true)
      | then-i-ge-MAX_ROWS-via-else-i-ge-MAX_ROWS+then-not-follows w ↦
          w.if-not-follows.ensures
          (follows_piece c.args.image.now (length c.args.image.now / 5) c.as_chunks.result.0.now c.as_chunks.ensures.front c.loop-i.i (omega (arith, c.as_chunks.ensures.front_len)) c.loop-i.last
          (subst (λ p. Follows c.args.image.now c.loop-i.i p) (sym c.loop-i.invariant.1) (good_follows c.args.image.now c.loop-i.i g)))
    ])

pub loop-i-preserved : goal.loop-i-preserved
unfolding point_before
loop-i-preserved c =
    let ws : List ℕ = c.args.image.now in
    let inside : c.loop-i.i < length ws / 5 = omega (arith, c.as_chunks.ensures.front_len) in
    let fits : (entry_in ws c.loop-i.i).point < 2 ^ 16 = point_fits ws c.loop-i.i (c.type_inv.image (5 * c.loop-i.i)).fits in
    let good : Follows ws c.loop-i.i c.loop-i.last = piece_follows ws (length ws / 5) c.as_chunks.result.0.now c.as_chunks.ensures.front c.loop-i.i inside c.loop-i.last c.if-not-follows.ensures in
    let here = piece_entry ws (length ws / 5) c.as_chunks.result.0.now c.as_chunks.ensures.front c.loop-i.i inside in (
      good_more ws c.loop-i.i c.loop-i.invariant.0
          (subst (λ p. Follows ws c.loop-i.i p) c.loop-i.invariant.1 good)
          fits c.if-i-ge-MAX_ROWS.false (omega arith),
      ap (λ e. e.point) (c.entry_of-last.ensures ∙ here) ∙ ap (λ n. point_before ws n) (sym (add-one c.loop-i.i)),
      omega (arith, c.if-i-ge-MAX_ROWS.false),
    )

-- a cut row is too short for any
pub returns-then-not-is_empty : goal.returns-then-not-is_empty
returns-then-not-is_empty c =
    let n : ℕ = length c.as_chunks.result.0.now in
    let all : c.loop-i.i ≡ n = omega arith in
    let some : length c.as_chunks.result.1.now ≡ 0 → ⊥ = eqb-false (length c.as_chunks.result.1.now) 0 (sym c.if-not-is_empty.ensures) in
    told c.args.image.now c.fault-then-not-is_empty.result n c.fault-then-not-is_empty.ensures
    (subst (λ n. GoodRows c.args.image.now n) all c.loop-i.invariant.0) (omega (arith, c.as_chunks.ensures.front_len, c.as_chunks.ensures.back_len))
    (λ g. omega (arith, good_long c.args.image.now (n + 1) g, c.as_chunks.ensures.front_len))
