use Rattle.std.proofs.Common.{◌≡◌, ℕ, sym, subst, inl, inr, add-one, arith}
use Rattle.std.proofs.lemmas.Result.{err_from_is_err_and}
use Rattle.delta_image.specs.Images.{start_in, GoodFront}
use Rattle.delta_image.proofs.Exact.{bad_start_means, bad_row_means}
use Rattle.delta_image.proofs.Fronts.{front_none, front_table, front_length}
use Rattle.delta_image.proofs.Merging.{merged}
use Rattle.delta_map.proofs.check.check_delta.Goals as goal

pub returns-in_err-check_starts : goal.returns-in_err-check_starts
returns-in_err-check_starts c =
    let p = err_from_is_err_and c.from_residual.result c.from_residual.ensures.1 in
    let f = c.in_err-check_starts.ensures in
    rw p.1 (record {
      row = c.in_err-check_starts.field-0.0.row;
      byte = c.in_err-check_starts.field-0.0.byte;
      tells = p.2;
      first = inl f;
      none = bad_start_means c.args.image.now f.index f.bad;
    })

pub loop-place-init : goal.loop-place-init
loop-place-init c = front_none c.args.image.now c.in_ok-check_starts.ensures

pub returns-in_err-rows : goal.returns-in_err-rows
returns-in_err-rows c =
    let p = err_from_is_err_and c.from_residual-in_err-rows.result c.from_residual-in_err-rows.ensures.1 in
    let f = c.in_err-rows.ensures in
    rw p.1 (record {
      row = c.in_err-rows.field-0.0.row;
      byte = c.in_err-rows.field-0.0.byte;
      tells = p.2;
      first = inr f;
      none = bad_row_means c.args.image.now c.in_err-rows.field-0.0.row c.in_err-rows.field-0.0.byte f;
    })

pub loop-place-preserved : goal.loop-place-preserved
loop-place-preserved c =
    subst (λ b. GoodFront c.args.image.now b (start_in c.args.image.now b) c.in_ok-rows.rows) (sym (add-one c.loop-place.place))
    c.in_ok-rows.ensures

pub returns : goal.returns
returns c =
    let e : c.loop-place.place ≡ 64 = omega arith in
    let g : GoodFront c.args.image.now 64 (start_in c.args.image.now 64) c.loop-place.rows =
    subst (λ b. GoodFront c.args.image.now b (start_in c.args.image.now b) c.loop-place.rows) e c.loop-place.invariant in
    let byte = λ (i : ℕ). (c.type_inv.image i).fits in
    record {
      entries = merged g.done 65536;
      many = front_length c.args.image.now c.loop-place.rows byte g;
      means = front_table c.args.image.now c.loop-place.rows byte g;
    }
