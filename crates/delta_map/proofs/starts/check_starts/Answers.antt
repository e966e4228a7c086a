use Rattle.std.proofs.Common.{◌≡◌, ◌*◌, sym, refl, ap, ◌∙◌, subst, add-one, arith}
use Rattle.std.proofs.lemmas.Result.{err_from_is_err_and}
use Rattle.delta_image.specs.Images.{start_in, GoodStarts}
use Rattle.delta_map.proofs.StartLaws.{starts_more, starts_next}
use Rattle.delta_map.proofs.starts.check_starts.Goals as goal

pub loop-k-preserved : goal.loop-k-preserved
loop-k-preserved c =
    let start = rw c.in_ok-last.ensures.ok_part at c.next_start.ensures in (
      subst (λ n. GoodStarts c.args.image.now n) (sym (add-one c.loop-k.k))
          (starts_more c.args.image.now c.loop-k.k c.loop-k.last (omega arith) c.loop-k.invariant.1 c.loop-k.invariant.0 start.0),
      λ j e. start.1 ∙ ap (λ i. start_in c.args.image.now i) (let z : c.loop-k.k ≡ j = omega arith in z),
    )

pub returns-in_err-last : goal.returns-in_err-last
returns-in_err-last c =
    let none = rw c.in_err-last.ensures.ok_part at c.next_start.ensures in
    let p = err_from_is_err_and c.from_residual.result c.from_residual.ensures.1 in
    let told = rw c.in_err-last.ensures.ok_part at c.in_err-last.ensures.value in
    let fault : c.in_err-last.field-0.0 ≡ record { row = 0; byte = 2 * c.loop-k.k } = cc in
    rw (p.1, p.2, fault) (record {
      index = c.loop-k.k;
      bad = record {
        inside = omega arith;
        before = c.loop-k.invariant.0;
        bad = λ g. none (starts_next c.args.image.now c.loop-k.k c.loop-k.last (omega arith) c.loop-k.invariant.1 g);
      };
      row_none = refl;
      byte_is = refl;
    })
