use Rattle.std.proofs.Common.{vec_items, sym, refl, ap, subst, arith, lit<}
use Rattle.frame_map.specs.Tables.{Table, row_for}
use Rattle.sorted_map.specs.Layout.{HasRows}
use Rattle.sorted_map.proofs.SearchLaws.{all_is, means_long}
use Rattle.sorted_map.proofs.map.SortedMap.new.Goals as goal

pub invariant_of-result : goal.invariant_of-result
invariant_of-result c =
    let h = subst (λ ws. HasRows ws c.in_ok-check_sorted.field-0) c.as_slice.ensures.value c.in_ok-check_sorted.ensures in
    record { whole = omega (arith, c.args.image.ok.0, means_long (vec_items c.args.image) h.entries h.means); counted = lit< tt; table = ∣ subst Table (sym (all_is (vec_items c.args.image) h.entries h.means)) h.means.table ∣₁ }

pub returns : goal.returns
returns c =
    let h = subst (λ ws. HasRows ws c.in_ok-check_sorted.field-0) c.as_slice.ensures.value c.in_ok-check_sorted.ensures in
    record { entries = h.entries; means = h.means; many = omega (arith, means_long (vec_items c.args.image) h.entries h.means); rows = λ p. ap (λ es. row_for p es) (all_is (vec_items c.args.image) h.entries h.means); fresh = refl }
