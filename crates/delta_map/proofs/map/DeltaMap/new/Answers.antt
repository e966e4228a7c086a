use Rattle.std.proofs.Common.{refl, subst, lit<}
use Rattle.delta_map.specs.Faults.{HasDeltaRows}
use Rattle.delta_map.proofs.MapLaws.{rows_are}
use Rattle.delta_map.proofs.map.DeltaMap.new.Goals as goal

pub invariant_of-result : goal.invariant_of-result
invariant_of-result c =
    let h = subst (λ ws. HasDeltaRows ws c.in_ok-check_delta.field-0) c.as_slice.ensures.value c.in_ok-check_delta.ensures in
    record { counted = lit< tt; table = ∣ (h.entries, h.means) ∣₁ }

pub returns : goal.returns
returns c =
    let h = subst (λ ws. HasDeltaRows ws c.in_ok-check_delta.field-0) c.as_slice.ensures.value c.in_ok-check_delta.ensures in
    record { entries = h.entries; means = h.means; rows = rows_are _ h.entries h.means; fresh = refl }
