use Rattle.std.proofs.Common.{◌≡◌, ◌≤◌, sym, refl, ap, ◌∙◌, subst, arith}
use Rattle.delta_image.specs.Buckets.{DeltaMeans}
use Rattle.delta_map.specs.Meaning.{entries_of, rows_of}
use Rattle.delta_map.proofs.MapLaws.{entries_mean, rows_same, rows_past}
use Rattle.delta_map.proofs.methods.DeltaMapFrameMap.lookup.Goals as goal

pub find-requires : goal.find-requires
find-requires c = (entries_of c.args.self.now, subst (λ w. DeltaMeans w (entries_of c.args.self.now)) (sym c.as_slice.ensures.value) (entries_mean c.args.self.now))

pub returns-in_err-point : goal.returns-in_err-point
returns-in_err-point c =
    let past : 65536 ≤ c.args.point = let h = c.try_from.ensures in let k = c.in_err-point.ensures in grind arith in
    rw c.from_residual.ensures (record {
      found = sym (rows_past c.args.self.now c.args.point past);
      same = rows_same c.args.self.now _ refl;
      counted = refl;
    })

pub returns : goal.returns
returns c = record {
  found =
      c.find.ensures (entries_of c.args.self.now) (subst (λ w. DeltaMeans w (entries_of c.args.self.now)) (sym c.as_slice.ensures.value) (entries_mean c.args.self.now))
      ∙ ap (λ p. rows_of c.args.self.now p) (let h = c.try_from.ensures in let k = c.in_ok-point.ensures in let z : c.in_ok-point.point ≡ c.args.point = grind arith in z);
  same = rows_same c.args.self.now _ refl;
  counted = refl;
}
