use Rattle.std.proofs.Common.{◌++◌, length, ap, arith}
use Rattle.std.proofs.lemmas.List.{append_assoc, length-append}
use Rattle.delta_layout.specs.Codes.{code}
use Rattle.delta_layout.proofs.CodeLaws.{step-length, resized-length, changed-length}
use Rattle.delta_writer.proofs.RowCode.new.Goals as goal

pub returns : goal.returns
unfolding code
returns c =
    simp (
      c.resaved.ensures,
      c.changed-3.ensures,
      c.changed-2.ensures,
      c.changed.ensures,
      c.resized.ensures,
      c.stepped.ensures,
      c.push.ensures,
      c.bit_map.ensures,
      c.from.ensures,
      c.from-2.ensures,
      c.from-3.ensures,
      c.from-4.ensures,
      c.saturating_sub.ensures,
      append_assoc,
    )
    (ap (λ l. l ++ code c.args.before.now c.args.entry.now) c.new.ensures)

pub resaved-requires : goal.resaved-requires
resaved-requires c =
    let row = c.args.entry.now.row in
    let was = c.args.before.now.row in
    omega (
      arith,
      ap length c.new.ensures,
      simp length-append at (ap length c.push.ensures),
      simp length-append at (ap length c.stepped.ensures),
      step-length c.saturating_sub.result,
      simp length-append at (ap length c.resized.ensures),
      resized-length was.size row.size,
      simp length-append at (ap length c.changed.ensures),
      changed-length 4 was.slots row.slots,
      simp length-append at (ap length c.changed-2.ensures),
      changed-length 2 c.from.result c.from-2.result,
      simp length-append at (ap length c.changed-3.ensures),
      changed-length 1 c.from-3.result c.from-4.result,
    )
