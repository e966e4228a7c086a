use Rattle.std.proofs.Common.{refl, ap}
use lib.Bits.{bit_or}
use Rattle.scan.proofs.MaskLaws.{steps}
use Rattle.scan.proofs.scan_frame.Goals as goal

pub returns : goal.returns
returns c l = steps c.args.row.now c.args.held _ _ (ap (λ m. bit_or c.args.row.now.slots m) (c.saved_roots.ensures l)) refl
