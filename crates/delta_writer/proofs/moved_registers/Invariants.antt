use Rattle.std.proofs.Common.{◌≡◌, length}
use Rattle.delta_layout.specs.Codes.{mask_of, moved}
use Rattle.delta_writer.proofs.moved_registers.Given as goal

abbrev pub invariant-loop-k : goal.invariant-loop-k
invariant-loop-k l = l.mask ≡ mask_of (moved l.was l.saved) (length l.yielded)
