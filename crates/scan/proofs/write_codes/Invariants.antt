use Rattle.scan.specs.Masks.{codes}
use Rattle.scan.specs.Writing.{Wrote}
use Rattle.scan.proofs.write_codes.Given as goal

-- the codes of the bits below i are written
abbrev pub invariant-loop-i : goal.invariant-loop-i
invariant-loop-i l = Wrote (codes l.base l.mask l.i) l.at l.initial.out l.out l.place
