use Rattle.std.proofs.Common.{◌≡◌, ◌≤◌}
use Rattle.sorted_map.specs.Checking.{point_before}
use Rattle.sorted_map.specs.Layout.{GoodRows}
use Rattle.sorted_map.proofs.check.check_sorted.Given as goal

-- the rows so far are good, and the last of them is known
abbrev pub invariant-loop-i : goal.invariant-loop-i
invariant-loop-i l = GoodRows l.image l.i × (l.last ≡ point_before l.image l.i) × (l.i ≤ 1024)
