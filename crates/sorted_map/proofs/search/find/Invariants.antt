use Rattle.std.proofs.Common.{ℕ, ◌-◌, ◌<◌, ◌≤◌, [], length, get_or}
use Rattle.sorted_map.proofs.SearchLaws.{point_of}
use Rattle.sorted_map.proofs.search.find.Given as goal

-- the point lies in no row before the stretch and in none behind it
abbrev pub invariant-loop-low : goal.invariant-loop-low
invariant-loop-low l =
    (l.high ≤ length l.rows) × (l.low ≤ l.high)
    × ((j : ℕ) → j < l.low → point_of (get_or l.rows j []) < l.point)
    × ((j : ℕ) → l.high ≤ j → j < length l.rows → l.point < point_of (get_or l.rows j []))

abbrev pub decreases-loop-low : goal.decreases-loop-low
decreases-loop-low l = l.high - l.low
