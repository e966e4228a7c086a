use Rattle.std.proofs.Common.{◌≡◌, ◌+◌, ◌%◌, ◌^◌, vec_items}
use Rattle.frame_map.specs.Maps.{entries_below}
use Rattle.frame_map.proofs.map.entries.Given as goal

abbrev pub invariant-loop-point : goal.invariant-loop-point
invariant-loop-point g l =
    (g.M.FrameMap.rows l.map ≡ g.M.FrameMap.rows l.initial.map)
    × (vec_items l.found ≡ entries_below (g.M.FrameMap.rows l.initial.map) l.point)
    × (g.M.FrameMap.count l.map ≡ (g.M.FrameMap.count l.initial.map + l.point) % 2 ^ 32)
