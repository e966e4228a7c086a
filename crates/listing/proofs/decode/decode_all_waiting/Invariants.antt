use Rattle.std.proofs.Common.{◌≡◌, ◌-◌, ◌≤◌}
use Rattle.frames.specs.Learning.{SameButRecords}
use Rattle.frames.specs.Models.{Model}
use Rattle.frames.specs.Standing.{Stands}
use Rattle.frames.specs.Tables.{records}
use Rattle.frames.specs.Views.{after}
use Rattle.listing.proofs.Loops.{Learned}
use Rattle.listing.proofs.decode.decode_all_waiting.Given as goal

abbrev pub invariant-loop-frame : goal.invariant-loop-frame
invariant-loop-frame g l =
    (g.M.FrameMap.rows l.map ≡ g.M.FrameMap.rows l.initial.map)
    × SameButRecords l.fn.state l.state
    × ((s : Model) → Stands (g.M.FrameMap.rows l.initial.map) (g.S.StackMemory.words l.initial.memory) l.fn.state s → l.from ≤ s.level →
    Learned (g.M.FrameMap.rows l.initial.map) (records l.state.records) s l.frame l.held × (g.M.FrameMap.count l.map ≡ after (g.M.FrameMap.count l.initial.map) (l.frame - l.from)))
