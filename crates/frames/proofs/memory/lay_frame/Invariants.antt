use Rattle.std.proofs.Common.{◌≡◌, ◌-◌, ◌≤◌, length}
use Rattle.frames.proofs.MemoryLaws.{zeroed}
use Rattle.frames.proofs.memory.lay_frame.Given as goal

abbrev pub invariant-loop-place : goal.invariant-loop-place
invariant-loop-place g l =
    l.place-end ≤ length (g.S.StackMemory.words l.initial.memory) →
    g.S.StackMemory.words l.memory ≡ zeroed (g.S.StackMemory.words l.initial.memory) l.start (l.place - l.start)
