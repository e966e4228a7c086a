use Rattle.std.proofs.Common.{take}
use Rattle.std.specs.Fmt.{HasWritten, IsPlainFormatter}
use Rattle.std.specs.List.{flat_map}
use Rattle.frame_map.specs.Texts.{slot_word}
use Rattle.frame_map.proofs.show.SlotsDisplay.fmt.Given as goal

-- the slots so far are written
abbrev pub invariant-loop-slot : goal.invariant-loop-slot
invariant-loop-slot g l = IsPlainFormatter l.initial.f → HasWritten g.W.Write.write_str_gives l.initial.f (flat_map slot_word (take l.slot-index l.self.0)) l.f
