-- Where the search stops: the arm names the reason, and what was written is its text.
use Rattle.refusal.proofs.RefusalDisplay.fmt.Goals as goal

pub returns-in-OutOfRange-clause-writes : goal.returns-in-OutOfRange-clause-writes
returns-in-OutOfRange-clause-writes g c = rw c.in-OutOfRange.is c.write_str-in-OutOfRange.ensures.writes

pub returns-in-BadBuffer-clause-writes : goal.returns-in-BadBuffer-clause-writes
returns-in-BadBuffer-clause-writes g c = rw c.in-BadBuffer.is c.write_str-in-BadBuffer.ensures.writes

pub returns-in-NoRoom-clause-writes : goal.returns-in-NoRoom-clause-writes
returns-in-NoRoom-clause-writes g c = rw c.in-NoRoom.is c.write_str-in-NoRoom.ensures.writes

pub returns-in-OtherSize-clause-writes : goal.returns-in-OtherSize-clause-writes
returns-in-OtherSize-clause-writes g c = rw c.in-OtherSize.is c.write_str-in-OtherSize.ensures.writes

pub returns-in-NothingThere-clause-writes : goal.returns-in-NothingThere-clause-writes
returns-in-NothingThere-clause-writes g c = rw c.in-NothingThere.is c.write_str-in-NothingThere.ensures.writes

pub returns-in-HandlerStands-clause-writes : goal.returns-in-HandlerStands-clause-writes
returns-in-HandlerStands-clause-writes g c = rw c.in-HandlerStands.is c.write_str-in-HandlerStands.ensures.writes

pub returns-in-HeapFull-clause-writes : goal.returns-in-HeapFull-clause-writes
returns-in-HeapFull-clause-writes g c = rw c.in-HeapFull.is c.write_str-in-HeapFull.ensures.writes
