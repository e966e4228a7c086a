-- The number of each reason, and the values that it carries.
use Rattle.std.specs.Prelude.{ℕ, Some, None, Option}
use Rattle.refusal.specs.declared.ImageFault.{ImageFault}
use Rattle.refusal.specs.declared.Refusal.{Refusal}
use Rattle.refusal.specs.declared.Refusal.TheVariants.{WrongPhase, OutsideLimits, BadImage, NoObject, OutOfRange, BadBuffer, NoRoom, NoRow, OtherSize, NothingThere, HandlerStands, NotPointer, HeapFull}

abbrev pub number_of : Refusal → ℕ
number_of WrongPhase = 1
number_of OutsideLimits = 2
number_of (BadImage f) = 3
number_of NoObject = 4
number_of OutOfRange = 5
number_of BadBuffer = 6
number_of NoRoom = 7
number_of NoRow = 8
number_of OtherSize = 9
number_of NothingThere = 10
number_of HandlerStands = 11
number_of (NotPointer r) = 12
number_of HeapFull = 13

-- a bad image carries its fault
abbrev pub fault_of : Refusal → Option ImageFault
fault_of WrongPhase = None
fault_of OutsideLimits = None
fault_of (BadImage f) = Some f
fault_of NoObject = None
fault_of OutOfRange = None
fault_of BadBuffer = None
fault_of NoRoom = None
fault_of NoRow = None
fault_of OtherSize = None
fault_of NothingThere = None
fault_of HandlerStands = None
fault_of (NotPointer r) = None
fault_of HeapFull = None

-- a refused collection carries a root; a refused store carries none
abbrev pub root_of : Refusal → Option ℕ
root_of WrongPhase = None
root_of OutsideLimits = None
root_of (BadImage f) = None
root_of NoObject = None
root_of OutOfRange = None
root_of BadBuffer = None
root_of NoRoom = None
root_of NoRow = None
root_of OtherSize = None
root_of NothingThere = None
root_of HandlerStands = None
root_of (NotPointer r) = r
root_of HeapFull = None
