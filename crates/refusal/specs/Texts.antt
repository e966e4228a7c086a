-- What is printed of each reason.
use Rattle.std.specs.Prelude.{ℕ, List, ◌++◌, Some, None, codes, decimal, Option}
use Rattle.refusal.specs.declared.Place.{Place}
use Rattle.refusal.specs.declared.Place.TheVariants.{Word, Byte}
use Rattle.refusal.specs.declared.ImageFault.{ImageFault}
use Rattle.refusal.specs.Numbers.{number_of}
use Rattle.refusal.specs.declared.Refusal.{Refusal}
use Rattle.refusal.specs.declared.Refused.{Refused}
use Rattle.refusal.specs.declared.Refusal.TheVariants.{WrongPhase, OutsideLimits, BadImage, NoObject, OutOfRange, BadBuffer, NoRoom, NoRow, OtherSize, NothingThere, HandlerStands, NotPointer, HeapFull}

abbrev pub place_text : Place → List ℕ
place_text (Word n) = codes "word " ++ decimal n
place_text (Byte n) = codes "byte " ++ decimal n

abbrev pub fault_text : ImageFault → List ℕ
fault_text f = codes "image fault at row " ++ (decimal f.row ++ (codes ", " ++ place_text f.place))

abbrev pub root_text : Option ℕ → List ℕ
root_text None = codes "not a pointer"
root_text (Some c) = codes "not a pointer, in root " ++ decimal c

abbrev pub text_of : Refusal → List ℕ
text_of WrongPhase = codes "the machine is in another phase, or already started"
text_of OutsideLimits = codes "outside the limits"
text_of (BadImage f) = fault_text f
text_of NoObject = codes "no object there"
text_of OutOfRange = codes "out of range"
text_of BadBuffer = codes "a buffer is too short, or two are unequal"
text_of NoRoom = codes "no room on the stack, or too many frames or handlers"
text_of NoRow = codes "the point has no row"
text_of OtherSize = codes "the row describes a frame of another size"
text_of NothingThere = codes "nothing to leave, raise to or untry"
text_of HandlerStands = codes "a handler of the running frame still stands"
text_of (NotPointer r) = root_text r
text_of HeapFull = codes "the heap is full"

-- a refusal in a line: its number, and its reason in words
abbrev pub refusal_line : Refusal → List ℕ
refusal_line e = codes "refused " ++ (decimal (number_of e) ++ (codes ": " ++ text_of e))

abbrev pub refused_text : Refused → List ℕ
refused_text r = refusal_line r.0
