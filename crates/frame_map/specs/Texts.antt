-- The line that shows an entry.
use Rattle.std.specs.Prelude.{ℕ, ◌+◌, ◌/◌, ◌%◌, cond, List, [], ◌∷◌, ◌++◌, codes, decimal, ◌==◌, nat_lt, slice_index}
use Rattle.frame_map.specs.declared.row.Entry.{Entry}
use Rattle.frame_map.specs.declared.show.Slots.{Slots}

-- a hexadecimal digit, in lower case
abbrev pub digit : ℕ → ℕ
digit d = cond (nat_lt d 10) (48 + d) (87 + d)

-- two digits of a byte
unfoldable pub byte_text : ℕ → List ℕ
byte_text x = digit (x / 16 % 16) ∷ digit (x % 16) ∷ []

-- a word in eight digits
unfoldable pub eight_digits : ℕ → List ℕ
eight_digits x = byte_text (x / 16777216 % 256) ++ (byte_text (x / 65536 % 256) ++ (byte_text (x / 256 % 256) ++ byte_text (x % 256)))

-- a saved slot, or - for none, behind a space
abbrev pub slot_word : ℕ → List ℕ
slot_word s = cond (s == 0) (codes " -") (codes " " ++ decimal s)

-- the saved slots of r8 to r15, put behind one another
unfoldable pub saved_text : List ℕ → List ℕ
saved_text xs =
    slot_word (slice_index xs 0) ++ (slot_word (slice_index xs 1) ++ (slot_word (slice_index xs 2) ++ (slot_word (slice_index xs 3)
    ++ (slot_word (slice_index xs 4) ++ (slot_word (slice_index xs 5) ++ (slot_word (slice_index xs 6) ++ slot_word (slice_index xs 7)))))))

abbrev pub slots_text : Slots → List ℕ
slots_text s = saved_text s.0

-- the masks of a row
unfoldable pub three_masks : ℕ → ℕ → ℕ → List ℕ
three_masks slots registers untouched =
    codes "slots 0x" ++ (eight_digits slots
    ++ (codes " registers 0x" ++ (byte_text (registers / 256) ++ (byte_text (registers % 256)
    ++ (codes " untouched 0x" ++ byte_text untouched)))))

-- the line of an entry
abbrev pub entry_text : Entry → List ℕ
entry_text e =
    codes "point " ++ (decimal e.point
    ++ (codes " size " ++ (decimal e.row.size
    ++ (codes " " ++ (three_masks e.row.slots e.row.registers e.row.untouched
    ++ (codes " saved" ++ saved_text e.row.saved))))))
