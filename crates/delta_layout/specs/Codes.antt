-- How a row is coded against the row before it.
use Rattle.std.specs.Prelude.{ℕ, zero, suc, ◌+◌, ◌-◌, ◌%◌, ◌^◌, ◌<◌, Bool, cond, not, List, [], ◌∷◌, ◌++◌, replicate, ◌==◌, nat_lt, slice_index}
use Rattle.frame_map.specs.Rows.{Lawful}
use Rattle.frame_map.specs.declared.row.Entry.{Entry}
use Rattle.delta_layout.specs.Bytes.{bytes}

-- what the first row of a bucket is coded against: point 0, size 1 and zeros
abbrev pub origin : Entry
origin = record { point = 0; row = record { size = 1; slots = 0; saved = replicate 8 0; registers = 0; untouched = 0 } }

-- bit i of a byte, where a fact stands
abbrev pub flag : ℕ → Bool → ℕ
flag i b = cond b (2 ^ i) 0

-- a field of n bytes, only where it differs from the earlier row's
abbrev pub changed : ℕ → ℕ → ℕ → List ℕ
changed n x y = cond (x == y) [] (bytes n y)

-- the size difference as a signed byte: 256 stands for what is below 0
abbrev pub signed_difference : ℕ → ℕ → ℕ
signed_difference x y = (256 + y - x) % 256

-- the size difference, only where the sizes differ
abbrev pub resized : ℕ → ℕ → List ℕ
resized x y = cond (x == y) [] (signed_difference x y ∷ [])

-- the mask of those k below n for which a fact stands: bit k for k
unfoldable pub mask_of : (ℕ → Bool) → ℕ → ℕ
mask_of p zero = 0
mask_of p (suc n) = mask_of p n + flag n (p n)

-- the saved slot of r(8 + k) differs from xs to ys
abbrev pub moved : List ℕ → List ℕ → ℕ → Bool
moved xs ys k = not (slice_index xs k == slice_index ys k)

-- the callee-save registers whose saved slots differ: bit k for r(8 + k)
abbrev pub moved_mask : List ℕ → List ℕ → ℕ
moved_mask xs ys = mask_of (moved xs ys) 8

-- of r8 to r(7 + n) the new saved slots of those whose slots differ, a byte each, in rising register order
unfoldable pub moved_slots : List ℕ → List ℕ → ℕ → List ℕ
moved_slots xs ys zero = []
moved_slots xs ys (suc n) = moved_slots xs ys n ++ cond (moved xs ys n) (slice_index ys n ∷ []) []

-- the mask and the slots, only where some differ
abbrev pub resaved : List ℕ → List ℕ → List ℕ
resaved xs ys = cond (moved_mask xs ys == 0) [] (moved_mask xs ys ∷ moved_slots xs ys 8)

-- how far the point rose
abbrev pub step : Entry → Entry → ℕ
step b e = e.point - b.point

-- a step above 255 takes two bytes
abbrev pub wide : Entry → Entry → Bool
wide b e = nat_lt 255 (step b e)

-- the bytes of a step
abbrev pub step_code : ℕ → List ℕ
step_code n = cond (nat_lt 255 n) (bytes 2 n) (bytes 1 n)

-- the bit map byte: which fields differ, and whether the step takes two bytes
abbrev pub code_bits : Entry → Entry → ℕ
code_bits b e =
    flag 0 (not (b.row.size == e.row.size))
    + flag 1 (not (b.row.slots == e.row.slots))
    + flag 2 (not (b.row.registers == e.row.registers))
    + flag 3 (not (b.row.untouched == e.row.untouched))
    + flag 4 (not (moved_mask b.row.saved e.row.saved == 0))
    + flag 5 (wide b e)

-- a row e, coded against the row b before it
unfoldable pub code : Entry → Entry → List ℕ
code b e =
    code_bits b e ∷
    (step_code (step b e)
    ++ (resized b.row.size e.row.size
    ++ (changed 4 b.row.slots e.row.slots
    ++ (changed 2 b.row.registers e.row.registers
    ++ (changed 1 b.row.untouched e.row.untouched
    ++ resaved b.row.saved e.row.saved)))))

-- e may follow b: it is lawful, and its point lies above
pub record Next (b e : Entry) : Type 0 where
  pub lawful : Lawful e.row
  pub above : b.point < e.point
  pub fits : e.point < 2 ^ 16

-- rows one after another, the first against b
unfoldable pub codes : Entry → List Entry → List ℕ
codes b [] = []
codes b (e ∷ es) = code b e ++ codes e es

-- each row may follow the one before it, the first b
abbrev pub Chain : Entry → List Entry → Type 0
Chain b [] = Unit {0}
Chain b (e ∷ es) = Next b e × Chain e es

-- the last of the rows, or b where there is none
abbrev pub last_of : Entry → List Entry → Entry
last_of b [] = b
last_of b (e ∷ es) = last_of e es
