-- How the reader goes through the bytes of a row, field by field. No promise to a caller rests on this.
use Rattle.std.specs.Prelude.{ℕ, zero, suc, ◌+◌, ◌-◌, ◌*◌, ◌/◌, ◌%◌, ◌^◌, Bool, true, false, cond, not, List, [], ◌∷◌, Some, None, Option, ◌==◌, nat_le, nat_lt, slice_index, slice_set}
use Rattle.frame_map.specs.declared.row.Entry.{Entry}
use Rattle.frame_map.specs.declared.row.Row.{Row}

-- a value that was read with the bytes behind it, or nothing
abbrev pub Parsed : Type 0 → Type 0
Parsed A = Option (A × List ℕ)

-- a value with the bytes behind it
abbrev pub with_rest : {A : Type 0} → Option A → List ℕ → Parsed A
with_rest None r = None
with_rest (Some y) r = Some (y, r)

-- what is read goes on
abbrev pub and_then : {A B : Type 0} → Parsed A → (A → List ℕ → Parsed B) → Parsed B
and_then None f = None
and_then (Some p) f = f p.0 p.1

-- what is read passes a test
abbrev pub only_if : {A : Type 0} → Bool → Option A → Option A
only_if true o = o
only_if false o = None

-- bit i of a byte
abbrev pub stands : ℕ → ℕ → Bool
stands m i = m / 2 ^ i % 2 == 1

abbrev pub byte_in : List ℕ → Parsed ℕ
byte_in [] = None
byte_in (b ∷ bs) = only_if (nat_lt b 256) (Some (b, bs))

-- a number of n bytes
unfoldable pub number_in : ℕ → List ℕ → Parsed ℕ
number_in zero bs = Some (0, bs)
number_in (suc n) bs = and_then (byte_in bs) (λ b r. and_then (number_in n r) (λ v q. Some (b + 256 * v, q)))

-- a field of n bytes that was x: its new value, or the old one where nothing stands
unfoldable pub changed_in : ℕ → Bool → ℕ → List ℕ → Parsed ℕ
changed_in n false x bs = Some (x, bs)
changed_in n true x bs = and_then (number_in n bs) (λ y r. only_if (not (x == y)) (Some (y, r)))

-- the step, in two bytes or one
unfoldable pub step_in : Bool → List ℕ → Parsed ℕ
step_in false bs = and_then (number_in 1 bs) (λ s r. only_if (nat_lt 0 s) (Some (s, r)))
step_in true bs = and_then (number_in 2 bs) (λ s r. only_if (nat_lt 255 s) (Some (s, r)))

-- x and the signed byte d
abbrev pub shifted : ℕ → ℕ → Option ℕ
shifted x d = cond (nat_lt d 128) (only_if (nat_lt (x + d) 256) (Some (x + d))) (only_if (nat_le 256 (x + d)) (Some (x + d - 256)))

-- the size, which was x
unfoldable pub size_in : Bool → ℕ → List ℕ → Parsed ℕ
size_in false x bs = Some (x, bs)
size_in true x bs = and_then (byte_in bs) (λ d r. only_if (not (d == 0)) (with_rest (shifted x d) r))

-- the saved slot of r(8 + k)
unfoldable pub slot_in : Bool → ℕ → List ℕ → List ℕ → Parsed (List ℕ)
slot_in false k xs bs = Some (xs, bs)
slot_in true k xs bs = and_then (byte_in bs) (λ y r. only_if (not (slice_index xs k == y)) (Some (slice_set xs k y, r)))

-- the saved slots of r8 to r(7 + n)
unfoldable pub slots_in : ℕ → List ℕ → ℕ → List ℕ → Parsed (List ℕ)
slots_in m xs zero bs = Some (xs, bs)
slots_in m xs (suc n) bs = and_then (slots_in m xs n bs) (λ ys r. slot_in (stands m n) n ys r)

unfoldable pub saved_in : Bool → List ℕ → List ℕ → Parsed (List ℕ)
saved_in false xs bs = Some (xs, bs)
saved_in true xs bs = and_then (byte_in bs) (λ m r. only_if (not (m == 0)) (slots_in m xs 8 r))

-- the fields of a row, by the bits of f
unfoldable pub row_in : ℕ → Row → List ℕ → Parsed Row
row_in f b bs =
    and_then (size_in (stands f 0) b.size bs) (λ z r₁.
    and_then (changed_in 4 (stands f 1) b.slots r₁) (λ s r₂.
    and_then (changed_in 2 (stands f 2) b.registers r₂) (λ g r₃.
    and_then (changed_in 1 (stands f 3) b.untouched r₃) (λ u r₄.
    and_then (saved_in (stands f 4) b.saved r₄) (λ v r₅.
    Some (record { size = z; slots = s; saved = v; registers = g; untouched = u }, r₅))))))

-- the point and the row behind the bit map byte f
unfoldable pub fields_in : ℕ → Entry → List ℕ → Parsed Entry
fields_in f b bs =
    and_then (step_in (stands f 5) bs) (λ s r₁.
    only_if (nat_lt (b.point + s) 65536)
    (and_then (row_in f b.row r₁) (λ w r₂. Some (record { point = b.point + s; row = w }, r₂))))

unfoldable pub entry_in : Entry → List ℕ → Parsed Entry
entry_in b bs = and_then (byte_in bs) (λ f r. only_if (nat_lt f 64) (fields_in f b r))
