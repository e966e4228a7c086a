-- What the refusal of a delta image tells.
use Rattle.std.specs.Prelude.{◌≡◌, ℕ, ◌*◌, ◌⊎◌, List, length}
use Rattle.frame_map.specs.declared.row.Entry.{Entry}
use Rattle.refusal.specs.declared.ImageFault.{ImageFault}
use Rattle.refusal.specs.declared.Place.TheVariants.{Byte}
use Rattle.refusal.specs.declared.Refusal.{Refusal}
use Rattle.refusal.specs.declared.Refusal.TheVariants.{BadImage}
use Rattle.delta_image.specs.Buckets.{DeltaMeans}
use Rattle.delta_image.specs.Images.{BadStart, BadRow}

-- row n, which begins at byte k; a bad start is told at row 0
abbrev pub delta_fault : ℕ → ℕ → ImageFault
delta_fault n k = record { row = n; place = Byte k }

-- start k is the first bad one, and its first byte is told at row 0
pub record StartFault (image : List ℕ) (row byte : ℕ) : Type 0 where
  pub index : ℕ
  pub bad : BadStart image index
  pub row_none : row ≡ 0
  pub byte_is : byte ≡ 2 * index

-- the image is that of no table; the refusal tells the first bad start, or where all starts are good the first bad row
pub record RefusedDelta (image : List ℕ) (e : Refusal) : Type 0 where
  pub row : ℕ
  pub byte : ℕ
  pub tells : e ≡ BadImage (delta_fault row byte)
  pub first : StartFault image row byte ⊎ BadRow image row byte
  pub none : (es : List Entry) → DeltaMeans image es → ⊥

-- the image is that of a table of n rows
pub record HasDeltaRows (image : List ℕ) (n : ℕ) : Type 0 where
  pub entries : List Entry
  pub many : length entries ≡ n
  pub means : DeltaMeans image entries
