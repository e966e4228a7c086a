-- What a delta image holds, place by place, and which of its starts and rows is the first bad one.
use Rattle.std.specs.Prelude.{◌≡◌, ℕ, zero, suc, ◌+◌, ◌*◌, ◌<◌, ◌≤◌, List, [], ◌∷◌, ◌++◌, length, ◌≢◌, slice_index, slice_range}
use Rattle.frame_map.specs.Maps.{Point}
use Rattle.frame_map.specs.Rows.{Lawful}
use Rattle.frame_map.specs.Tables.{entry_at}
use Rattle.frame_map.specs.declared.row.Entry.{Entry}
use Rattle.delta_layout.specs.Codes.{origin, codes}
use Rattle.delta_image.specs.Buckets.{bucket_of}

-- start k, as it stands in an image
abbrev pub start_in : List ℕ → ℕ → ℕ
start_in image k = slice_index image (2 * k) + slice_index image (2 * k + 1) * 256

-- the bytes of an image from one place up to another
abbrev pub stretch : List ℕ → ℕ → ℕ → List ℕ
stretch image from to = slice_range image from to

-- the first n starts keep the rules: start 0 is 130, starts never fall, and start 64 is the image's length
pub record GoodStarts (image : List ℕ) (n : ℕ) : Type 0 where
  pub whole : 2 * n ≤ length image
  pub first : 0 < n → start_in image 0 ≡ 130
  pub rise : (k : ℕ) → suc k < n → start_in image k ≤ start_in image (suc k)
  pub last : 64 < n → start_in image 64 ≡ length image

-- lawful rows of bucket b, at points that rise strictly
pub record Bucket (b : ℕ) (es : List Entry) : Type 0 where
  pub lawful : (i : ℕ) → i < length es → Lawful (entry_at es i).row
  pub points : (i : ℕ) → i < length es → Point (entry_at es i).point
  pub rises : (i j : ℕ) → i < j → j < length es → (entry_at es i).point < (entry_at es j).point
  pub belongs : (i : ℕ) → i < length es → bucket_of (entry_at es i).point ≡ b

-- how many rows the first n of these buckets have
unfoldable pub rows_in : (ℕ → List Entry) → ℕ → ℕ
rows_in bs zero = 0
rows_in bs (suc n) = rows_in bs n + length (bs n)

-- n good rows: those of all buckets before b, and those of bucket b up to the byte `at`
pub record GoodFront (image : List ℕ) (b at n : ℕ) : Type 0 where
  pub starts : GoodStarts image 65
  pub done : ℕ → List Entry
  pub buckets : (k : ℕ) → k < b → Bucket k (done k)
  pub laid : (k : ℕ) → k < b → codes origin (done k) ≡ stretch image (start_in image k) (start_in image (suc k))
  pub part : List Entry
  pub bucket : Bucket b part
  pub behind : start_in image b ≤ at
  pub read : codes origin part ≡ stretch image (start_in image b) at
  pub many : rows_in done b + length part ≡ n
  pub few : n ≤ 1024

-- row n, which begins at the byte `at`, is the first bad one: n good rows lie before it, its bucket goes on,
-- and no entry laid out there makes one good row more
pub record BadRow (image : List ℕ) (n at : ℕ) : Type 0 where
  pub place : ℕ
  pub inside : place < 64
  pub front : GoodFront image place at n
  pub follows : at < start_in image (suc place)
  pub bad : (e : Entry) (q : List ℕ) → n < 1024 → Bucket place (front.part ++ e ∷ []) → codes origin (front.part ++ e ∷ []) ++ q ≢ stretch image (start_in image place) (start_in image (suc place))

-- start k is the first bad one
pub record BadStart (image : List ℕ) (k : ℕ) : Type 0 where
  pub inside : k < 65
  pub before : GoodStarts image k
  pub bad : GoodStarts image (suc k) → ⊥
