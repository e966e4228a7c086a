-- How the rows of a table are laid out as a delta image.
use Rattle.std.specs.Prelude.{◌≡◌, ℕ, zero, suc, ◌+◌, ◌*◌, ◌/◌, ◌%◌, cond, List, [], ◌∷◌, ◌++◌, length, ◌==◌}
use Rattle.frame_map.specs.Tables.{Table}
use Rattle.frame_map.specs.declared.row.Entry.{Entry}
use Rattle.delta_layout.specs.Bytes.{bytes}
use Rattle.delta_layout.specs.Codes.{origin, codes}

-- the bucket of a point, one of 64
abbrev pub bucket_of : ℕ → ℕ
bucket_of p = p * 40503 % 65536 / 1024

-- the entries of bucket b, in their order
unfoldable pub in_bucket : ℕ → List Entry → List Entry
in_bucket b [] = []
in_bucket b (e ∷ es) = cond (bucket_of e.point == b) (e ∷ in_bucket b es) (in_bucket b es)

-- the rows of the first n buckets, bucket after bucket; the first row of each is coded against the origin
unfoldable pub body : List Entry → ℕ → List ℕ
body es zero = []
body es (suc n) = body es n ++ codes origin (in_bucket n es)

-- where the rows of bucket b begin: behind 65 starts of two bytes and the earlier buckets
abbrev pub start : List Entry → ℕ → ℕ
start es b = 130 + length (body es b)

-- the first n starts, two bytes each
unfoldable pub starts : List Entry → ℕ → List ℕ
starts es zero = []
starts es (suc n) = starts es n ++ bytes 2 (start es n)

-- the image: 65 starts, the last of which is the image's length, and the rows of 64 buckets
unfoldable pub delta_bytes : List Entry → List ℕ
delta_bytes es = starts es 65 ++ body es 64

-- the image is that of a table
pub record DeltaMeans (image : List ℕ) (es : List Entry) : Type 0 where
  pub table : Table es
  pub laid : delta_bytes es ≡ image
