-- What is left of a bucket while its rows are read.
use Rattle.std.specs.Prelude.{◌≡◌, ℕ, suc, ◌<◌, ◌≤◌, List, ◌++◌, length, take, ◌≢◌}
use Rattle.frame_map.specs.Rows.{Lawful}
use Rattle.frame_map.specs.declared.row.Entry.{Entry}
use Rattle.delta_layout.specs.Codes.{code, Next}
use Rattle.delta_code.specs.declared.reader.ReaderFault.{ReaderFault}
use Rattle.delta_image.specs.Images.{start_in, stretch}
use Rattle.delta_map.specs.declared.rows.BucketRows.{BucketRows}

-- the reader stands in bucket b of the image w
pub record Left (w : List ℕ) (b : ℕ) (s : BucketRows) : Type 0 where
  pub whole : start_in w (suc b) ≤ length w
  pub cut : s.reader.image.now ≡ take (start_in w (suc b)) w
  pub inside : s.reader.at ≤ start_in w (suc b)

-- the row e was read from s: its code stood there, and t goes on behind it
pub record Read (w : List ℕ) (b : ℕ) (s t : BucketRows) (e : Entry) : Type 0 where
  pub follows : Next s.before e
  pub coded : stretch w s.reader.at (start_in w (suc b)) ≡ code s.before e ++ stretch w t.reader.at (start_in w (suc b))
  pub before : t.before ≡ e
  pub further : s.reader.at < t.reader.at
  pub left : Left w b t

-- bytes are left, but no row that may follow stands there; the fault tells where
pub record Unread (w : List ℕ) (b : ℕ) (s : BucketRows) (f : ReaderFault) : Type 0 where
  pub byte : f.byte ≡ s.reader.at
  pub goes : s.reader.at < start_in w (suc b)
  pub none : Lawful s.before.row → (e : Entry) (q : List ℕ) → Next s.before e → stretch w s.reader.at (start_in w (suc b)) ≢ code s.before e ++ q
