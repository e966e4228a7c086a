-- What a reader has left, and what its methods do.
use Rattle.std.specs.Prelude.{◌≡◌, ℕ, ◌+◌, List, ◌++◌, length, drop, Option, ◌≢◌}
use Rattle.frame_map.specs.Rows.{Lawful}
use Rattle.frame_map.specs.declared.row.Entry.{Entry}
use Rattle.delta_layout.specs.Codes.{code, Next}
use Rattle.delta_layout.specs.Parsing.{Parsed, with_rest}
use Rattle.delta_code.specs.declared.reader.Reader.{Reader}
use Rattle.delta_code.specs.declared.reader.ReaderFault.{ReaderFault}

-- the bytes that are left
abbrev pub rest : Reader → List ℕ
rest s = drop s.at s.image.now

-- what was read against b from the reader s is the next row: its code stood there, and t goes on behind it
pub record GotRow (b : Entry) (s t : Reader) (e : Entry) : Type 0 where
  pub follows : Next b e
  pub coded : rest s ≡ code b e ++ rest t
  pub image : t.image.now ≡ s.image.now
  pub place : t.at ≡ s.at + length (code b e)

-- no row that may follow the lawful row b stands there; the fault tells where, and t is where s was
pub record NoRow (b : Entry) (s t : Reader) (f : ReaderFault) : Type 0 where
  pub byte : f.byte ≡ s.at
  pub none : Lawful b.row → (e : Entry) (q : List ℕ) → Next b e → rest s ≢ code b e ++ q
  pub image : t.image.now ≡ s.image.now
  pub place : t.at ≡ s.at

-- a method that reads what p reads answers o, and goes on from s to t
pub record Took {A : Type 0} (p : List ℕ → Parsed A) (o : Option A) (s t : Reader) : Type 0 where
  pub same : t.image.now ≡ s.image.now
  pub far : t.at + length (rest t) ≡ s.at + length (rest s)
  pub ran : p (rest s) ≡ with_rest o (rest t)
