-- What the writer's methods do.
use Rattle.std.specs.Prelude.{◌≡◌, ℕ, ◌+◌, ◌<◌, ◌≤◌, List, ◌++◌, length, take, drop}
use Rattle.delta_writer.specs.declared.RowCode.{RowCode}

-- the bytes that are made
abbrev pub made : RowCode → List ℕ
made c = c.bytes.items

-- the bytes xs are added
abbrev pub Added : List ℕ → RowCode → RowCode → Type 0
Added xs s t = made t ≡ made s ++ xs

-- the bytes xs stand in the buffer from place i on, up to place j; all others are as they were
pub record Wrote (xs : List ℕ) (i : ℕ) (before : List ℕ) (after : List ℕ) (j : ℕ) : Type 0 where
  pub fits : i + length xs ≤ length before
  pub end : j ≡ i + length xs
  pub stands : after ≡ take i before ++ (xs ++ drop (i + length xs) before)

-- the bytes xs do not fit into the buffer from place i on, and nothing is written
pub record Unwritten (xs : List ℕ) (i : ℕ) (before : List ℕ) (after : List ℕ) : Type 0 where
  pub short : length before < i + length xs
  pub same : after ≡ before
