-- What a frame map means, and what a lookup does.
use Rattle.std.specs.Prelude.{◌≡◌, ℕ, zero, suc, ◌+◌, ◌%◌, ◌^◌, ◌<◌, ◌≤◌, List, [], ◌∷◌, ◌++◌, Some, None, Option}
use Rattle.frame_map.specs.declared.row.Entry.{Entry}
use Rattle.frame_map.specs.declared.row.Row.{Row}

-- for each point no row or one
abbrev pub Rows : Type 0
Rows = ℕ → Option Row

-- a place in the script's code
abbrev pub Point : ℕ → Type 0
Point p = (1 ≤ p) × (p < 2 ^ 16)

-- a lookup of the word p answers its row, leaves the rows as they are and adds 1 to the count, modulo 2 ^ 32
pub record LookedUp (was is : Rows) (before after p : ℕ) (r : Option Row) : Type 0 where
  pub found : r ≡ was p
  pub same : is ≡ was
  pub counted : after ≡ (before + 1) % 2 ^ 32

-- the entry of a point, where it has one
abbrev pub entry_of : ℕ → Option Row → List Entry
entry_of p None = []
entry_of p (Some r) = record { point = p; row = r } ∷ []

-- the entries of all points below n, by rising point
unfoldable pub entries_below : Rows → ℕ → List Entry
entries_below rows zero = []
entries_below rows (suc n) = entries_below rows n ++ entry_of n (rows n)
