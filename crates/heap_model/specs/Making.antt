-- An object more in a space.
use Rattle.std.specs.Prelude.{◌≡◌, ℕ, ◌+◌, ◌*◌, ◌<◌, ◌⊎◌, slice_index}
use Rattle.heap_model.specs.Objects.{Space, Place, header, field}

-- t is s with one object more, at place p behind the others, all its fields 0
pub record Made (s t : Space) (refs plain p : ℕ) : Type 0 where
  pub place : p ≡ s.used + 1
  pub used : t.used ≡ s.used + (1 + (refs + plain))
  pub counts : header t p ≡ refs * 65536 + plain
  pub fields : (j : ℕ) → j < refs + plain → field t p j ≡ 0
  pub new : Place t p
  -- the objects that were there, and their words
  pub old : (w : ℕ) → Place s w → Place t w
  pub only : (w : ℕ) → Place t w → Place s w ⊎ (w ≡ p)
  pub same : (i : ℕ) → i < s.used → slice_index t.words i ≡ slice_index s.words i
