-- What the calls of a memory promise, over the list of words that the memory means.
use Rattle.std.specs.Prelude.{◌≡◌, ℕ, ◌<◌, ◌≤◌, List, length, slice_index, slice_set}
use Rattle.refusal.specs.declared.Refusal.{Refusal}
use Rattle.refusal.specs.declared.Refusal.TheVariants.{OutOfRange}

-- a read of word `index` found w
pub record Found (words : List ℕ) (index w : ℕ) : Type 0 where
  pub inside : index < length words
  pub word : w ≡ slice_index words index

-- a write of w changed word `index` and no other
pub record Changed (words : List ℕ) (index w : ℕ) (after : List ℕ) : Type 0 where
  pub inside : index < length words
  pub words_after : after ≡ slice_set words index w

-- a read found no word `index`: reason 5
pub record NoWord (words : List ℕ) (index : ℕ) (why : Refusal) : Type 0 where
  pub past : length words ≤ index
  pub reason : why ≡ OutOfRange

-- a write found no word `index`: reason 5, and the words stay as they are
pub record Unchanged (words : List ℕ) (index : ℕ) (why : Refusal) (after : List ℕ) : Type 0 where
  pub past : length words ≤ index
  pub reason : why ≡ OutOfRange
  pub words_after : after ≡ words
