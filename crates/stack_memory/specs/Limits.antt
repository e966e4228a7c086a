-- What a memory may be made of.
use Rattle.std.specs.Prelude.{◌≡◌, ℕ, ◌/◌, ◌%◌, ◌≤◌, List, length}
use Rattle.stack_memory.specs.Snapshots.{map_length}

-- how many words a memory may have
pub record CountFits (count : ℕ) : Type 0 where
  pub some : 1 ≤ count
  pub few : count ≤ 8192

-- an image of whole words, as many as a memory may have
pub record ImageFits (image : List ℕ) : Type 0 where
  pub whole : length image % 4 ≡ 0
  pub fitting : CountFits (length image / 4)

-- a buffer and a bit map that serve an image
pub record BuffersFit (image buffer bits : List ℕ) : Type 0 where
  pub roomy : length image / 4 ≤ length buffer
  pub mapped : map_length (length image / 4) ≤ length bits
