-- What a write does to the image, the buffer and the bit map of a snapshot.
use Rattle.std.specs.Prelude.{◌≡◌, ℕ, vec_items, slice_set}
use Rattle.stack_memory.specs.declared.snapshot.SnapshotMemory.{SnapshotMemory}
use Rattle.stack_memory.specs.Snapshots.{with_bit}

-- the image stays, the buffer takes the word, and the bit map takes its bit
pub record Stored (before : SnapshotMemory) (index w : ℕ) (after : SnapshotMemory) : Type 0 where
  pub image_kept : vec_items after.image ≡ vec_items before.image
  pub word_put : vec_items after.buffer ≡ slice_set (vec_items before.buffer) index w
  pub bit_put : vec_items after.written ≡ with_bit (vec_items before.written) index

-- all three stay
pub record Kept (before after : SnapshotMemory) : Type 0 where
  pub image_kept : vec_items after.image ≡ vec_items before.image
  pub words_kept : vec_items after.buffer ≡ vec_items before.buffer
  pub bits_kept : vec_items after.written ≡ vec_items before.written
