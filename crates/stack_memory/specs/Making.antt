-- What making a memory promises.
use Rattle.std.specs.Prelude.{◌≡◌, ℕ, ◌/◌, ◌⊎◌, List, ◌++◌, length, drop, replicate, vec_items}
use Rattle.refusal.specs.declared.Refusal.{Refusal}
use Rattle.refusal.specs.declared.Refusal.TheVariants.{OutsideLimits, BadBuffer}
use Rattle.words.specs.Bytes.{words_of}
use Rattle.stack_memory.specs.declared.live.LiveMemory.{LiveMemory}
use Rattle.stack_memory.specs.declared.snapshot.SnapshotMemory.{SnapshotMemory}
use Rattle.stack_memory.specs.Limits.{CountFits, ImageFits, BuffersFit}
use Rattle.stack_memory.specs.Meaning.{live_words, snapshot_words}
use Rattle.stack_memory.specs.Snapshots.{map_length}

-- a live memory of these words, which are as many as a memory may have
pub record MadeLive (words : List ℕ) (m : LiveMemory) : Type 0 where
  pub fitting : CountFits (length words)
  pub means : live_words m ≡ words

-- no live memory: reason 2
pub record NoLive (words : List ℕ) (why : Refusal) : Type 0 where
  pub outside : CountFits (length words) → ⊥
  pub reason : why ≡ OutsideLimits

-- a snapshot of the image's words, with none written: the bit map is cleared as far as it serves, and all else is as given
pub record MadeSnapshot (image buffer bits : List ℕ) (m : SnapshotMemory) : Type 0 where
  pub imaging : ImageFits image
  pub serving : BuffersFit image buffer bits
  pub means : snapshot_words m ≡ words_of image
  pub image_kept : vec_items m.image ≡ image
  pub buffer_kept : vec_items m.buffer ≡ buffer
  pub bits_cleared : vec_items m.written ≡ replicate (map_length (length image / 4)) 0 ++ drop (map_length (length image / 4)) bits

-- no snapshot, since the image is no memory's: reason 2
pub record ImageUnfit (image : List ℕ) (why : Refusal) : Type 0 where
  pub outside : ImageFits image → ⊥
  pub reason : why ≡ OutsideLimits

-- no snapshot, since the image is a memory's and the buffer or the bit map is too short: reason 6
pub record BuffersShort (image buffer bits : List ℕ) (why : Refusal) : Type 0 where
  pub imaging : ImageFits image
  pub short : BuffersFit image buffer bits → ⊥
  pub reason : why ≡ BadBuffer

abbrev pub NoSnapshot : List ℕ → List ℕ → List ℕ → Refusal → Type 0
NoSnapshot image buffer bits why = ImageUnfit image why ⊎ BuffersShort image buffer bits why
