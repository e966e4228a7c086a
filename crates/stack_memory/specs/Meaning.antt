-- The words that each memory means.
use Rattle.std.specs.Prelude.{ℕ, List, vec_items}
use Rattle.stack_memory.specs.declared.live.LiveMemory.{LiveMemory}
use Rattle.stack_memory.specs.declared.snapshot.SnapshotMemory.{SnapshotMemory}
use Rattle.stack_memory.specs.Snapshots.{words_now}

-- a live memory means the words that it owns
abbrev pub live_words : LiveMemory → List ℕ
live_words m = vec_items m.cells

-- a snapshot means its image's words, but for those that were written
abbrev pub snapshot_words : SnapshotMemory → List ℕ
snapshot_words m = words_now (vec_items m.image) (vec_items m.buffer) (vec_items m.written)
