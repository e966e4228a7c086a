-- What a heap holds.
use Rattle.std.specs.Prelude.{ℕ, vec_len}
use Rattle.heap_model.specs.Objects.{Space}
use Rattle.heap.specs.declared.state.Heap.{Heap}
use Rattle.heap.specs.Buffers.{objects}

-- its objects
abbrev pub content : Heap → Space
content h = objects h.halves

-- how many words it has room for
abbrev pub room : Heap → ℕ
room h = vec_len h.halves.words
