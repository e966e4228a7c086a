-- What the buffers of a heap hold.
use Rattle.std.specs.Prelude.{vec_items}
use Rattle.heap_model.specs.Objects.{Space, space}
use Rattle.heap_model.specs.Moving.{Buffers, buffers}
use Rattle.heap.specs.declared.halves.Halves.{Halves}

-- the objects, between two copies
abbrev pub objects : Halves → Space
objects h = space (vec_items h.words) (vec_items h.starts) h.used

-- a copy in progress, from `words` to `idle`
abbrev pub moving : Halves → Buffers
moving h = buffers (vec_items h.words) (space (vec_items h.idle) (vec_items h.starts) h.used)

-- a copy that begins
abbrev pub begun : Halves → Buffers
begun h = buffers (vec_items h.words) (space (vec_items h.idle) (vec_items h.starts) 0)

-- a copy that is over, with the halves exchanged
abbrev pub moved : Halves → Buffers
moved h = buffers (vec_items h.idle) (objects h)
