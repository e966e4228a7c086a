-- What an accepted call makes of the model.
use Rattle.std.specs.Prelude.{ℕ, ◌-◌, min, List, [], ◌∷◌, ◌++◌, length, take, drop, replicate, slice_index_or, slice_set}
use Rattle.frame_map.specs.Maps.{Rows}
use Rattle.scan.specs.Frames.{Frame}
use Rattle.frames.specs.Models.{running, Model, frames, newest}
use Rattle.frames.specs.Standing.{no_handler}
use Rattle.frames.specs.declared.records.Handler.{Handler}

-- a fresh start: one frame of n words and sixteen registers, all 0
abbrev pub started : Rows → ℕ → ℕ → ℕ → Model
started rows room m n = record {
  rows = rows;
  room = room;
  spacing = m;
  current = record { back = 0; slots = replicate (n - 1) 0 };
  older = [];
  registers = replicate 16 0;
  handlers = [];
  level = 0;
  stage = running;
}

-- the running frame waits at p, and a frame of n words runs
abbrev pub entered : Model → ℕ → ℕ → Model
entered s p n = record {
  rows = s.rows;
  room = s.room;
  spacing = s.spacing;
  current = record { back = p; slots = replicate (n - 1) 0 };
  older = frames s;
  registers = s.registers;
  handlers = s.handlers;
  level = s.level;
  stage = s.stage;
}

-- only these frames are left, the first of them runs, with these handlers; the low-water mark falls to it
abbrev pub onto : Model → List Handler → List Frame → Model
onto s hs [] = s
onto s hs (f ∷ fs) = record {
  rows = s.rows;
  room = s.room;
  spacing = s.spacing;
  current = f;
  older = fs;
  registers = s.registers;
  handlers = hs;
  level = min s.level (length fs);
  stage = s.stage;
}

-- the running frame is gone
abbrev pub left : Model → Model
left s = onto s s.handlers s.older

-- other handlers
abbrev pub with_handlers : Model → List Handler → Model
with_handlers s hs = record {
  rows = s.rows;
  room = s.room;
  spacing = s.spacing;
  current = s.current;
  older = s.older;
  registers = s.registers;
  handlers = hs;
  level = s.level;
  stage = s.stage;
}

-- the newest handler, and the others
abbrev pub top_handler : Model → Handler
top_handler s = slice_index_or s.handlers (length s.handlers - 1) no_handler

abbrev pub other_handlers : Model → List Handler
other_handlers s = take (length s.handlers - 1) s.handlers

-- a handler of the running frame more
abbrev pub tried : Model → ℕ → Model
tried s q = with_handlers s (s.handlers ++ record { frame = newest s; point = q } ∷ [])

-- the newest handler is gone
abbrev pub untried : Model → Model
untried s = with_handlers s (other_handlers s)

-- the newest handler is gone, and every frame above its frame h: h + 1 frames are left
abbrev pub raised : Model → Model
raised s = onto s (other_handlers s) (drop (newest s - (top_handler s).frame) (frames s))

-- slot i of the running frame holds w
abbrev pub with_slot : Model → ℕ → ℕ → Model
with_slot s i w = record {
  rows = s.rows;
  room = s.room;
  spacing = s.spacing;
  current = record { back = s.current.back; slots = slice_set s.current.slots (i - 1) w };
  older = s.older;
  registers = s.registers;
  handlers = s.handlers;
  level = s.level;
  stage = s.stage;
}

-- register k holds w
abbrev pub with_register : Model → ℕ → ℕ → Model
with_register s k w = record {
  rows = s.rows;
  room = s.room;
  spacing = s.spacing;
  current = s.current;
  older = s.older;
  registers = slice_set s.registers k w;
  handlers = s.handlers;
  level = s.level;
  stage = s.stage;
}
