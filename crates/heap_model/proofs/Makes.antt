-- An object is laid and marked behind the others.
use Rattle.std.proofs.Common.{ℕ, ◌+◌, ◌*◌, ◌≤◌, Bool, List, arith}
use Rattle.heap_model.specs.Objects.{space, Sound}
use Rattle.heap_model.specs.Making.{Made}
use Rattle.heap_model.specs.Steps.{Marked, Laid}
use Rattle.heap_model.proofs.Spaces.{Appended}
use Rattle.heap_model.proofs.Changes.{sound_made}

module _ (ws vs : List ℕ) (ms ns : List Bool) (used refs plain : ℕ) (a : refs ≤ 255) (b : plain ≤ 255)
    (l : Laid ws vs used (refs * 65536 + plain) (1 + (refs + plain))) (m : Marked ms ns used (1 + (refs + plain))) where
  pub made_appended : Appended (space ws ms used) (space vs ns (used + (1 + (refs + plain)))) (refs * 65536 + plain)
  made_appended = grind arith

  pub made_sound : Sound (space ws ms used) → Sound (space vs ns (used + (1 + (refs + plain))))
  made_sound s = sound_made (space ws ms used) (space vs ns (used + (1 + (refs + plain)))) (refs * 65536 + plain) made_appended (λ i g h. l.inner i g h) s

  pub made_is : Made (space ws ms used) (space vs ns (used + (1 + (refs + plain)))) refs plain (used + 1)
  made_is = grind arith
