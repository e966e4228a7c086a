-- An object written into a buffer that a `Vec` holds.
use Rattle.std.proofs.Common.{◌≡◌, ℕ, List, Vec, Global, length, vec_items, sym, ap, ◌∙◌}
use Rattle.std.specs.Vec.{with_items}
use Rattle.std.proofs.lemmas.List.{with_items_is}
use Rattle.heap_model.specs.Steps.{Written}

pub written_back : {X : Type 0} (v : Vec X Global) (now' ys : List X) (none : X) (at size : ℕ) (first rest : X) → now' ≡ vec_items v → Written now' ys none at size first rest
    → Written (vec_items v) (vec_items (with_items v ys)) none at size first rest
written_back v now' ys none at size first rest e w = rw (with_items_is v ys (w.long ∙ ap length e ∙ sym v.ok.0)) (rw e at w)
