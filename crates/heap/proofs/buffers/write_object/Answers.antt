use Rattle.std.proofs.Common.{◌≡◌, ◌+◌, ◌-◌, length, slice_index_or, ap, ◌∙◌, arith}
use Rattle.std.proofs.lemmas.List.{get_or-replicate}
use Rattle.std.proofs.lemmas.List.Edits.{length-between}
use Rattle.heap_model.proofs.Buffers.{written}
use Rattle.heap.proofs.buffers.write_object.Goals as goal

pub returns : goal.returns
returns g c =
    let a = c.args in
    let len : length c.fill.new.self ≡ a.at + a.size - a.at = c.fill.ensures.len ∙ length-between a.entries.now a.at (a.at + a.size) c.requires.fits.1 in
    written a.entries.now c.fill.new.self a.rest a.at a.size a.first a.rest c.requires.fits.0 c.requires.fits.1 len
    (λ j l. ap (λ ys. slice_index_or ys j a.rest) (c.fill.ensures.after c.requires.copies.1) ∙ get_or-replicate _ j a.rest a.rest (omega (arith, len, c.fill.ensures.len)))
