-- The bit map is cleared as far as it serves the image, so the words are the image's.
use Rattle.std.proofs.Common.{rules, ◌≡◌, ℕ, List, ◌/◌, ◌++◌, length, drop, replicate, vec_items, refl, ap, ◌∙◌, arith}
use Rattle.std.proofs.lemmas.List.{with_items_is, places}
use Rattle.std.proofs.lemmas.Slice.{overwrites}
use Rattle.words.specs.Bytes.{words_of}
use Rattle.stack_memory.specs.Snapshots.{map_length, words_now}
use Rattle.stack_memory.proofs.SnapshotLaws.{words_now_fresh}
use Rattle.stack_memory.proofs.snapshot.SnapshotMemory.new.Goals as goal

fresh : (image buffer bits rest : List ℕ) → bits ≡ replicate (map_length (length image / 4)) 0 ++ rest → words_now image buffer bits ≡ words_of image
fresh image buffer bits rest e = ap (λ xs. words_now image buffer xs) e ∙ words_now_fresh image buffer rest

pub returns : goal.returns
returns c =
    let image = vec_items c.args.image in
    let many : c.div_ceil-map_length.result ≡ map_length (length image / 4) = omega (arith, c.args.image.ok.0, c.div_ceil-map_length.ensures) in
    let filled : c.fill.new.self ≡ replicate c.div_ceil-map_length.result 0 = search (rules, places) in
    record {
      imaging = search rules;
      serving = search rules;
      means = fresh image (vec_items c.args.buffer) _ (drop (map_length (length image / 4)) (vec_items c.args.written)) (search (rules, overwrites, with_items_is));
      image_kept = refl;
      buffer_kept = refl;
      bits_cleared = search (rules, overwrites, with_items_is);
    }
