-- The word goes into the buffer and its bit into the map, so that word changes and no other.
use Rattle.std.proofs.Common.{◌≡◌, ℕ, ◌*◌, ◌/◌, ◌%◌, ◌^◌, ◌<◌, length, get_or, set, vec_items, refl, ap, ◌∙◌, arith}
use lib.Bits.{bit_or}
use Rattle.std.proofs.lemmas.Nat.{one_shl}
use Rattle.std.proofs.lemmas.List.{get_or_read}
use Rattle.stack_memory.specs.Snapshots.{words_now, with_bit}
use Rattle.stack_memory.proofs.SnapshotLaws.{words_now_put}
use Rattle.stack_memory.specs.SnapshotSizes.{length_snapshot}
use Rattle.stack_memory.proofs.snapshot.calls.SnapshotMemoryStackMemory.write.Goals as goal

pub returns : goal.returns
returns c =
    let m = c.args.self.now in
    let i : ℕ = c.args.index in
    let in_image : i < length (vec_items m.image) / 4 = omega (arith, m.image.ok.0, length_snapshot m, c.len.ensures) in
    let in_bits : i / 32 < length (vec_items m.written) = omega (arith, m.serving.mapped) in
    let mask : c.index_mut-2.result.now ≡ get_or (vec_items m.written) (i / 32) 0 = get_or_read (vec_items m.written) (i / 32) c.index_mut-2.result.now in_bits c.index_mut-2.ensures.value 0 in
    let put : set (vec_items m.written) (i / 32) (bit_or c.index_mut-2.result.now ((1 * 2 ^ (i % 32)) % 2 ^ 32)) ≡ with_bit (vec_items m.written) i
    = ap (λ x. set (vec_items m.written) (i / 32) (bit_or x ((1 * 2 ^ (i % 32)) % 2 ^ 32))) mask
    ∙ ap (λ x. set (vec_items m.written) (i / 32) (bit_or (get_or (vec_items m.written) (i / 32) 0) x)) (one_shl (i % 32) 32 (omega arith)) in
    record {
      words = record {
        inside = omega (arith, length_snapshot m, c.len.ensures);
        words_after = ap (λ bits. words_now (vec_items m.image) (set (vec_items m.buffer) i c.args.word) bits) put
            ∙ words_now_put (vec_items m.image) (vec_items m.buffer) (vec_items m.written) i c.args.word in_image
            m.serving.roomy m.serving.mapped;
      };
      parts = record { image_kept = refl; word_put = refl; bit_put = put };
    }
