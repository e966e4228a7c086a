-- The image's length decides the range, and the bit decides between buffer and image.
use Rattle.std.proofs.Common.{rules, ◌≡◌, ◌/◌, ◌%◌, ◌<◌, length, get_or, vec_items, sym, ap, ◌∙◌, subst, arith}
use Rattle.std.proofs.lemmas.List.{get_or_read}
use Rattle.words.specs.Bits.{Bit}
use Rattle.words.specs.Bytes.{word_in}
use Rattle.stack_memory.specs.Promises.{NoWord}
use Rattle.stack_memory.specs.Meaning.{snapshot_words}
use Rattle.stack_memory.proofs.SnapshotLaws.{word_written, word_unwritten}
use Rattle.stack_memory.specs.SnapshotSizes.{length_snapshot}
use Rattle.stack_memory.proofs.snapshot.calls.SnapshotMemoryStackMemory.read.Goals as goal

pub returns-in_err-original : goal.returns-in_err-original
returns-in_err-original c =
    let outside = rw c.in_err-original.ensures.ok_part at c.word_at.ensures in
    let value = rw c.in_err-original.ensures.ok_part at c.in_err-original.ensures.value in
    let no : NoWord (snapshot_words c.args.self.now) c.args.index c.in_err-original.field-0.0 = record { past = omega (arith, length_snapshot c.args.self.now, c.as_slice.ensures.len); reason = cc } in
    search rules

pub returns-then-has_bit : goal.returns-then-has_bit
returns-then-has_bit c =
    let m = c.args.self.now in
    let there = rw c.in_ok-original.ensures.ok_part at c.word_at.ensures in
    let in_image : c.args.index < length (vec_items m.image) / 4 = omega (arith, ap length c.as_slice.ensures.value) in
    let in_bits : c.args.index / 32 < length (vec_items m.written) = search rules in
    let in_buffer : c.args.index < length (vec_items m.buffer) = search rules in
    let mask : c.index.result.now ≡ get_or (vec_items m.written) (c.args.index / 32) 0 = get_or_read (vec_items m.written) (c.args.index / 32) c.index.result.now in_bits c.index.ensures 0 in
    record {
      inside = omega (arith, length_snapshot m, m.image.ok.0);
      word = get_or_read (vec_items m.buffer) c.args.index c.index-then-has_bit.result.now in_buffer c.index-then-has_bit.ensures 0
          ∙ sym (word_written (vec_items m.image) (vec_items m.buffer) (vec_items m.written) c.args.index in_image
          (subst (λ x. Bit x (c.args.index % 32)) mask c.if-has_bit.ensures));
    }

pub returns : goal.returns
returns c =
    let m = c.args.self.now in
    let there = rw c.in_ok-original.ensures.ok_part at c.word_at.ensures in
    let in_image : c.args.index < length (vec_items m.image) / 4 = omega (arith, ap length c.as_slice.ensures.value) in
    let in_bits : c.args.index / 32 < length (vec_items m.written) = search rules in
    let mask : c.index.result.now ≡ get_or (vec_items m.written) (c.args.index / 32) 0 = get_or_read (vec_items m.written) (c.args.index / 32) c.index.result.now in_bits c.index.ensures 0 in
    record {
      inside = omega (arith, length_snapshot m, m.image.ok.0);
      word = there.1
          ∙ ap (λ bs. word_in bs c.args.index) c.as_slice.ensures.value
          ∙ sym (word_unwritten (vec_items m.image) (vec_items m.buffer) (vec_items m.written) c.args.index in_image
          (λ b. c.if-has_bit.ensures (subst (λ x. Bit x (c.args.index % 32)) (sym mask) b)));
    }
