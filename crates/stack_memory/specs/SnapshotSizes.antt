-- How many words a snapshot has, and how large they are: what its parts keep bounds them.
use Rattle.std.specs.Prelude.{◌≡◌, ℕ, ◌+◌, ◌*◌, ◌/◌, ◌^◌, ◌<◌, ◌≤◌, true, false, List, length, vec_items, vec_len, slice_index}
use Rattle.std.proofs.Common.{sym, ap, ◌∙◌, ⊎_elim, arith}
use Rattle.std.proofs.lemmas.List.FromFn.{length-map-range_with_len, get_or-map-range_with_len}
use Rattle.std.proofs.lemmas.List.{get_or_past}
use Rattle.std.proofs.lemmas.Bool.{cases_lt, cond-true, cond-false, cases_Bool}
use Rattle.words.specs.Bytes.{word_in}
use Rattle.stack_memory.specs.declared.snapshot.SnapshotMemory.{SnapshotMemory}
use Rattle.stack_memory.specs.Meaning.{snapshot_words}
use Rattle.stack_memory.specs.Snapshots.{marked, word_now, words_now}

pub length-words_now : (image buffer bits : List ℕ) → length (words_now image buffer bits) ≡ length image / 4
unfolding words_now
length-words_now image buffer bits = length-map-range_with_len (word_now image buffer bits) 0 (length image / 4)

pub slice_index-words_now : (image buffer bits : List ℕ) (i : ℕ) → i < length image / 4 → slice_index (words_now image buffer bits) i ≡ word_now image buffer bits i
unfolding words_now
slice_index-words_now image buffer bits i h = get_or-map-range_with_len (word_now image buffer bits) 0 (length image / 4) i i 0 h (omega arith)

-- each word has 32 bits
pub words_now_small : (image buffer bits : List ℕ) → ((i : ℕ) → slice_index image i < 2 ^ 8) → ((i : ℕ) → slice_index buffer i < 2 ^ 32) → (i : ℕ) → slice_index (words_now image buffer bits) i < 2 ^ 32
words_now_small image buffer bits p q i =
    ⊎_elim
    (λ (h : i < length image / 4).
    ⊎_elim
    (λ (t : marked bits i ≡ true).
    omega (arith, slice_index-words_now image buffer bits i h ∙ cond-true (marked bits i) (slice_index buffer i) (word_in image i) t, q i))
    (λ (t : marked bits i ≡ false).
    omega (arith, slice_index-words_now image buffer bits i h ∙ cond-false (marked bits i) (slice_index buffer i) (word_in image i) t, p (4 * i), p (4 * i + 1), p (4 * i + 2), p (4 * i + 3)))
    (cases_Bool (marked bits i)))
    (λ (h : length image / 4 ≤ i).
    omega (arith, get_or_past (words_now image buffer bits) i 0 (omega (arith, length-words_now image buffer bits))))
    (cases_lt i (length image / 4))

-- a snapshot has as many words as its image
pub length_snapshot : (m : SnapshotMemory) → length (snapshot_words m) ≡ vec_len m.image / 4
length_snapshot m =
    length-words_now (vec_items m.image) (vec_items m.buffer) (vec_items m.written)
    ∙ ap (λ n. n / 4) (sym m.image.ok.0)
