-- Laws of the words of a snapshot: which, after a write, and when no word was written yet.
use Rattle.std.specs.Prelude.{◌≡◌, ℕ, ◌/◌, ◌%◌, ◌^◌, ◌<◌, ◌≤◌, true, cond, ◌≢◌, List, ◌++◌, length, replicate, bit_or, nat_eq, slice_index, slice_index_or, slice_set}
use Rattle.std.proofs.Common.{sym, ap, subst, ◌∙◌, ⊎_elim, arith}
use Rattle.std.proofs.lemmas.List.FromFn.{get_or-map-range_with_len}
use Rattle.std.proofs.lemmas.List.{ext_get_or, length-set, get_or-set_same, get_or-set_other, get_or-replicate, get_or_append_left, length-replicate}
use Rattle.std.proofs.lemmas.Bool.{cases_eq, eq-eqb, ne_eqb, cond-true, cond-false}
use Rattle.words.specs.Bits.{Bit}
use Rattle.words.specs.Bytes.{word_in, words_of}
use Rattle.words.proofs.BitLaws.{parity, bit_below, bit_put_same, bit_put_kept, bit_put_other}
use Rattle.words.proofs.ByteLaws.{length-words_of}
use Rattle.stack_memory.specs.Snapshots.{map_length, marked, word_now, words_now, with_bit}
use Rattle.stack_memory.specs.SnapshotSizes.{length-words_now, slice_index-words_now}

-- a word that was written is the buffer's, any other the image's
pub word_written : (image buffer bits : List ℕ) (i : ℕ) → i < length image / 4 → Bit (slice_index bits (i / 32)) (i % 32) → slice_index (words_now image buffer bits) i ≡ slice_index buffer i
word_written image buffer bits i h b =
    slice_index-words_now image buffer bits i h
    ∙ cond-true (marked bits i) (slice_index buffer i) (word_in image i) (eq-eqb _ 1 b)

pub word_unwritten : (image buffer bits : List ℕ) (i : ℕ) → i < length image / 4 → (Bit (slice_index bits (i / 32)) (i % 32) → ⊥) → slice_index (words_now image buffer bits) i ≡ word_in image i
word_unwritten image buffer bits i h b =
    slice_index-words_now image buffer bits i h
    ∙ cond-false (marked bits i) (slice_index buffer i) (word_in image i) (ne_eqb _ 1 b)

-- another bit of a mask stays when one is put
digit_put_other : (m a b : ℕ) → (b ≢ a) → bit_or m (2 ^ a) / 2 ^ b % 2 ≡ m / 2 ^ b % 2
digit_put_other m a b ne =
    ⊎_elim
    (λ (z : m / 2 ^ b % 2 ≡ 0).
    ⊎_elim
    (λ (y : bit_or m (2 ^ a) / 2 ^ b % 2 ≡ 0). y ∙ sym z)
    (λ (y : bit_or m (2 ^ a) / 2 ^ b % 2 ≡ 1). y ∙ sym (bit_put_other m a b ne y))
    (parity (bit_or m (2 ^ a) / 2 ^ b)))
    (λ (z : m / 2 ^ b % 2 ≡ 1). bit_put_kept m a b z ∙ sym z)
    (parity (m / 2 ^ b))

-- a bit map with bit i put: bit i stands, and the others are as before
marked_same : (bits : List ℕ) (i : ℕ) → i / 32 < length bits → marked (with_bit bits i) i ≡ true
marked_same bits i h =
    eq-eqb _ 1
    (ap (λ x. x / 2 ^ (i % 32) % 2) (get_or-set_same bits (i / 32) _ 0 h)
    ∙ bit_put_same (slice_index bits (i / 32)) (i % 32))

marked_other : (bits : List ℕ) (i k : ℕ) → i / 32 < length bits → (k ≢ i) → marked (with_bit bits i) k ≡ marked bits k
marked_other bits i k h ne =
    ⊎_elim
    (λ (e : k / 32 ≡ i / 32).
    let apart : k % 32 ≡ i % 32 → ⊥ = λ f. ne (omega arith) in
    ap (λ x. nat_eq x 1)
    (ap (λ j. slice_index (with_bit bits i) j / 2 ^ (k % 32) % 2) e
    ∙ ap (λ x. x / 2 ^ (k % 32) % 2) (get_or-set_same bits (i / 32) _ 0 h)
    ∙ digit_put_other (slice_index bits (i / 32)) (i % 32) (k % 32) apart
    ∙ ap (λ j. slice_index bits j / 2 ^ (k % 32) % 2) (sym e)))
    (λ (e : k / 32 ≡ i / 32 → ⊥).
    ap (λ x. nat_eq (x / 2 ^ (k % 32) % 2) 1) (get_or-set_other bits (i / 32) (k / 32) _ 0 e))
    (cases_eq (k / 32) (i / 32))

-- a word and its bit put: that word changes, and no other
pub words_now_put : (image buffer bits : List ℕ) (i w : ℕ) → i < length image / 4 → length image / 4 ≤ length buffer → map_length (length image / 4) ≤ length bits → words_now image (slice_set buffer i w) (with_bit bits i) ≡ slice_set (words_now image buffer bits) i w
words_now_put image buffer bits i w h roomy mapped =
    let long : length (words_now image buffer bits) ≡ length image / 4 = length-words_now image buffer bits in
    let long' : length (words_now image (slice_set buffer i w) (with_bit bits i)) ≡ length image / 4 = length-words_now image (slice_set buffer i w) (with_bit bits i) in
    let inside : i / 32 < length bits = omega arith in
    ext_get_or 0 _ _ (long' ∙ sym (length-set (words_now image buffer bits) i w ∙ long))
    (λ k l.
    let below : k < length image / 4 = omega arith in
    slice_index-words_now image (slice_set buffer i w) (with_bit bits i) k below
    ∙ ⊎_elim
    (λ (e : k ≡ i).
    subst (λ j. word_now image (slice_set buffer i w) (with_bit bits i) j ≡ slice_index (slice_set (words_now image buffer bits) i w) j) (sym e)
    (cond-true (marked (with_bit bits i) i) (slice_index (slice_set buffer i w) i) (word_in image i) (marked_same bits i inside)
    ∙ get_or-set_same buffer i w 0 (omega arith)
    ∙ sym (get_or-set_same (words_now image buffer bits) i w 0 (omega arith))))
    (λ (e : k ≡ i → ⊥).
    ap (λ t. cond t (slice_index (slice_set buffer i w) k) (word_in image k)) (marked_other bits i k inside e)
    ∙ ap (λ x. cond (marked bits k) x (word_in image k)) (get_or-set_other buffer i k w 0 e)
    ∙ sym (slice_index-words_now image buffer bits k below)
    ∙ sym (get_or-set_other (words_now image buffer bits) i k w 0 e))
    (cases_eq k i))

-- while no bit stands, the words are the image's
pub words_now_fresh : (image buffer rest : List ℕ) → words_now image buffer (replicate (map_length (length image / 4)) 0 ++ rest) ≡ words_of image
unfolding words_of
words_now_fresh image buffer rest =
    let n : ℕ = length image / 4 in
    let bits : List ℕ = replicate (map_length n) 0 ++ rest in
    ext_get_or 0 _ _ (length-words_now image buffer bits ∙ sym (length-words_of image))
    (λ k l.
    let below : k < n = omega (arith, length-words_now image buffer bits) in
    let bound : k / 32 < map_length n = omega arith in
    let zero_there : slice_index_or bits (k / 32) 0 ≡ 0 = get_or_append_left (replicate (map_length n) 0) rest 0 (k / 32) (omega (arith, length-replicate {A = ℕ} (map_length n) 0)) ∙ get_or-replicate (map_length n) (k / 32) 0 0 bound in
    word_unwritten image buffer bits k below
    (λ b. bit_below 0 (k % 32) 0 (omega arith) (omega arith) (subst (λ x. Bit x (k % 32)) zero_there b))
    ∙ sym (get_or-map-range_with_len (word_in image) 0 n k k 0 below (omega arith)))
