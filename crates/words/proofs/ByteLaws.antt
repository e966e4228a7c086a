-- Laws of words in an image of bytes.
use Rattle.std.proofs.Common.{◌≡◌, ℕ, ◌+◌, ◌*◌, ◌/◌, ◌<◌, List, length, get_or, refl, arith}
use Rattle.std.specs.Simd.{first_chunks}
use Rattle.std.proofs.lemmas.List.FromFn.{length-map-range_with_len}
use Rattle.words.specs.Bytes.{spelled_at, word_in, words_of}
use Rattle.words.proofs.ChunkLaws.{chunk_item}

pub length-words_of : (bs : List ℕ) → length (words_of bs) ≡ length bs / 4
unfolding words_of
length-words_of bs = length-map-range_with_len (word_in bs) 0 (length bs / 4)

-- piece i of an image cut by four spells its word i
pub piece_spells : (bs : List ℕ) (n i : ℕ) (d : List ℕ) → i < n → spelled_at (get_or (first_chunks 4 n bs) i d) 0 ≡ word_in bs i
piece_spells bs n i d l =
    omega (
      arith,
      chunk_item 4 n bs i 0 (4 * i) d 0 l (omega arith) (omega arith),
      chunk_item 4 n bs i 1 (4 * i + 1) d 0 l (omega arith) refl,
      chunk_item 4 n bs i 2 (4 * i + 2) d 0 l (omega arith) refl,
      chunk_item 4 n bs i 3 (4 * i + 3) d 0 l (omega arith) refl,
    )
