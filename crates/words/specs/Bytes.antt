-- Words of 32 bits in a list of bytes, low byte first.
use Rattle.std.specs.Prelude.{ℕ, ◌+◌, ◌*◌, ◌/◌, List, map, length, slice_index}
use Rattle.std.specs.List.{range_with_len}

-- the word that four bytes spell from byte k on
abbrev pub spelled_at : List ℕ → ℕ → ℕ
spelled_at bs k = slice_index bs k + slice_index bs (k + 1) * 256 + slice_index bs (k + 2) * 65536 + slice_index bs (k + 3) * 16777216

-- word i of an image of bytes
abbrev pub word_in : List ℕ → ℕ → ℕ
word_in bs i = spelled_at bs (4 * i)

-- all whole words of an image of bytes, in order; one to three bytes behind the last are in none
unfoldable pub words_of : List ℕ → List ℕ
words_of bs = map (word_in bs) (range_with_len 0 (length bs / 4))
