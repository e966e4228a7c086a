-- The words of a snapshot: the image's, but for those that were written since.
use Rattle.std.specs.Prelude.{ℕ, ◌+◌, ◌/◌, ◌%◌, ◌^◌, Bool, cond, List, map, length, ◌==◌, bit_or, slice_index, slice_set}
use Rattle.std.specs.List.{range_with_len}
use Rattle.words.specs.Bytes.{word_in}

-- how many words of a bit map serve n words
abbrev pub map_length : ℕ → ℕ
map_length n = (n + 31) / 32

-- whether bit i of a bit map stands, low bit first
abbrev pub marked : List ℕ → ℕ → Bool
marked bits i = slice_index bits (i / 32) / 2 ^ (i % 32) % 2 == 1

-- a bit map with bit i put
abbrev pub with_bit : List ℕ → ℕ → List ℕ
with_bit bits i = slice_set bits (i / 32) (bit_or (slice_index bits (i / 32)) (2 ^ (i % 32)))

-- word i: the buffer's if it was written, else the image's
abbrev pub word_now : List ℕ → List ℕ → List ℕ → ℕ → ℕ
word_now image buffer bits i = cond (marked bits i) (slice_index buffer i) (word_in image i)

-- all words
unfoldable pub words_now : List ℕ → List ℕ → List ℕ → List ℕ
words_now image buffer bits = map (word_now image buffer bits) (range_with_len 0 (length image / 4))
