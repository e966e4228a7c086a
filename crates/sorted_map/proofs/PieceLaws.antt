-- The pieces of five words into which an image is cut are its rows.
use Rattle.std.specs.Prelude.{◌≡◌, ℕ, ◌+◌, ◌*◌, ◌/◌, ◌<◌, List, [], ◌∷◌, length, slice_index, slice_index_or, refl}
use Rattle.std.proofs.Common.{sym, ap, ◌∙◌, subst, arith}
use Rattle.std.specs.Simd.{first_chunks}
use Rattle.words.proofs.ChunkLaws.{chunk_item, mapped_chunks}
use Rattle.frame_map.specs.Rows.{Lawful}
use Rattle.sorted_map.specs.Checking.{five, Follows}
use Rattle.sorted_map.specs.Decoding.{spelled, entry_in, first_entries, all_entries, entries_of}
use Rattle.sorted_map.specs.Layout.{sorted_row}

module _ (ws : List ℕ) (n : ℕ) (rows : List (List ℕ)) (cut : rows ≡ first_chunks 5 n ws) (i : ℕ) (l : i < n) where
  item : (j m : ℕ) → j < 5 → m ≡ 5 * i + j → slice_index (slice_index_or rows i []) j ≡ slice_index ws m
  item j m h e = ap (λ rs. slice_index (slice_index_or rs i []) j) cut ∙ chunk_item 5 n ws i j m [] 0 l h e

  piece_five : five (slice_index_or rows i []) 0 ≡ five ws i
  piece_five = λ t.
      item 0 (5 * i) (omega arith) (omega arith) t
      ∷ item 1 (5 * i + 1) (omega arith) refl t
      ∷ item 2 (5 * i + 2) (omega arith) refl t
      ∷ item 3 (5 * i + 3) (omega arith) refl t
      ∷ item 4 (5 * i + 4) (omega arith) refl t
      ∷ []

  pub piece_entry : entry_in (slice_index_or rows i []) 0 ≡ entry_in ws i
  unfolding entry_in
  piece_entry = ap (λ w. spelled (slice_index w 0) (slice_index w 1) (slice_index w 2) (slice_index w 3) (slice_index w 4)) piece_five

  -- a piece may follow exactly if the row may
  pub piece_follows : (last : ℕ) → Follows (slice_index_or rows i []) 0 last → Follows ws i last
  piece_follows last f = record {
    lawful = subst (λ e. Lawful e.row) piece_entry f.lawful;
    above = subst (λ e. last < e.point) piece_entry f.above;
    clean = ap sorted_row (sym piece_entry) ∙ f.clean ∙ piece_five;
  }

  pub follows_piece : (last : ℕ) → Follows ws i last → Follows (slice_index_or rows i []) 0 last
  follows_piece last f = record {
    lawful = subst (λ e. Lawful e.row) (sym piece_entry) f.lawful;
    above = subst (λ e. last < e.point) (sym piece_entry) f.above;
    clean = ap sorted_row piece_entry ∙ f.clean ∙ sym piece_five;
  }

pub pieces_entries : (ws : List ℕ) (n : ℕ) → entries_of (first_chunks 5 n ws) ≡ first_entries ws n
unfolding entries_of first_entries
pieces_entries ws n = mapped_chunks 5 n ws (λ row. entry_in row 0) (entry_in ws) [] (λ i l. piece_entry ws n (first_chunks 5 n ws) refl i l)

pub pieces_all : (image ws : List ℕ) (rows : List (List ℕ)) → ws ≡ image → rows ≡ first_chunks 5 (length ws / 5) ws → entries_of rows ≡ all_entries image
pieces_all image ws rows same cut = ap entries_of cut ∙ pieces_entries ws (length ws / 5) ∙ ap all_entries same
