-- What a search among the rows of a table finds.
use Rattle.std.specs.Prelude.{◌≡◌, ℕ, ◌+◌, ◌*◌, ◌/◌, ◌<◌, ◌≤◌, List, [], length, Some, None}
use Rattle.std.proofs.Common.{get_or, sym, ap, ◌∙◌, ⊎_elim, arith}
use Rattle.std.proofs.lemmas.List.{get_or-map, length-map}
use Rattle.std.proofs.lemmas.List.FromFn.{fill_by_all}
use Rattle.std.proofs.lemmas.Bool.{cases_eq, cases_lt}
use Rattle.frame_map.specs.Tables.{Table, blank, entry_at, row_for}
use Rattle.frame_map.specs.declared.row.Entry.{Entry}
use Rattle.frame_map.proofs.TableLaws.{row_for_at, row_for_none}
use Rattle.sorted_map.specs.Decoding.{entry_in, first_entries, all_entries, entries_of}
use Rattle.sorted_map.specs.Layout.{Means}
use Rattle.sorted_map.proofs.ImageLaws.{length_sorted, read_means}

-- the point that a row's words spell
abbrev pub point_of : List ℕ → ℕ
point_of w = (entry_in w 0).point

module _ (rs : List (List ℕ)) (t : Table (entries_of rs)) (p : ℕ) where
  length_entries : length (entries_of rs) ≡ length rs
  unfolding entries_of
  length_entries = length-map rs (λ w. entry_in w 0)

  entry_here : (i : ℕ) → i < length rs → entry_at (entries_of rs) i ≡ entry_in (get_or rs i []) 0
  unfolding entries_of
  entry_here i l = get_or-map (λ w. entry_in w 0) rs i [] blank l

  point_here : (i : ℕ) → i < length rs → (entry_at (entries_of rs) i).point ≡ point_of (get_or rs i [])
  point_here i l = ap (λ e. e.point) (entry_here i l)

  rises : (i j : ℕ) → i < j → j < length rs → point_of (get_or rs i []) < point_of (get_or rs j [])
  rises i j h l = omega (arith, point_here i (omega arith), point_here j l, t.rises i j h (omega (arith, length_entries)))

  -- rows up to one below the point lie below it
  pub below_too : (i : ℕ) → i < length rs → point_of (get_or rs i []) < p → (j : ℕ) → j < i + 1 → point_of (get_or rs j []) < p
  below_too i l h j k =
      ⊎_elim
      (λ (e : j ≡ i). omega (arith, ap (λ x. point_of (get_or rs x [])) e))
      (λ (ne : j ≡ i → ⊥). omega (arith, rises j i (omega arith) l))
      (cases_eq j i)

  -- rows from one above the point on lie above it
  pub above_too : (i : ℕ) → p < point_of (get_or rs i []) → (j : ℕ) → i ≤ j → j < length rs → p < point_of (get_or rs j [])
  above_too i h j k l =
      ⊎_elim
      (λ (e : j ≡ i). omega (arith, ap (λ x. point_of (get_or rs x [])) e))
      (λ (ne : j ≡ i → ⊥). omega (arith, rises i j (omega arith) l))
      (cases_eq j i)

  pub found_row : (i : ℕ) → i < length rs → point_of (get_or rs i []) ≡ p → row_for p (entries_of rs) ≡ Some (entry_in (get_or rs i []) 0).row
  found_row i l e =
      row_for_at p (entries_of rs) i (omega (arith, length_entries)) (point_here i l ∙ e)
      (λ j h z. omega (arith, point_here j (omega arith), rises j i h l))
      ∙ ap (λ x. Some x.row) (entry_here i l)

  pub found_no_row : ((j : ℕ) → j < length rs → point_of (get_or rs j []) ≡ p → ⊥) → row_for p (entries_of rs) ≡ None
  found_no_row h = row_for_none p (entries_of rs) (λ j l z. let k : j < length rs = omega (arith, length_entries) in h j k (sym (point_here j k) ∙ z))

  pub found_nowhere : (m : ℕ) → ((j : ℕ) → j < m → point_of (get_or rs j []) < p) → ((j : ℕ) → m ≤ j → j < length rs → p < point_of (get_or rs j [])) → row_for p (entries_of rs) ≡ None
  found_nowhere m below above = found_no_row (λ j l z.
      ⊎_elim (λ (b : j < m). let q = below j b in omega arith) (λ (b : m ≤ j). let q = above j b l in omega arith) (cases_lt j m))

pub means_long : (ws : List ℕ) (es : List Entry) → Means ws es → length ws ≡ 5 * length es
means_long ws es m = ap length (sym m.laid) ∙ length_sorted es

-- the rows that are read from a good image are those that it was laid out from
pub all_is : (ws : List ℕ) (es : List Entry) → Means ws es → all_entries ws ≡ es
unfolding first_entries
all_is ws es m =
    let n : length es ≡ length ws / 5 = omega (arith, means_long ws es m) in
    sym (fill_by_all (entry_in ws) es (length ws / 5) blank n (λ k l. sym (read_means ws es m k (omega arith))))
