-- The list of a map's entries rises, and has exactly the map's rows.
use Rattle.std.proofs.Common.{◌≡◌, ℕ, zero, suc, ◌<◌, ◌≤◌, List, [], ◌++◌, Some, None, Option, sym, refl, ◌∙◌, subst, ⊎_elim, arith}
use Rattle.std.proofs.lemmas.Bool.{cases_eq, cases_lt}
use Rattle.frame_map.specs.Maps.{Rows, entry_of, entries_below}
use Rattle.frame_map.specs.Tables.{Table, row_for}
use Rattle.frame_map.specs.declared.row.Entry.{Entry}
use Rattle.frame_map.specs.declared.row.Row.{Row}
use Rattle.frame_map.proofs.Rising.{Rises, rises_append, rises_lower, rises_above, rises_from, row_for_head, row_for_tail, row_for_nil, row_for_left, row_for_right, determined}

entry_rises : (n : ℕ) (o : Option Row) → Rises n (entry_of n o) (suc n)
entry_rises n None = omega arith
entry_rises n (Some r) = (omega arith, omega arith)

pub listed_rises : (rows : Rows) (n : ℕ) → Rises 0 (entries_below rows n) n
unfolding entries_below
listed_rises rows zero = omega arith
listed_rises rows (suc n) = rises_append 0 n (suc n) (entries_below rows n) (entry_of n (rows n)) (listed_rises rows n) (entry_rises n (rows n))

entry_row : (n : ℕ) (o : Option Row) → row_for n (entry_of n o) ≡ o
entry_row n None = row_for_nil n
entry_row n (Some r) = row_for_head (record { point = n; row = r }) []

entry_no_row : (n p : ℕ) (o : Option Row) → (n ≡ p → ⊥) → row_for p (entry_of n o) ≡ None
entry_no_row n p None ne = row_for_nil p
entry_no_row n p (Some r) ne = row_for_tail p (record { point = n; row = r }) [] ne ∙ row_for_nil p

-- the list has exactly the rows of its points
pub listed_rows : (rows : Rows) (n p : ℕ) → p < n → row_for p (entries_below rows n) ≡ rows p
unfolding entries_below
listed_rows rows zero p l = absurd (omega arith)
listed_rows rows (suc n) p l =
    ⊎_elim
    (λ (e : n ≡ p).
    row_for_right p (entries_below rows n) (entry_of n (rows n)) (rises_above 0 n p (entries_below rows n) (listed_rises rows n) (omega arith))
    ∙ subst (λ q. row_for q (entry_of n (rows n)) ≡ rows q) e (entry_row n (rows n)))
    (λ (ne : n ≡ p → ⊥). go (rows p) refl ne (listed_rows rows n p (omega arith)))
    (cases_eq n p)
  where
    go : (o : Option Row) → rows p ≡ o → (n ≡ p → ⊥) → row_for p (entries_below rows n) ≡ rows p → row_for p (entries_below rows n ++ entry_of n (rows n)) ≡ rows p
    go None e ne before =
        row_for_right p (entries_below rows n) (entry_of n (rows n)) (before ∙ e) ∙ entry_no_row n p (rows n) ne ∙ sym e
    go (Some r) e ne before =
        row_for_left p (entries_below rows n) (entry_of n (rows n)) r (before ∙ e) ∙ sym e

-- a rising list is the list of its own rows
pub listed_again : (n : ℕ) (es : List Entry) → Rises 0 es n → entries_below (λ p. row_for p es) n ≡ es
listed_again n es r =
    determined 0 n 0 n (entries_below (λ p. row_for p es) n) es (listed_rises (λ p. row_for p es) n) r
    (λ p. ⊎_elim
    (λ (l : p < n). listed_rows (λ p. row_for p es) n p l)
    (λ (l : n ≤ p). rises_above 0 n p (entries_below (λ p. row_for p es) n) (listed_rises (λ p. row_for p es) n) l ∙ sym (rises_above 0 n p es r l))
    (cases_lt p n))

pub table_rising : (es : List Entry) → Table es → Rises 1 es 65536
table_rising es t = rises_from 1 65536 es (omega arith) (λ i l. (t.points i l).0) (λ i l. (t.points i l).1) t.rises

pub listed_table : (es : List Entry) → Table es → entries_below (λ p. row_for p es) 65536 ≡ es
listed_table es t = listed_again 65536 es (rises_lower 0 1 65536 es (omega arith) (table_rising es t))
