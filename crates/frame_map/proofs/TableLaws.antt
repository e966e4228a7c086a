-- The row that a list of entries has for a point.
use Rattle.std.proofs.Common.{◌≡◌, ℕ, zero, suc, ◌<◌, eqb, List, [], ◌∷◌, length, Some, None, sym, refl, ◌∙◌, subst, ⊎_elim, arith}
use Rattle.std.proofs.lemmas.Bool.{cases_eq, eq-eqb, ne_eqb, cond-true, cond-false}
use Rattle.frame_map.specs.Maps.{Point}
use Rattle.frame_map.specs.Rows.{Lawful}
use Rattle.frame_map.specs.Tables.{Table, entry_at, row_for}
use Rattle.frame_map.specs.declared.row.Entry.{Entry}
use Rattle.frame_map.specs.declared.row.Row.{Row}

-- the first entry with the point tells the row
pub row_for_at : (p : ℕ) (es : List Entry) (i : ℕ) → i < length es → (entry_at es i).point ≡ p → ((j : ℕ) → j < i → (entry_at es j).point ≡ p → ⊥) → row_for p es ≡ Some (entry_at es i).row
unfolding row_for
row_for_at p [] i l e first = absurd (omega arith)
row_for_at p (x ∷ es) zero l e first = cond-true (eqb x.point p) (Some x.row) (row_for p es) (eq-eqb x.point p e)
row_for_at p (x ∷ es) (suc i) l e first =
    cond-false (eqb x.point p) (Some x.row) (row_for p es) (ne_eqb x.point p (first 0 (omega arith)))
    ∙ row_for_at p es i (omega arith) e (λ j h. first (suc j) (omega arith))

-- where no entry has the point there is no row
pub row_for_none : (p : ℕ) (es : List Entry) → ((j : ℕ) → j < length es → (entry_at es j).point ≡ p → ⊥) → row_for p es ≡ None
unfolding row_for
row_for_none p [] none = refl
row_for_none p (x ∷ es) none =
    cond-false (eqb x.point p) (Some x.row) (row_for p es) (ne_eqb x.point p (none 0 (omega arith)))
    ∙ row_for_none p es (λ j h. none (suc j) (omega arith))

-- a row that is found is that of some entry with the point
pub row_for_some : (p : ℕ) (es : List Entry) (r : Row) → row_for p es ≡ Some r → (i : ℕ) × (i < length es) × ((entry_at es i).point ≡ p) × ((entry_at es i).row ≡ r)
unfolding row_for
row_for_some p [] r h = let z : ◌≡◌ {A = ℕ} 0 1 = cc in absurd (omega arith)
row_for_some p (x ∷ es) r h =
    ⊎_elim
    (λ (e : x.point ≡ p). (0, omega arith, e, let s = sym (cond-true (eqb x.point p) (Some x.row) (row_for p es) (eq-eqb x.point p e)) ∙ h in cc))
    (λ (ne : x.point ≡ p → ⊥).
    let found = row_for_some p es r (sym (cond-false (eqb x.point p) (Some x.row) (row_for p es) (ne_eqb x.point p ne)) ∙ h) in
    (suc found.0, omega arith, found.2, found.3))
    (cases_eq x.point p)

-- a row that a table has is lawful, and stands at a point
pub row_lawful : (p : ℕ) (es : List Entry) (r : Row) → Table es → row_for p es ≡ Some r → Lawful r
row_lawful p es r t h = let f = row_for_some p es r h in subst Lawful f.3 (t.lawful f.0 f.1)

pub row_pointed : (p : ℕ) (es : List Entry) (r : Row) → Table es → row_for p es ≡ Some r → Point p
row_pointed p es r t h = let f = row_for_some p es r h in subst Point f.2 (t.points f.0 f.1)
