-- Lists of entries whose points rise strictly, and what they have for a point.
use Rattle.std.proofs.Common.{◌≡◌, ℕ, zero, suc, ◌<◌, ◌≤◌, eqb, List, [], ◌∷◌, ◌++◌, length, Some, None, Option, sym, refl, ap, ◌∙◌, subst, ⊎_elim, arith}
use Rattle.std.proofs.lemmas.Bool.{cases_eq, cases_order, eq-eqb, ne_eqb, cond-true, cond-false}
use Rattle.std.proofs.lemmas.Option.{none-some}
use Rattle.frame_map.specs.Tables.{entry_at, row_for}
use Rattle.frame_map.specs.declared.row.Entry.{Entry}
use Rattle.frame_map.specs.declared.row.Row.{Row}

-- points rise strictly, from low up to before high
abbrev pub Rises : ℕ → List Entry → ℕ → Type 0
Rises low [] high = low ≤ high
Rises low (e ∷ es) high = (low ≤ e.point) × Rises (suc e.point) es high

pub rises_lower : (low mid high : ℕ) (es : List Entry) → low ≤ mid → Rises mid es high → Rises low es high
rises_lower low mid high [] l r = omega arith
rises_lower low mid high (e ∷ es) l r = (let h = r.0 in omega arith, r.1)

pub rises_ordered : (low high : ℕ) (es : List Entry) → Rises low es high → low ≤ high
rises_ordered low high [] r = r
rises_ordered low high (e ∷ es) r = let h = rises_ordered (suc e.point) high es r.1 in let k = r.0 in omega arith

pub rises_append : (low mid high : ℕ) (xs ys : List Entry) → Rises low xs mid → Rises mid ys high → Rises low (xs ++ ys) high
rises_append low mid high [] ys r s = rises_lower low mid high ys r s
rises_append low mid high (e ∷ es) ys r s = (r.0, rises_append (suc e.point) mid high es ys r.1 s)

-- one entry more or less at the front
pub row_for_head : (e : Entry) (es : List Entry) → row_for e.point (e ∷ es) ≡ Some e.row
unfolding row_for
row_for_head e es = cond-true (eqb e.point e.point) (Some e.row) (row_for e.point es) (eq-eqb e.point e.point refl)

pub row_for_tail : (p : ℕ) (e : Entry) (es : List Entry) → (e.point ≡ p → ⊥) → row_for p (e ∷ es) ≡ row_for p es
unfolding row_for
row_for_tail p e es ne = cond-false (eqb e.point p) (Some e.row) (row_for p es) (ne_eqb e.point p ne)

pub row_for_nil : (p : ℕ) → row_for p [] ≡ None
unfolding row_for
row_for_nil p = refl

-- nothing lies below low
pub rises_below : (low high p : ℕ) (es : List Entry) → Rises low es high → p < low → row_for p es ≡ None
rises_below low high p [] r l = row_for_nil p
rises_below low high p (e ∷ es) r l =
    let h = r.0 in
    row_for_tail p e es (λ z. omega arith) ∙ rises_below (suc e.point) high p es r.1 (omega arith)

-- nor from high on
pub rises_above : (low high p : ℕ) (es : List Entry) → Rises low es high → high ≤ p → row_for p es ≡ None
rises_above low high p [] r l = row_for_nil p
rises_above low high p (e ∷ es) r l =
    let h = rises_ordered (suc e.point) high es r.1 in
    row_for_tail p e es (λ z. omega arith) ∙ rises_above (suc e.point) high p es r.1 l

pub some_same : {A : Type 0} (r s : A) → ◌≡◌ {A = Option A} (Some r) (Some s) → r ≡ s
some_same r s e = cc

-- a rising list is determined by its rows
pub determined : (low high low' high' : ℕ) (xs ys : List Entry) → Rises low xs high → Rises low' ys high' → ((p : ℕ) → row_for p xs ≡ row_for p ys) → xs ≡ ys
determined low high low' high' [] [] r s same = refl
determined low high low' high' [] (y ∷ ys) r s same = absurd (none-some y.row (sym (sym (row_for_head y ys) ∙ sym (same y.point) ∙ row_for_nil y.point)))
determined low high low' high' (x ∷ xs) [] r s same = absurd (none-some x.row (sym (sym (row_for_head x xs) ∙ same x.point ∙ row_for_nil x.point)))
determined low high low' high' (x ∷ xs) (y ∷ ys) r s same =
    ⊎_elim
    (λ (e : x.point ≡ y.point).
    let rows : x.row ≡ y.row =
    some_same x.row y.row (sym (row_for_head x xs) ∙ same x.point ∙ ap (λ p. row_for p (y ∷ ys)) e ∙ row_for_head y ys) in
    let heads : x ≡ y = λ i. record { point = e i; row = rows i } in
    let tails : xs ≡ ys =
    determined (suc x.point) high (suc y.point) high' xs ys r.1 s.1
    (λ p. ⊎_elim
    (λ (z : x.point ≡ p). rises_below (suc x.point) high p xs r.1 (omega arith) ∙ sym (rises_below (suc y.point) high' p ys s.1 (omega arith)))
    (λ (ne : x.point ≡ p → ⊥). sym (row_for_tail p x xs ne) ∙ same p ∙ row_for_tail p y ys (λ z. ne (e ∙ z)))
    (cases_eq x.point p)) in
    λ i. heads i ∷ tails i)
    (⊎_elim
    (λ (l : x.point < y.point).
    absurd (none-some x.row
    (sym (sym (row_for_head x xs) ∙ same x.point ∙ row_for_tail x.point y ys (λ z. omega arith) ∙ rises_below (suc y.point) high' x.point ys s.1 (omega arith)))))
    (λ (l : y.point < x.point).
    absurd (none-some y.row
    (sym (sym (row_for_head y ys) ∙ sym (same y.point) ∙ row_for_tail y.point x xs (λ z. omega arith) ∙ rises_below (suc x.point) high y.point xs r.1 (omega arith))))))
    (cases_order x.point y.point)

-- what a longer list has
pub row_for_left : (p : ℕ) (xs ys : List Entry) (r : Row) → row_for p xs ≡ Some r → row_for p (xs ++ ys) ≡ Some r
row_for_left p [] ys r h = absurd (none-some r (sym (sym h ∙ row_for_nil p)))
row_for_left p (x ∷ xs) ys r h =
    ⊎_elim
    (λ (e : x.point ≡ p). subst (λ q. row_for q (x ∷ (xs ++ ys)) ≡ Some r) e (row_for_head x (xs ++ ys) ∙ sym (row_for_head x xs) ∙ ap (λ q. row_for q (x ∷ xs)) e ∙ h))
    (λ (ne : x.point ≡ p → ⊥). row_for_tail p x (xs ++ ys) ne ∙ row_for_left p xs ys r (sym (row_for_tail p x xs ne) ∙ h))
    (cases_eq x.point p)

pub row_for_right : (p : ℕ) (xs ys : List Entry) → row_for p xs ≡ None → row_for p (xs ++ ys) ≡ row_for p ys
row_for_right p [] ys h = refl
row_for_right p (x ∷ xs) ys h =
    ⊎_elim
    (λ (e : x.point ≡ p). absurd (none-some x.row (sym (sym (row_for_head x xs) ∙ ap (λ q. row_for q (x ∷ xs)) e ∙ h))))
    (λ (ne : x.point ≡ p → ⊥). row_for_tail p x (xs ++ ys) ne ∙ row_for_right p xs ys (sym (row_for_tail p x xs ne) ∙ h))
    (cases_eq x.point p)

-- the same, place by place
pub rises_low : (low high : ℕ) (es : List Entry) → Rises low es high → (i : ℕ) → i < length es → low ≤ (entry_at es i).point
rises_low low high [] r i l = absurd (omega arith)
rises_low low high (e ∷ es) r zero l = r.0
rises_low low high (e ∷ es) r (suc i) l = let h = rises_low (suc e.point) high es r.1 i (omega arith) in let k = r.0 in omega arith

pub rises_high : (low high : ℕ) (es : List Entry) → Rises low es high → (i : ℕ) → i < length es → (entry_at es i).point < high
rises_high low high [] r i l = absurd (omega arith)
rises_high low high (e ∷ es) r zero l = rises_ordered (suc e.point) high es r.1
rises_high low high (e ∷ es) r (suc i) l = rises_high (suc e.point) high es r.1 i (omega arith)

pub rises_pairs : (low high : ℕ) (es : List Entry) → Rises low es high → (i j : ℕ) → i < j → j < length es → (entry_at es i).point < (entry_at es j).point
rises_pairs low high [] r i j h l = absurd (omega arith)
rises_pairs low high (e ∷ es) r i zero h l = absurd (omega arith)
rises_pairs low high (e ∷ es) r zero (suc j) h l = rises_low (suc e.point) high es r.1 j (omega arith)
rises_pairs low high (e ∷ es) r (suc i) (suc j) h l = rises_pairs (suc e.point) high es r.1 i j (omega arith) (omega arith)

pub rises_from : (low high : ℕ) (es : List Entry) → low ≤ high → ((i : ℕ) → i < length es → low ≤ (entry_at es i).point) → ((i : ℕ) → i < length es → (entry_at es i).point < high) → ((i j : ℕ) → i < j → j < length es → (entry_at es i).point < (entry_at es j).point) → Rises low es high
rises_from low high [] o f g h = o
rises_from low high (e ∷ es) o f g h = (
  f 0 (omega arith),
  rises_from (suc e.point) high es (g 0 (omega arith)) (λ i l. h 0 (suc i) (omega arith) (omega arith)) (λ i l. g (suc i) (omega arith)) (λ i j k l. h (suc i) (suc j) (omega arith) (omega arith)),
)

-- the row of an entry's point is that entry's
pub rises_at : (low high : ℕ) (es : List Entry) → Rises low es high → (i : ℕ) → i < length es → row_for (entry_at es i).point es ≡ Some (entry_at es i).row
rises_at low high [] r i l = absurd (omega arith)
rises_at low high (e ∷ es) r zero l = row_for_head e es
rises_at low high (e ∷ es) r (suc i) l =
    let h = rises_low (suc e.point) high es r.1 i (omega arith) in
    row_for_tail (entry_at es i).point e es (λ z. omega arith) ∙ rises_at (suc e.point) high es r.1 i (omega arith)
