-- One rising list of all entries, by going through the points.
use Rattle.std.proofs.Common.{◌≡◌, ℕ, zero, suc, ◌+◌, ◌<◌, ◌≤◌, eqb, List, [], ◌∷◌, length, None, sym, refl, ap, ◌∙◌, subst, ⊎_elim, arith}
use Rattle.std.proofs.lemmas.Bool.{cases_eq, cases_lt, eq-eqb, ne_eqb, cond-true, cond-false}
use Rattle.frame_map.specs.Maps.{entries_below}
use Rattle.frame_map.specs.Tables.{row_for, entry_at}
use Rattle.frame_map.specs.declared.row.Entry.{Entry}
use Rattle.delta_image.specs.Buckets.{bucket_of, in_bucket}
use Rattle.frame_map.proofs.Listing.{listed_rises, listed_rows}
use Rattle.frame_map.proofs.Rising.{Rises, rises_lower, rises_above, row_for_head, row_for_tail, row_for_nil, determined}

-- the entries of one bucket rise too
pub bucket_rises : (b low high : ℕ) (es : List Entry) → Rises low es high → Rises low (in_bucket b es) high
unfolding in_bucket
bucket_rises b low high [] r = r
bucket_rises b low high (e ∷ es) r =
    ⊎_elim
    (λ (z : bucket_of e.point ≡ b).
    subst (λ l. Rises low l high) (sym (cond-true (eqb (bucket_of e.point) b) (e ∷ in_bucket b es) (in_bucket b es) (eq-eqb (bucket_of e.point) b z)))
    (r.0, bucket_rises b (suc e.point) high es r.1))
    (λ (z : bucket_of e.point ≡ b → ⊥).
    subst (λ l. Rises low l high) (sym (cond-false (eqb (bucket_of e.point) b) (e ∷ in_bucket b es) (in_bucket b es) (ne_eqb (bucket_of e.point) b z)))
    (let h = r.0 in rises_lower low (suc e.point) high (in_bucket b es) (omega arith) (bucket_rises b (suc e.point) high es r.1)))
    (cases_eq (bucket_of e.point) b)

pub in_more : (b : ℕ) (e : Entry) (es : List Entry) → bucket_of e.point ≡ b → in_bucket b (e ∷ es) ≡ e ∷ in_bucket b es
unfolding in_bucket
in_more b e es z = grind arith

pub in_same : (b : ℕ) (e : Entry) (es : List Entry) → (bucket_of e.point ≡ b → ⊥) → in_bucket b (e ∷ es) ≡ in_bucket b es
unfolding in_bucket
in_same b e es z = grind arith

pub in_none : (b : ℕ) → in_bucket b [] ≡ []
unfolding in_bucket
in_none b = refl

-- a point's row stands in its own bucket
pub row_in_bucket : (p : ℕ) (es : List Entry) → row_for p (in_bucket (bucket_of p) es) ≡ row_for p es
row_in_bucket p [] = ap (λ l. row_for p l) (in_none (bucket_of p))
row_in_bucket p (e ∷ es) =
    ⊎_elim
    (λ (z : e.point ≡ p).
    ap (λ l. row_for p l) (in_more (bucket_of p) e es (ap bucket_of z))
    ∙ subst (λ q. row_for q (e ∷ in_bucket (bucket_of p) es) ≡ row_for q (e ∷ es)) z (row_for_head e (in_bucket (bucket_of p) es) ∙ sym (row_for_head e es)))
    (λ (z : e.point ≡ p → ⊥).
    ⊎_elim
    (λ (w : bucket_of e.point ≡ bucket_of p).
    ap (λ l. row_for p l) (in_more (bucket_of p) e es w)
    ∙ row_for_tail p e (in_bucket (bucket_of p) es) z ∙ row_in_bucket p es ∙ sym (row_for_tail p e es z))
    (λ (w : bucket_of e.point ≡ bucket_of p → ⊥).
    ap (λ l. row_for p l) (in_same (bucket_of p) e es w) ∙ row_in_bucket p es ∙ sym (row_for_tail p e es z))
    (cases_eq (bucket_of e.point) (bucket_of p)))
    (cases_eq e.point p)

-- and in no other
pub row_out_of_bucket : (b p : ℕ) (es : List Entry) → (bucket_of p ≡ b → ⊥) → row_for p (in_bucket b es) ≡ None
row_out_of_bucket b p [] ne = ap (λ l. row_for p l) (in_none b) ∙ row_for_nil p
row_out_of_bucket b p (e ∷ es) ne =
    ⊎_elim
    (λ (z : bucket_of e.point ≡ b).
    ap (λ l. row_for p l) (in_more b e es z) ∙ row_for_tail p e (in_bucket b es) (λ w. ne (ap bucket_of (sym w) ∙ z)) ∙ row_out_of_bucket b p es ne)
    (λ (z : bucket_of e.point ≡ b → ⊥). ap (λ l. row_for p l) (in_same b e es z) ∙ row_out_of_bucket b p es ne)
    (cases_eq (bucket_of e.point) b)

-- a fact of each entry
abbrev pub Each : (Entry → Type 0) → List Entry → Type 0
Each P [] = Unit {0}
Each P (e ∷ es) = P e × Each P es

pub each_at : (P : Entry → Type 0) (es : List Entry) → Each P es → (i : ℕ) → i < length es → P (entry_at es i)
each_at P [] h i l = absurd (omega arith)
each_at P (e ∷ es) h zero l = h.0
each_at P (e ∷ es) h (suc i) l = each_at P es h.1 i (omega arith)

pub each_from : (P : Entry → Type 0) (es : List Entry) → ((i : ℕ) → i < length es → P (entry_at es i)) → Each P es
each_from P [] f = tt
each_from P (e ∷ es) f = (f 0 (omega arith), each_from P es (λ i l. f (suc i) (omega arith)))

-- all entries belong to bucket b
abbrev pub Belong : ℕ → List Entry → Type 0
Belong b es = Each (λ e. bucket_of e.point ≡ b) es

pub belong_none : (b p : ℕ) (es : List Entry) → Belong b es → (bucket_of p ≡ b → ⊥) → row_for p es ≡ None
belong_none b p [] h ne = row_for_nil p
belong_none b p (e ∷ es) h ne = row_for_tail p e es (λ z. ne (ap bucket_of (sym z) ∙ h.0)) ∙ belong_none b p es h.1 ne

pub bucket_belongs : (b : ℕ) (es : List Entry) → Belong b (in_bucket b es)
bucket_belongs b [] = subst (λ l. Belong b l) (sym (in_none b)) tt
bucket_belongs b (e ∷ es) =
    ⊎_elim
    (λ (z : bucket_of e.point ≡ b). subst (λ l. Belong b l) (sym (in_more b e es z)) (z, bucket_belongs b es))
    (λ (z : bucket_of e.point ≡ b → ⊥). subst (λ l. Belong b l) (sym (in_same b e es z)) (bucket_belongs b es))
    (cases_eq (bucket_of e.point) b)

-- all entries of the buckets bs, by rising point below n
pub merged : (ℕ → List Entry) → ℕ → List Entry
merged bs n = entries_below (λ p. row_for p (bs (bucket_of p))) n

pub merged_rises : (bs : ℕ → List Entry) (n : ℕ) → Rises 0 (merged bs n) n
unfolding merged
merged_rises bs n = listed_rises (λ p. row_for p (bs (bucket_of p))) n

pub merged_rows : (bs : ℕ → List Entry) (n p : ℕ) → p < n → row_for p (merged bs n) ≡ row_for p (bs (bucket_of p))
unfolding merged
merged_rows bs n p l = listed_rows (λ p. row_for p (bs (bucket_of p))) n p l

-- each bucket is what it was
pub merged_bucket : (bs : ℕ → List Entry) (n b : ℕ) → Rises 0 (bs b) n → Belong b (bs b) → in_bucket b (merged bs n) ≡ bs b
merged_bucket bs n b r h =
    determined 0 n 0 n (in_bucket b (merged bs n)) (bs b) (bucket_rises b 0 n (merged bs n) (merged_rises bs n)) r
    (λ p. ⊎_elim
    (λ (z : bucket_of p ≡ b).
    ap (λ c. row_for p (in_bucket c (merged bs n))) (sym z) ∙ row_in_bucket p (merged bs n)
    ∙ ⊎_elim
    (λ (l : p < n). merged_rows bs n p l ∙ ap (λ c. row_for p (bs c)) z)
    (λ (l : n ≤ p). rises_above 0 n p (merged bs n) (merged_rises bs n) l ∙ sym (rises_above 0 n p (bs b) r l))
    (cases_lt p n))
    (λ (z : bucket_of p ≡ b → ⊥). row_out_of_bucket b p (merged bs n) z ∙ sym (belong_none b p (bs b) h z))
    (cases_eq (bucket_of p) b))

-- how many entries the first n buckets have
unfoldable pub total : (ℕ → ℕ) → ℕ → ℕ
total f zero = 0
total f (suc n) = total f n + f n

pub total_same : (f g : ℕ → ℕ) (n : ℕ) → ((k : ℕ) → k < n → f k ≡ g k) → total f n ≡ total g n
unfolding total
total_same f g zero h = refl
total_same f g (suc n) h = let a = total_same f g n (λ k l. h k (omega arith)) in let b = h n (omega arith) in omega arith

-- one entry is in one bucket
total_more : (e : Entry) (es : List Entry) (n : ℕ) → bucket_of e.point < n → total (λ b. length (in_bucket b (e ∷ es))) n ≡ suc (total (λ b. length (in_bucket b es)) n)
unfolding total
total_more e es zero l = absurd (omega arith)
total_more e es (suc n) l =
    ⊎_elim
    (λ (z : bucket_of e.point ≡ n).
    let a = total_same (λ b. length (in_bucket b (e ∷ es))) (λ b. length (in_bucket b es)) n (λ k h. ap length (in_same k e es (λ w. omega arith))) in
    let c = ap length (in_more n e es z) in
    omega arith)
    (λ (z : bucket_of e.point ≡ n → ⊥).
    let a = total_more e es n (omega arith) in
    let c = ap length (in_same n e es z) in
    omega arith)
    (cases_eq (bucket_of e.point) n)

total_zero : (n : ℕ) → total (λ b. length (in_bucket b [])) n ≡ 0
unfolding total
total_zero zero = refl
total_zero (suc n) = let a = total_zero n in let b = ap length (in_none n) in omega arith

pub bucket_small : (p : ℕ) → bucket_of p < 64
bucket_small p = grind arith

pub total_all : (es : List Entry) → total (λ b. length (in_bucket b es)) 64 ≡ length es
total_all [] = total_zero 64
total_all (e ∷ es) = total_more e es 64 (bucket_small e.point) ∙ ap suc (total_all es)
