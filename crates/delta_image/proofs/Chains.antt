-- Rows coded one after another: their codes tell them.
use Rattle.std.proofs.Common.{◌≡◌, ℕ, suc, ◌<◌, List, [], ◌∷◌, ◌++◌, length, sym, refl, ap, ◌∙◌, subst, ⊎_elim, append_assoc, arith}
use Rattle.std.proofs.lemmas.List.{length-append, append_cancel_left}
use Rattle.frame_map.specs.Rows.{Lawful}
use Rattle.frame_map.specs.Tables.{Table}
use Rattle.frame_map.specs.declared.row.Entry.{Entry}
use Rattle.delta_layout.specs.Codes.{origin, code, codes, Chain, last_of}
use Rattle.delta_layout.proofs.CodeLaws.{code_unique, code-length}
use Rattle.delta_image.specs.Buckets.{bucket_of, in_bucket}
use Rattle.delta_image.specs.Images.{Bucket}
use Rattle.delta_image.proofs.Merging.{Each, each_at, each_from, Belong, bucket_belongs, bucket_rises, in_more, in_same, in_none}
use Rattle.frame_map.proofs.Listing.{table_rising}
use Rattle.frame_map.proofs.Rising.{Rises, rises_low, rises_high, rises_pairs, rises_from}
use Rattle.std.proofs.lemmas.Bool.{cases_eq}

pub each_in : (P : Entry → Type 0) (b : ℕ) (es : List Entry) → Each P es → Each P (in_bucket b es)
each_in P b [] h = subst (λ l. Each P l) (sym (in_none b)) tt
each_in P b (e ∷ es) h =
    ⊎_elim
    (λ (z : bucket_of e.point ≡ b). subst (λ l. Each P l) (sym (in_more b e es z)) (h.0, each_in P b es h.1))
    (λ (z : bucket_of e.point ≡ b → ⊥). subst (λ l. Each P l) (sym (in_same b e es z)) (each_in P b es h.1))
    (cases_eq (bucket_of e.point) b)

-- the parts of a bucket
pub bucket_rising : (b : ℕ) (es : List Entry) → Bucket b es → Rises 1 es 65536
bucket_rising b es k = rises_from 1 65536 es (omega arith) (λ i l. (k.points i l).0) (λ i l. (k.points i l).1) k.rises

pub bucket_belong : (b : ℕ) (es : List Entry) → Bucket b es → Belong b es
bucket_belong b es k = each_from (λ e. bucket_of e.point ≡ b) es k.belongs

pub bucket_from : (b : ℕ) (es : List Entry) → Each (λ e. Lawful e.row) es → Rises 1 es 65536 → Belong b es → Bucket b es
bucket_from b es l r h = record {
  lawful = each_at (λ e. Lawful e.row) es l;
  points = λ i k. (rises_low 1 65536 es r i k, rises_high 1 65536 es r i k);
  rises = rises_pairs 1 65536 es r;
  belongs = each_at (λ e. bucket_of e.point ≡ b) es h;
}

-- the buckets of a table
pub table_bucket : (es : List Entry) → Table es → (b : ℕ) → Bucket b (in_bucket b es)
table_bucket es t b =
    bucket_from b (in_bucket b es)
    (each_in (λ e. Lawful e.row) b es (each_from (λ e. Lawful e.row) es t.lawful))
    (bucket_rises b 1 65536 es (table_rising es t))
    (bucket_belongs b es)

chain_from : (low : ℕ) (b : Entry) (es : List Entry) → b.point < low → Each (λ e. Lawful e.row) es → Rises low es 65536 → Chain b es
chain_from low b [] h l r = tt
chain_from low b (e ∷ es) h l r = (
  record { lawful = l.0; above = let k = r.0 in omega arith; fits = rises_high low 65536 (e ∷ es) r 0 (omega arith) },
  chain_from (suc e.point) e es (omega arith) l.1 r.1,
)

-- a bucket's rows may follow one another
pub bucket_chain : (b : ℕ) (es : List Entry) → Bucket b es → Chain origin es
bucket_chain b es k = chain_from 1 origin es (omega arith) (each_from (λ e. Lawful e.row) es k.lawful) (bucket_rising b es k)

-- rows whose codes begin an image of rows are its first rows
pub front : (b : Entry) (xs ys : List Entry) (r : List ℕ) → Lawful b.row → Chain b xs → Chain b ys → codes b xs ++ r ≡ codes b ys →
    (zs : List Entry) × (ys ≡ xs ++ zs) × (r ≡ codes (last_of b xs) zs)
unfolding codes
front b [] ys r l cx cy h = (ys, refl, h)
front b (x ∷ xs) [] r l cx cy h =
    let a = ap length h in
    let c = length-append (code b x ++ codes x xs) r in
    let d = length-append (code b x) (codes x xs) in
    let s = code-length b x in
    absurd (omega arith)
front b (x ∷ xs) (y ∷ ys) r l cx cy h =
    let whole : code b x ++ (codes x xs ++ r) ≡ code b y ++ codes y ys = sym (append_assoc (code b x) (codes x xs) r) ∙ h in
    let e : x ≡ y = (code_unique b x y (codes x xs ++ r) (codes y ys) l cx.0 cy.0 whole).0 in
    let rest : codes x xs ++ r ≡ codes x ys =
    append_cancel_left (code b x) (codes x xs ++ r) (codes x ys) (whole ∙ ap (λ z. code b z ++ codes z ys) (sym e)) in
    let go = front x xs ys r cx.0.lawful cx.1 (subst (λ z. Chain z ys) (sym e) cy.1) rest in
    (go.0, (λ i. sym e i ∷ go.1 i), go.2)
