-- Which images are those of tables.
use Rattle.std.proofs.Common.{◌≡◌, ℕ, zero, suc, ◌+◌, ◌-◌, ◌*◌, ◌<◌, ◌≤◌, List, [], ◌∷◌, ◌++◌, length, get_or, sym, refl, ap, ◌∙◌, subst, append_assoc, append-nil, arith}
use Rattle.std.proofs.lemmas.List.{length-append, get_or_append_left}
use Rattle.frame_map.specs.Maps.{Point}
use Rattle.frame_map.specs.Rows.{Lawful}
use Rattle.frame_map.specs.Tables.{Table, blank, entry_at, row_for}
use Rattle.frame_map.specs.declared.row.Entry.{Entry}
use Rattle.frame_map.proofs.Listing.{table_rising}
use Rattle.frame_map.proofs.TableLaws.{row_for_some}
use Rattle.delta_layout.specs.Codes.{origin, codes, last_of}
use Rattle.delta_layout.proofs.CodeLaws.{origin_lawful, codes_none, codes-append, codes-length, no_codes}
use Rattle.delta_image.specs.Buckets.{bucket_of, in_bucket, body, start, delta_bytes, DeltaMeans}
use Rattle.delta_image.specs.Images.{start_in, stretch, GoodStarts, Bucket, rows_in, BadRow, BadStart}
use Rattle.delta_image.proofs.Chains.{front, bucket_chain, bucket_rising, bucket_belong, table_bucket}
use Rattle.delta_image.proofs.Layouts.{body_more, laid_starts, laid_bucket, laid_whole, starts_inside}
use Rattle.delta_image.proofs.Merging.{merged, merged_rises, merged_rows, merged_bucket, row_in_bucket, total, total_same, total_all, bucket_small}
use Rattle.frame_map.proofs.Rising.{rises_lower, rises_pairs, rises_high, rises_at, determined}
use Rattle.delta_image.proofs.Stretches.{stretch-length, stretch_join}

-- how many rows the first n buckets have
rows_total : (bs : ℕ → List Entry) (n : ℕ) → rows_in bs n ≡ total (λ k. length (bs k)) n
unfolding total rows_in
rows_total bs zero = refl
rows_total bs (suc n) = ap (λ x. x + length (bs n)) (rows_total bs n)

-- good buckets, laid out between good starts, are the image of one table
module _ (w : List ℕ) (byte : (i : ℕ) → get_or w i 0 < 256) (good : GoodStarts w 65) (bs : ℕ → List Entry)
    (buckets : (k : ℕ) → k < 64 → Bucket k (bs k))
    (laid : (k : ℕ) → k < 64 → codes origin (bs k) ≡ stretch w (start_in w k) (start_in w (suc k)))
    (few : rows_in bs 64 ≤ 1024) where
  same_bucket : (k : ℕ) → k < 64 → in_bucket k (merged bs 65536) ≡ bs k
  same_bucket k l = merged_bucket bs 65536 k (rises_lower 0 1 65536 (bs k) (omega arith) (bucket_rising k (bs k) (buckets k l))) (bucket_belong k (bs k) (buckets k l))

  -- an entry of the merged list stands in its bucket
  found : (P : Entry → Type 0) → ((k : ℕ) → k < 64 → (j : ℕ) → j < length (bs k) → P (entry_at (bs k) j)) → (i : ℕ) → i < length (merged bs 65536) → P (entry_at (merged bs 65536) i)
  found P h i l =
      let e : Entry = entry_at (merged bs 65536) i in
      let here = rises_at 0 65536 (merged bs 65536) (merged_rises bs 65536) i l in
      let there = sym (merged_rows bs 65536 e.point (rises_high 0 65536 (merged bs 65536) (merged_rises bs 65536) i l)) ∙ here in
      let f = row_for_some e.point (bs (bucket_of e.point)) e.row there in
      let same : entry_at (bs (bucket_of e.point)) f.0 ≡ e = λ t. record { point = f.2 t; row = f.3 t } in
      subst P same (h (bucket_of e.point) (bucket_small e.point) f.0 f.1)

  pub merged_length : length (merged bs 65536) ≡ rows_in bs 64
  merged_length =
      let a = total_all (merged bs 65536) in
      let b = total_same (λ k. length (in_bucket k (merged bs 65536))) (λ k. length (bs k)) 64 (λ k l. ap length (same_bucket k l)) in
      let c = rows_total bs 64 in
      omega arith

  merged_few : length (merged bs 65536) ≤ 1024
  merged_few = let a = merged_length in omega arith

  pub image_of_table : DeltaMeans w (merged bs 65536)
  image_of_table = record {
    table = record {
      few = merged_few;
      lawful = found (λ e. Lawful e.row) (λ k l j m. (buckets k l).lawful j m);
      points = found (λ e. Point e.point) (λ k l j m. (buckets k l).points j m);
      rises = rises_pairs 0 65536 (merged bs 65536) (merged_rises bs 65536);
    };
    laid = laid_whole w byte good (merged bs 65536) (λ k l. ap (λ xs. codes origin xs) (same_bucket k l) ∙ laid k l);
  }

-- an image of a table has good starts and, between them, the rows of the table's buckets
module _ (es : List Entry) (t : Table es) where
  body_short : (n : ℕ) → length (body es n) ≤ 20 * total (λ b. length (in_bucket b es)) n
  unfolding body total
  body_short zero = omega arith
  body_short (suc n) =
      let a = body_short n in
      let b = body_more es n in
      let c = codes-length origin (in_bucket n es) in
      omega arith

  pub image_fits : start es 64 < 65536
  image_fits = let a = body_short 64 in let b = total_all es in let c = t.few in omega arith

  pub table_starts : (w : List ℕ) → delta_bytes es ≡ w → GoodStarts w 65
  table_starts w e = subst (λ x. GoodStarts x 65) e (laid_starts es image_fits)

  pub table_laid : (w : List ℕ) → delta_bytes es ≡ w → (k : ℕ) → k < 64 → codes origin (in_bucket k es) ≡ stretch w (start_in w k) (start_in w (suc k))
  table_laid w e k l = sym (subst (λ x. stretch x (start_in x k) (start_in x (suc k)) ≡ codes origin (in_bucket k es)) e (laid_bucket es image_fits k l))

-- fewer good starts
fewer_starts : (w : List ℕ) (m n : ℕ) → m ≤ n → GoodStarts w n → GoodStarts w m
fewer_starts w m n l g = grind arith

pub bad_start_means : (w : List ℕ) (k : ℕ) → BadStart w k → (es : List Entry) → DeltaMeans w es → ⊥
bad_start_means w k b es m = b.bad (fewer_starts w (suc k) 65 b.inside (table_starts es m.table w m.laid))

bucket_front : (b : ℕ) (xs ys : List Entry) → Bucket b (xs ++ ys) → Bucket b xs
bucket_front b xs ys k =
    let long = length-append xs ys in
    let at = λ (i : ℕ) (l : i < length xs). get_or_append_left xs ys blank i l in
    record {
      lawful = λ i l. subst (λ e. Lawful e.row) (at i l) (k.lawful i (omega arith));
      points = λ i l. subst (λ e. Point e.point) (at i l) (k.points i (omega arith));
      rises = λ i j h l. omega (arith, ap (λ e. e.point) (at i (omega arith)), ap (λ e. e.point) (at j l), k.rises i j h (omega arith));
      belongs = λ i l. subst (λ e. bucket_of e.point ≡ b) (at i l) (k.belongs i (omega arith));
    }

-- buckets are told by their codes
pub bucket_same : (b : ℕ) (xs ys : List Entry) → Bucket b xs → Bucket b ys → codes origin xs ≡ codes origin ys → xs ≡ ys
bucket_same b xs ys kx ky h =
    let f = front origin xs ys [] origin_lawful (bucket_chain b xs kx) (bucket_chain b ys ky) (append-nil (codes origin xs) ∙ h) in
    let z = no_codes (last_of origin xs) f.0 (sym f.2) in
    sym (f.1 ∙ ap (λ l. xs ++ l) z ∙ append-nil xs)

-- an image is that of one table alone
pub table_unique : (w : List ℕ) (es es' : List Entry) → DeltaMeans w es → DeltaMeans w es' → es ≡ es'
table_unique w es es' m m' =
    determined 1 65536 1 65536 es es' (table_rising es m.table) (table_rising es' m'.table)
    (λ p.
    let k : ℕ = bucket_of p in
    let same : in_bucket k es ≡ in_bucket k es' =
    bucket_same k (in_bucket k es) (in_bucket k es') (table_bucket es m.table k) (table_bucket es' m'.table k)
    (table_laid es m.table w m.laid k (bucket_small p) ∙ sym (table_laid es' m'.table w m'.laid k (bucket_small p))) in
    sym (row_in_bucket p es) ∙ ap (λ l. row_for p l) same ∙ row_in_bucket p es')

-- the first rows of a bucket, where more bytes follow, are followed by one more row
goes_on : (b : ℕ) (xs ys : List Entry) (r : List ℕ) → Bucket b xs → Bucket b ys → codes origin xs ++ r ≡ codes origin ys → 0 < length r →
    (e : Entry) × (zs : List Entry) × (ys ≡ (xs ++ e ∷ []) ++ zs)
goes_on b xs ys r kx ky h l =
    let f = front origin xs ys r origin_lawful (bucket_chain b xs kx) (bucket_chain b ys ky) h in
    split f.0 f.1 f.2
  where
    split : (zs : List Entry) → ys ≡ xs ++ zs → r ≡ codes (last_of origin xs) zs → (e : Entry) × (zs : List Entry) × (ys ≡ (xs ++ e ∷ []) ++ zs)
    split [] p q = let a = ap length (q ∙ codes_none (last_of origin xs)) in absurd (omega arith)
    split (z ∷ zs) p q = (z, zs, p ∙ sym (append_assoc xs (z ∷ []) zs))

total_grows : (f : ℕ → ℕ) (k d : ℕ) → total f k ≤ total f (k + d)
unfolding total
total_grows f k zero = grind arith
total_grows f k (suc d) =
    let z = ap (λ n. total f n) (let z : k + suc d ≡ suc (k + d) = omega arith in z) in
    let a = total_grows f k d in
    omega arith

total_next : (f : ℕ → ℕ) (n : ℕ) → total f (suc n) ≡ total f n + f n
unfolding total
total_next f n = refl

pub bad_row_means : (w : List ℕ) (n at : ℕ) → BadRow w n at → (es : List Entry) → DeltaMeans w es → ⊥
bad_row_means w n at b es m =
    let g = b.front in
    let k : ℕ = b.place in
    let inside = b.inside in
    let long : start_in w (suc k) ≤ length w = start_in_bound (suc k) inside in
    let whole : codes origin g.part ++ stretch w at (start_in w (suc k)) ≡ codes origin (in_bucket k es) =
    ap (λ l. l ++ stretch w at (start_in w (suc k))) g.read
    ∙ stretch_join w (start_in w k) at (start_in w (suc k)) g.behind (let h = b.follows in omega arith)
    ∙ sym (table_laid es m.table w m.laid k inside) in
    let more = goes_on k g.part (in_bucket k es) (stretch w at (start_in w (suc k))) g.bucket (table_bucket es m.table k) whole
    (let a = stretch-length w at (start_in w (suc k)) long in let h = b.follows in omega arith) in
    let e : Entry = more.0 in
    let zs : List Entry = more.1 in
    let is : in_bucket k es ≡ (g.part ++ e ∷ []) ++ zs = more.2 in
    let kept : Bucket k (g.part ++ e ∷ []) = bucket_front k (g.part ++ e ∷ []) zs (subst (λ l. Bucket k l) is (table_bucket es m.table k)) in
    let laid : codes origin (g.part ++ e ∷ []) ++ codes (last_of origin (g.part ++ e ∷ [])) zs ≡ stretch w (start_in w k) (start_in w (suc k)) =
    sym (codes-append origin (g.part ++ e ∷ []) zs) ∙ ap (λ l. codes origin l) (sym is) ∙ table_laid es m.table w m.laid k inside in
    let len : suc (length g.part) ≤ length (in_bucket k es) =
    (let a = ap length is in let c = length-append (g.part ++ e ∷ []) zs in let d = length-append g.part (e ∷ []) in omega arith) in
    let room : n < 1024 =
    (let a = rows_total g.done k in
    let c = total_same (λ j. length (g.done j)) (λ j. length (in_bucket j es)) k (λ j l. ap length (same_done j l)) in
    let d = total_next (λ j. length (in_bucket j es)) k in
    let f = total_grows (λ j. length (in_bucket j es)) (suc k) (63 - k) in
    let z = ap (λ x. total (λ j. length (in_bucket j es)) x) (let z : suc k + (63 - k) ≡ 64 = omega arith in z) in
    let t = total_all es in
    let u = m.table.few in
    let v = g.many in
    omega arith) in
    b.bad e (codes (last_of origin (g.part ++ e ∷ [])) zs) room kept laid
  where
    same_done : (j : ℕ) → j < b.place → b.front.done j ≡ in_bucket j es
    same_done j l =
        bucket_same j (b.front.done j) (in_bucket j es) (b.front.buckets j l) (table_bucket es m.table j)
        (b.front.laid j l ∙ sym (table_laid es m.table w m.laid j (let h = b.inside in omega arith)))

    start_in_bound : (j : ℕ) → j ≤ 64 → start_in w j ≤ length w
    start_in_bound j l = starts_inside w (table_starts es m.table w m.laid) j l
