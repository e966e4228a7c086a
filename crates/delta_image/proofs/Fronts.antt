-- Good rows, one more at a time.
use Rattle.std.proofs.Common.{◌≡◌, ℕ, zero, suc, ◌+◌, ◌<◌, ◌≤◌, cond, eqb, List, [], ◌∷◌, ◌++◌, length, get_or, sym, refl, ap, ◌∙◌, subst, ⊎_elim, append_assoc, arith}
use Rattle.std.proofs.lemmas.List.{length_push, get_or_append_left, get_or_push, append_cancel_left, append_cancel_right}
use Rattle.std.proofs.lemmas.Bool.{cases_lt, eq-eqb, ne_eqb, cond-true, cond-false}
use Rattle.frame_map.specs.Maps.{Point}
use Rattle.frame_map.specs.Rows.{Lawful}
use Rattle.frame_map.specs.Tables.{blank, entry_at}
use Rattle.frame_map.specs.declared.row.Entry.{Entry}
use Rattle.delta_layout.specs.Codes.{origin, code, codes, Next, Chain, last_of}
use Rattle.delta_layout.proofs.CodeLaws.{code_unique, codes_none, codes_one, codes-append, no_codes}
use Rattle.delta_image.specs.Buckets.{bucket_of, DeltaMeans}
use Rattle.delta_image.specs.Images.{start_in, stretch, GoodStarts, Bucket, rows_in, GoodFront, BadRow}
use Rattle.delta_image.proofs.Chains.{bucket_chain}
use Rattle.delta_image.proofs.Exact.{image_of_table, merged_length}
use Rattle.delta_image.proofs.Merging.{merged}
use Rattle.delta_image.proofs.Stretches.{stretch_join, stretch_none}

no_bucket : (b : ℕ) → Bucket b []
no_bucket b = grind arith

pub front_none : (w : List ℕ) → GoodStarts w 65 → GoodFront w 0 (start_in w 0) 0
unfolding rows_in
front_none w g = record {
  starts = g;
  done = λ k. [];
  buckets = λ k l. absurd (omega arith);
  laid = λ k l. absurd (omega arith);
  part = [];
  bucket = no_bucket 0;
  behind = omega arith;
  read = codes_none origin ∙ sym (stretch_none w (start_in w 0));
  many = refl;
  few = omega arith;
}

-- the last row of a bucket may follow the one before it
chain_last : (b : Entry) (xs : List Entry) (e : Entry) → Chain b (xs ++ e ∷ []) → Next (last_of b xs) e
chain_last b [] e c = c.0
chain_last b (x ∷ xs) e c = chain_last x xs e c.1

pub bucket_next : (b : ℕ) (xs : List Entry) (e : Entry) → Bucket b (xs ++ e ∷ []) → Next (last_of origin xs) e
bucket_next b xs e k = chain_last origin xs e (bucket_chain b (xs ++ e ∷ []) k)

-- every row of a chain lies at or below the last
chain_below : (b : Entry) (xs : List Entry) → Chain b xs → (i : ℕ) → i < length xs → (entry_at xs i).point ≤ (last_of b xs).point
chain_below b [] c i l = absurd (omega arith)
chain_below b (x ∷ xs) c zero l = chain_up x xs c.1
  where
    chain_up : (x : Entry) (xs : List Entry) → Chain x xs → x.point ≤ (last_of x xs).point
    chain_up x [] c = omega arith
    chain_up x (y ∷ ys) c = let h = chain_up y ys c.1 in let k = c.0.above in omega arith
chain_below b (x ∷ xs) c (suc i) l = chain_below x xs c.1 i (omega arith)

-- a row that may follow the last one makes the bucket longer
pub bucket_more : (b : ℕ) (xs : List Entry) (e : Entry) → Bucket b xs → Next (last_of origin xs) e → bucket_of e.point ≡ b → Bucket b (xs ++ e ∷ [])
bucket_more b xs e k n h =
    let long = length_push xs e in
    let old = λ (i : ℕ) (l : i < length xs). get_or_append_left xs (e ∷ []) blank i l in
    let each = λ (P : Entry → Type 0) (f : (i : ℕ) → i < length xs → P (entry_at xs i)) (p : P e) (i : ℕ) (l : i < length (xs ++ e ∷ [])).
    ⊎_elim {A = i < length xs} {B = length xs ≤ i}
    (λ a. subst P (sym (old i a)) (f i a))
    (λ a. subst P (sym (get_or_push xs e blank i (omega arith))) p)
    (cases_lt i (length xs)) in
    record {
      lawful = each (λ e. Lawful e.row) k.lawful n.lawful;
      points = each (λ e. Point e.point) k.points (let a = n.above in omega arith, n.fits);
      rises = λ i j u l.
          ⊎_elim {A = j < length xs} {B = length xs ≤ j}
          (λ a. omega (arith, ap (λ e. e.point) (old i (omega arith)), ap (λ e. e.point) (old j a), k.rises i j u a))
          (λ a. omega (arith, ap (λ e. e.point) (old i (omega arith)), ap (λ e. e.point) (get_or_push xs e blank j (omega arith)), chain_below origin xs (bucket_chain b xs k) i (omega arith), n.above))
          (cases_lt j (length xs));
      belongs = each (λ e. bucket_of e.point ≡ b) k.belongs h;
    }

-- one good row more: e was read at the byte `at`, and the bytes from `to` on are left of its bucket
pub front_row : (w : List ℕ) (b at to n : ℕ) (e : Entry) (g : GoodFront w b at n) → b < 64 → n < 1024 →
    Bucket b (g.part ++ e ∷ []) → at ≤ to → to ≤ start_in w (suc b) →
    stretch w at (start_in w (suc b)) ≡ code (last_of origin g.part) e ++ stretch w to (start_in w (suc b)) →
    (h : GoodFront w b to (n + 1)) × (h.part ≡ g.part ++ e ∷ [])
front_row w b at to n e g inside room k l m h =
    let here : code (last_of origin g.part) e ≡ stretch w at to =
    append_cancel_right (code (last_of origin g.part) e) (stretch w at to) (stretch w to (start_in w (suc b)))
    (sym h ∙ sym (stretch_join w at to (start_in w (suc b)) l m)) in (
      record {
        starts = g.starts;
        done = g.done;
        buckets = g.buckets;
        laid = g.laid;
        part = g.part ++ e ∷ [];
        bucket = k;
        behind = let a = g.behind in omega arith;
        read =
            codes-append origin g.part (e ∷ [])
            ∙ ap (λ l. codes origin g.part ++ l) (codes_one (last_of origin g.part) e ∙ here)
            ∙ ap (λ l. l ++ stretch w at to) g.read
            ∙ stretch_join w (start_in w b) at to g.behind l;
        many = let a = length_push g.part e in let c = g.many in omega arith;
        few = omega arith;
      },
      refl,
    )

-- a bucket that is read to its end is done
pub front_bucket : (w : List ℕ) (b n : ℕ) → b < 64 → GoodFront w b (start_in w (suc b)) n → GoodFront w (suc b) (start_in w (suc b)) n
unfolding rows_in
front_bucket w b n inside g = record {
  starts = g.starts;
  done = now;
  buckets = λ k l. each (λ k es. Bucket k es) g.buckets g.bucket k l;
  laid = λ k l. each (λ k es. codes origin es ≡ stretch w (start_in w k) (start_in w (suc k))) g.laid g.read k l;
  part = [];
  bucket = no_bucket (suc b);
  behind = omega arith;
  read = codes_none origin ∙ sym (stretch_none w (start_in w (suc b)));
  many = let a = rows_same b (omega arith) in let c = ap length (at_b b refl) in let d = g.many in omega arith;
  few = g.few;
}
  where
    now : ℕ → List Entry
    now k = cond (eqb k b) g.part (g.done k)

    at_b : (k : ℕ) → k ≡ b → now k ≡ g.part
    at_b k e = cond-true (eqb k b) g.part (g.done k) (eq-eqb k b e)

    below_b : (k : ℕ) → (k ≡ b → ⊥) → now k ≡ g.done k
    below_b k ne = cond-false (eqb k b) g.part (g.done k) (ne_eqb k b ne)

    each : (P : ℕ → List Entry → Type 0) → ((k : ℕ) → k < b → P k (g.done k)) → P b g.part → (k : ℕ) → k < suc b → P k (now k)
    each P f p k l = grind arith

    rows_same : (k : ℕ) → k ≤ b → rows_in now k ≡ rows_in g.done k
    rows_same zero l = refl
    rows_same (suc k) l = let a = rows_same k (omega arith) in let c = ap length (below_b k (λ z. omega arith)) in omega arith

-- all rows of all buckets
pub front_table : (w : List ℕ) (n : ℕ) → ((i : ℕ) → get_or w i 0 < 256) → (g : GoodFront w 64 (start_in w 64) n) → DeltaMeans w (merged g.done 65536)
front_table w n byte g = image_of_table w byte g.starts g.done g.buckets g.laid (let a = g.many in let b = g.few in omega arith)

pub front_length : (w : List ℕ) (n : ℕ) → ((i : ℕ) → get_or w i 0 < 256) → (g : GoodFront w 64 (start_in w 64) n) → length (merged g.done 65536) ≡ n
front_length w n byte g =
    let none = no_part w 64 n g in
    let a = merged_length w byte g.starts g.done g.buckets g.laid (let a = g.many in let b = g.few in omega arith) in
    let b = g.many in
    let c = ap length none in
    omega arith
  where
    no_part : (w : List ℕ) (b n : ℕ) (g : GoodFront w b (start_in w b) n) → g.part ≡ []
    no_part w b n g = no_codes origin g.part (g.read ∙ stretch_none w (start_in w b))

module _ (w : List ℕ) (b at n : ℕ) (g : GoodFront w b at n) (inside : b < 64) (goes : at < start_in w (suc b)) where
  -- what lies at the byte `at`, if one row more is laid out there
  after : (e : Entry) (q : List ℕ) → codes origin (g.part ++ e ∷ []) ++ q ≡ stretch w (start_in w b) (start_in w (suc b)) →
      stretch w at (start_in w (suc b)) ≡ code (last_of origin g.part) e ++ q
  after e q h =
      append_cancel_left (stretch w (start_in w b) at) (stretch w at (start_in w (suc b))) (code (last_of origin g.part) e ++ q)
      (stretch_join w (start_in w b) at (start_in w (suc b)) g.behind (omega arith)
      ∙ sym h
      ∙ ap (λ l. l ++ q) (codes-append origin g.part (e ∷ []) ∙ ap (λ l. codes origin g.part ++ l) (codes_one (last_of origin g.part) e) ∙ ap (λ l. l ++ code (last_of origin g.part) e) g.read)
      ∙ append_assoc (stretch w (start_in w b) at) (code (last_of origin g.part) e) q)

  -- no row can be read there
  pub bad_unread : ((e : Entry) (q : List ℕ) → Next (last_of origin g.part) e → stretch w at (start_in w (suc b)) ≡ code (last_of origin g.part) e ++ q → ⊥) → BadRow w n at
  bad_unread never = record {
    place = b;
    inside = inside;
    front = g;
    follows = goes;
    bad = λ e q room k h. never e q (bucket_next b g.part e k) (after e q h);
  }

  -- the row that is read there belongs to another bucket
  pub bad_bucket : (e : Entry) (q : List ℕ) → Lawful (last_of origin g.part).row → Next (last_of origin g.part) e → stretch w at (start_in w (suc b)) ≡ code (last_of origin g.part) e ++ q → (bucket_of e.point ≡ b → ⊥) → BadRow w n at
  bad_bucket e q lawful next h other = record {
    place = b;
    inside = inside;
    front = g;
    follows = goes;
    bad = λ e' q' room k h'.
        let same : e ≡ e' = (code_unique (last_of origin g.part) e e' q q' lawful next (bucket_next b g.part e' k) (sym h ∙ after e' q' h')).0 in
        let last : bucket_of (entry_at (g.part ++ e' ∷ []) (length g.part)).point ≡ b = k.belongs (length g.part) (let a = length_push g.part e' in omega arith) in
        other (ap (λ x. bucket_of x.point) (same ∙ sym (get_or_push g.part e' blank (length g.part) refl)) ∙ last);
  }

  -- there are 1,024 rows already
  pub bad_full : 1024 ≤ n → BadRow w n at
  bad_full full = grind arith
