-- A search in a bucket: what was read lies below the point, and what is left is coded behind it.
use Rattle.std.proofs.Common.{◌≡◌, ℕ, suc, ◌<◌, ◌≤◌, List, [], ◌∷◌, ◌++◌, length, Some, None, sym, ap, ◌∙◌, subst, arith}
use Rattle.std.proofs.lemmas.List.{length-append}
use Rattle.frame_map.specs.Rows.{Lawful}
use Rattle.frame_map.specs.Tables.{row_for}
use Rattle.frame_map.specs.declared.row.Entry.{Entry}
use Rattle.frame_map.proofs.Rising.{row_for_head, row_for_tail, row_for_nil}
use Rattle.delta_layout.specs.Codes.{origin, code, codes, Chain}
use Rattle.delta_layout.proofs.CodeLaws.{origin_lawful, code_unique, code-length, codes_none, codes-cons, no_codes}
use Rattle.delta_code.specs.declared.reader.ReaderFault.{ReaderFault}
use Rattle.delta_image.specs.Buckets.{bucket_of, in_bucket, DeltaMeans}
use Rattle.delta_image.specs.Images.{start_in, stretch, GoodStarts}
use Rattle.delta_image.proofs.Chains.{bucket_chain, table_bucket}
use Rattle.delta_image.proofs.Exact.{table_starts, table_laid, table_unique}
use Rattle.delta_image.proofs.Merging.{row_in_bucket, bucket_small}
use Rattle.delta_image.proofs.Stretches.{stretch-length, stretch_none}
use Rattle.delta_map.specs.Leaving.{Left, Read, Unread}
use Rattle.delta_map.specs.declared.rows.BucketRows.{BucketRows}

-- the rest of the point's bucket, behind the row before it: the rows of the table that are left there
pub record Seeking (w : List ℕ) (p : ℕ) (s : BucketRows) : Type 0 where
  pub entries : List Entry
  pub means : DeltaMeans w entries
  pub rows : List Entry
  pub chain : Chain s.before rows
  pub lawful : Lawful s.before.row
  pub left : Left w (bucket_of p) s
  pub coded : stretch w s.reader.at (start_in w (suc (bucket_of p))) ≡ codes s.before rows
  pub same : row_for p entries ≡ row_for p rows

pub image_starts : (w : List ℕ) → ((es : List Entry) × DeltaMeans w es) → GoodStarts w 65
image_starts w t = table_starts t.0 t.1.table w t.1.laid

pub seek_first : (w : List ℕ) (p : ℕ) (s : BucketRows) → ((es : List Entry) × DeltaMeans w es) → Left w (bucket_of p) s → s.before ≡ origin → s.reader.at ≡ start_in w (bucket_of p) → Seeking w p s
seek_first w p s t l e z =
    let es : List Entry = t.0 in
    let m = t.1 in
    record {
      entries = es;
      means = m;
      rows = in_bucket (bucket_of p) es;
      chain = subst (λ b. Chain b (in_bucket (bucket_of p) es)) (sym e) (bucket_chain (bucket_of p) (in_bucket (bucket_of p) es) (table_bucket es m.table (bucket_of p)));
      lawful = subst (λ b. Lawful b.row) (sym e) origin_lawful;
      left = l;
      coded =
          ap (λ a. stretch w a (start_in w (suc (bucket_of p)))) z
          ∙ sym (table_laid es m.table w m.laid (bucket_of p) (bucket_small p))
          ∙ ap (λ b. codes b (in_bucket (bucket_of p) es)) (sym e);
      same = sym (row_in_bucket p es);
    }

-- rows above the point have none for it
chain_none : (p : ℕ) (b : Entry) (es : List Entry) → p ≤ b.point → Chain b es → row_for p es ≡ None
chain_none p b [] l c = row_for_nil p
chain_none p b (e ∷ es) l c = let a = c.0.above in row_for_tail p e es (λ z. omega arith) ∙ chain_none p e es (omega arith) c.1

module _ (w : List ℕ) (p : ℕ) (s : BucketRows) (k : Seeking w p s) where
  -- the table's row, whichever table one speaks of
  any_table : (es : List Entry) → DeltaMeans w es → row_for p es ≡ row_for p k.rows
  any_table es m = ap (λ l. row_for p l) (table_unique w es k.entries m k.means) ∙ k.same

  -- nothing is left
  pub seek_none : s.reader.at ≡ start_in w (suc (bucket_of p)) → (es : List Entry) → DeltaMeans w es → None ≡ row_for p es
  seek_none e es m =
      let none = no_codes s.before k.rows (sym k.coded ∙ ap (λ a. stretch w a (start_in w (suc (bucket_of p)))) e ∙ stretch_none w (start_in w (suc (bucket_of p)))) in
      sym (any_table es m ∙ ap (λ l. row_for p l) none ∙ row_for_nil p)

  -- where bytes are left, a row can be read
  pub seek_read : (f : ReaderFault) → Unread w (bucket_of p) s f → ⊥
  seek_read f u = split k.rows k.chain k.coded
    where
      split : (ls : List Entry) → Chain s.before ls → stretch w s.reader.at (start_in w (suc (bucket_of p))) ≡ codes s.before ls → ⊥
      split [] c h =
          let goes = u.goes in
          let whole = k.left.whole in
          omega (arith, stretch-length w s.reader.at (start_in w (suc (bucket_of p))) whole, ap length (h ∙ codes_none s.before))
      split (z ∷ zs) c h = u.none k.lawful z (codes z zs) c.0 (h ∙ codes-cons s.before z zs)

  -- a row was read: it is the next one of the table
  module _ (t : BucketRows) (e : Entry) (r : Read w (bucket_of p) s t e) where
    took : (zs : List Entry) × (k.rows ≡ e ∷ zs) × (stretch w t.reader.at (start_in w (suc (bucket_of p))) ≡ codes e zs) × Chain e zs
    took = split k.rows k.chain (sym k.coded ∙ r.coded)
      where
        split : (ls : List Entry) → Chain s.before ls → codes s.before ls ≡ code s.before e ++ stretch w t.reader.at (start_in w (suc (bucket_of p))) →
            (zs : List Entry) × (ls ≡ e ∷ zs) × (stretch w t.reader.at (start_in w (suc (bucket_of p))) ≡ codes e zs) × Chain e zs
        split [] c h = absurd (omega (arith, ap length (sym (codes_none s.before) ∙ h), length-append (code s.before e) (stretch w t.reader.at (start_in w (suc (bucket_of p)))), code-length s.before e))
        split (z ∷ zs) c h =
            let both = code_unique s.before z e (codes z zs) (stretch w t.reader.at (start_in w (suc (bucket_of p)))) k.lawful c.0 r.follows (sym (codes-cons s.before z zs) ∙ h) in
            let same : z ≡ e = both.0 in
            (zs, (λ i. same i ∷ zs), sym both.1 ∙ ap (λ x. codes x zs) same, subst (λ x. Chain x zs) same c.1)

    pub seek_found : e.point ≡ p → (es : List Entry) → DeltaMeans w es → Some e.row ≡ row_for p es
    seek_found z es m =
        let t = took in
        sym (any_table es m ∙ ap (λ l. row_for p l) t.1 ∙ ap (λ q. row_for q (e ∷ t.0)) (sym z) ∙ row_for_head e t.0)

    pub seek_past : p < e.point → (es : List Entry) → DeltaMeans w es → None ≡ row_for p es
    seek_past l es m =
        let t = took in
        sym (any_table es m ∙ ap (λ l. row_for p l) t.1 ∙ row_for_tail p e t.0 (λ z. omega arith) ∙ chain_none p e t.0 (omega arith) t.3)

    pub seek_more : e.point < p → Seeking w p t
    seek_more l =
        let n = took in
        record {
          entries = k.entries;
          means = k.means;
          rows = n.0;
          chain = subst (λ x. Chain x n.0) (sym r.before) n.3;
          lawful = subst (λ x. Lawful x.row) (sym r.before) r.follows.lawful;
          left = r.left;
          coded = n.2 ∙ ap (λ x. codes x n.0) (sym r.before);
          same = k.same ∙ ap (λ l. row_for p l) n.1 ∙ row_for_tail p e n.0 (λ z. omega arith);
        }
