-- A bucket whose rows are read: what it has left, and how one row more is read.
use Rattle.std.proofs.Common.{◌≡◌, ℕ, suc, ◌+◌, ◌-◌, ◌<◌, ◌≤◌, List, [], ◌∷◌, ◌++◌, length, take, drop, sym, refl, ap, ◌∙◌, subst, ⊎_elim, arith, Result, Ok, Err, MatchResult}
use Rattle.std.specs.Result.{IsErrAnd}
use Rattle.std.proofs.lemmas.List.{length-append, drop-take}
use Rattle.std.proofs.lemmas.Bool.{cases_lt}
use Rattle.frame_map.specs.Rows.{Lawful}
use Rattle.frame_map.specs.declared.row.Entry.{Entry}
use Rattle.delta_layout.specs.Codes.{origin, code, Next, last_of}
use Rattle.delta_layout.proofs.CodeLaws.{origin_lawful, code-length, no_codes}
use Rattle.delta_code.specs.Reading.{rest, GotRow, NoRow}
use Rattle.delta_code.specs.declared.reader.Reader.{Reader}
use Rattle.delta_code.specs.declared.reader.ReaderFault.{ReaderFault}
use Rattle.delta_image.specs.Buckets.{bucket_of}
use Rattle.delta_image.specs.Images.{start_in, stretch, GoodStarts, GoodFront, BadRow}
use Rattle.delta_image.proofs.Fronts.{front_row, front_bucket, bucket_more, bad_unread, bad_bucket, bad_full}
use Rattle.delta_image.proofs.Layouts.{starts_inside}
use Rattle.delta_image.proofs.Stretches.{stretch-length, stretch_none}
use Rattle.delta_map.specs.Leaving.{Left, Read, Unread}
use Rattle.delta_map.specs.declared.rows.BucketRows.{BucketRows}

-- the bytes from `at` on, of those before `end`
left_is : (w : List ℕ) (at end : ℕ) → at ≤ end → drop at (take end w) ≡ stretch w at end
left_is w at end l = ap (λ n. drop at (take n w)) (let z : end ≡ at + (end - at) = omega arith in z) ∙ drop-take at (end - at) w

-- a bucket of which nothing is read yet
pub left_whole : (w : List ℕ) (b : ℕ) (s : BucketRows) → b < 64 → GoodStarts w 65 → s.reader.image.now ≡ take (start_in w (suc b)) w → s.reader.at ≡ start_in w b → Left w b s
left_whole w b s most g cut place = record {
  whole = starts_inside w g (suc b) most;
  cut = cut;
  inside = let r = g.rise b (omega arith) in omega arith;
}

module _ (w : List ℕ) (b : ℕ) (s : BucketRows) (l : Left w b s) where
  left_rest : rest s.reader ≡ stretch w s.reader.at (start_in w (suc b))
  left_rest = ap (λ l. drop s.reader.at l) l.cut ∙ left_is w s.reader.at (start_in w (suc b)) l.inside

  left_long : length (rest s.reader) ≡ start_in w (suc b) - s.reader.at
  left_long = ap length left_rest ∙ stretch-length w s.reader.at (start_in w (suc b)) l.whole

  pub left_none : rest s.reader ≡ [] → s.reader.at ≡ start_in w (suc b)
  left_none e = let far = left_long in let none = ap length e in let i = l.inside in omega arith

  pub left_read : (t : Reader) (e : Entry) → GotRow s.before s.reader t e → Read w b s (record { reader = t; before = e }) e
  left_read t e g =
      let some = code-length s.before e in
      let long = length-append (code s.before e) (rest t) in
      let whole = ap length g.coded in
      let far = left_long in
      let place = g.place in
      let i = l.inside in
      let in_bucket : t.at ≤ start_in w (suc b) = omega arith in
      let here : Left w b (record { reader = t; before = e }) = record { whole = l.whole; cut = g.image ∙ l.cut; inside = in_bucket } in
      record {
        follows = g.follows;
        coded = sym left_rest ∙ g.coded ∙ ap (λ l. code s.before e ++ l) (ap (λ l. drop t.at l) (g.image ∙ l.cut) ∙ left_is w t.at (start_in w (suc b)) in_bucket);
        before = refl;
        further = omega arith;
        left = here;
      }

  pub left_unread : (t : Reader) (f : ReaderFault) → (rest s.reader ≡ [] → ⊥) → NoRow s.before s.reader t f → Unread w b s f
  left_unread t f more n = record {
    byte = n.byte;
    goes =
        ⊎_elim
        (λ (l : s.reader.at < start_in w (suc b)). l)
        (λ (m : start_in w (suc b) ≤ s.reader.at). absurd (more (left_rest ∙ ap (λ a. stretch w a (start_in w (suc b))) (let i = l.inside in let z : s.reader.at ≡ start_in w (suc b) = omega arith in z) ∙ stretch_none w (start_in w (suc b)))))
        (cases_lt s.reader.at (start_in w (suc b)));
    none = λ lawful e q next h. n.none lawful e q next (left_rest ∙ h);
  }

-- n good rows before the place of the reader, the last of them the row before it
pub record Here (w : List ℕ) (b n : ℕ) (s : BucketRows) : Type 0 where
  pub front : GoodFront w b s.reader.at n
  pub last : s.before ≡ last_of origin front.part
  pub lawful : Lawful s.before.row
  pub left : Left w b s

module _ (w : List ℕ) (b : ℕ) (most : b < 64) where
  -- a bucket begins with no rows
  pub here_first : (n : ℕ) (s : BucketRows) → Left w b s → s.before ≡ origin → s.reader.at ≡ start_in w b → GoodFront w b (start_in w b) n → Here w b n s
  here_first n s l e z g =
      let h : GoodFront w b s.reader.at n = subst (λ a. GoodFront w b a n) (sym z) g in
      let none = no_codes origin h.part (h.read ∙ ap (λ a. stretch w (start_in w b) a) z ∙ stretch_none w (start_in w b)) in
      record {
        front = h;
        last = e ∙ ap (λ l. last_of origin l) (sym none);
        lawful = subst (λ x. Lawful x.row) (sym e) origin_lawful;
        left = l;
      }

  -- where none are left, the bucket is done
  pub here_done : (n : ℕ) (s : BucketRows) → Here w b n s → s.reader.at ≡ start_in w (suc b) → GoodFront w (suc b) (start_in w (suc b)) n
  here_done n s h e = front_bucket w b n most (subst (λ a. GoodFront w b a n) e h.front)

  -- one row more was read
  module _ (n : ℕ) (s t : BucketRows) (e : Entry) (h : Here w b n s) (r : Read w b s t e) where
    split : stretch w s.reader.at (start_in w (suc b)) ≡ code (last_of origin h.front.part) e ++ stretch w t.reader.at (start_in w (suc b))
    split = grind arith

    next_last : Next (last_of origin h.front.part) e
    next_last = subst (λ x. Next x e) h.last r.follows

    goes : s.reader.at < start_in w (suc b)
    goes = let f = r.further in let i = r.left.inside in omega arith

    pub here_more : n < 1024 → bucket_of e.point ≡ b → Here w b (n + 1) t
    here_more room own =
        let further = r.further in
        let more = front_row w b s.reader.at t.reader.at n e h.front most room (bucket_more b h.front.part e h.front.bucket next_last own) (omega arith) r.left.inside split in
        record {
          front = more.0;
          last = r.before ∙ sym (ap (λ l. last_of origin l) more.1 ∙ last_push origin h.front.part e);
          lawful = subst (λ x. Lawful x.row) (sym r.before) r.follows.lawful;
          left = r.left;
        }
      where
        last_push : (x : Entry) (xs : List Entry) (e : Entry) → last_of x (xs ++ e ∷ []) ≡ e
        last_push x [] e = refl
        last_push x (y ∷ ys) e = last_push y ys e

    pub other_bucket : (bucket_of e.point ≡ b → ⊥) → BadRow w n s.reader.at
    other_bucket other =
        bad_bucket w b s.reader.at n h.front most goes e (stretch w t.reader.at (start_in w (suc b))) (subst (λ x. Lawful x.row) h.last h.lawful) next_last split other

    -- there are too many
    pub too_many : 1024 ≤ n → BadRow w n s.reader.at
    too_many full = bad_full w b s.reader.at n h.front most goes full

  -- no row could be read
  pub unread : (n : ℕ) (s : BucketRows) (f : ReaderFault) → Here w b n s → Unread w b s f → BadRow w n f.byte
  unread n s f h u =
      subst (λ a. BadRow w n a) (sym u.byte)
      (bad_unread w b s.reader.at n h.front most u.goes
      (λ e q next z. u.none h.lawful e q (subst (λ x. Next x e) (sym h.last) next) (z ∙ ap (λ x. code x e ++ q) (sym h.last))))

-- what is known of a result is known of it with its error mapped
pub mapped_ok : {A E D : Type 0} (P : A → Type 0) (Q : E → Type 0) (F : E → D → Type 0) (r : Result A E) (o : Result A D) (x : A) →
    MatchResult r P Q → MatchResult r (λ x. o ≡ Ok x) (λ e. IsErrAnd o (F e)) → o ≡ Ok x → P x
mapped_ok P Q F (Ok y) o x h m e = let a = sym m ∙ e in let z : y ≡ x = cc in subst P z h
mapped_ok P Q F (Err y) (Ok z) x h m e = absurd m
mapped_ok P Q F (Err y) (Err z) x h m e = cc

pub mapped_err : {A E D : Type 0} (P : A → Type 0) (Q : E → Type 0) (F : E → D → Type 0) (r : Result A E) (o : Result A D) (d : D) →
    MatchResult r P Q → MatchResult r (λ x. o ≡ Ok x) (λ e. IsErrAnd o (F e)) → o ≡ Err d → (e : E) × Q e × F e d
mapped_err P Q F (Ok y) o d h m e = let a = sym m ∙ e in cc
mapped_err P Q F (Err y) (Ok z) d h m e = absurd m
mapped_err P Q F (Err y) (Err z) d h m e = let q : z ≡ d = cc in (y, h, subst (F y) q m)
