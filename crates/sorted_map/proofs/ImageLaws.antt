-- The rows of an image, one more at a time.
use Rattle.std.specs.Prelude.{◌≡◌, ℕ, zero, suc, ◌+◌, ◌*◌, ◌^◌, ◌<◌, ◌≤◌, List, [], ◌∷◌, ◌++◌, length, take, slice_index, refl}
use Rattle.std.proofs.Common.{sym, subst, ◌∙◌, append_assoc, append-nil, ⊎_elim, arith}
use Rattle.std.proofs.Math.Path.{ap}
use Rattle.std.proofs.lemmas.List.{get_or_append_left, get_or-append-add, get_or-take, get_or_push, length_push, length-take, length-take-le, take_more, take_all}
use Rattle.std.proofs.lemmas.Bool.{cases_eq, cases_lt}
use Rattle.frame_map.specs.Maps.{Point}
use Rattle.frame_map.specs.Rows.{Lawful}
use Rattle.frame_map.specs.Tables.{Table, blank, entry_at}
use Rattle.frame_map.specs.declared.row.Entry.{Entry}
use Rattle.refusal.specs.declared.Refusal.{Refusal}
use Rattle.refusal.specs.declared.Refusal.TheVariants.{BadImage}
use Rattle.sorted_map.specs.Checking.{five, point_before, Follows}
use Rattle.sorted_map.specs.Decoding.{spelled, entry_in}
use Rattle.sorted_map.specs.Layout.{sorted_row, sorted_words, Means, GoodRows, FirstBad, RefusedImage, sorted_fault}
use Rattle.sorted_map.proofs.LayoutLaws.{undone}

pub length_sorted : (es : List Entry) → length (sorted_words es) ≡ 5 * length es
unfolding sorted_words
length_sorted [] = refl
length_sorted (e ∷ es) = omega (arith, length_sorted es)

pub sorted_push : (es : List Entry) (e : Entry) → sorted_words (es ++ e ∷ []) ≡ sorted_words es ++ sorted_row e
unfolding sorted_words
sorted_push [] e = refl
sorted_push (x ∷ es) e = ap (λ l. sorted_row x ++ l) (sorted_push es e)

-- word j of row i
pub sorted_at : (es : List Entry) (i j k : ℕ) → k ≡ 5 * i + j → i < length es → j < 5 → slice_index (sorted_words es) k ≡ slice_index (sorted_row (entry_at es i)) j
unfolding sorted_words
sorted_at [] i j k e l s = absurd (omega arith)
sorted_at (x ∷ es) zero j k e l s =
    let same : k ≡ j = omega arith in
    ap (λ n. slice_index (sorted_row x ++ sorted_words es) n) same ∙ get_or_append_left (sorted_row x) (sorted_words es) 0 j s
sorted_at (x ∷ es) (suc i) j k e l s =
    let next : k ≡ 5 + (5 * i + j) = omega arith in
    ap (λ n. slice_index (sorted_row x ++ sorted_words es) n) next
    ∙ get_or-append-add (sorted_row x) (sorted_words es) (5 * i + j) 0
    ∙ sorted_at es i j (5 * i + j) refl (omega arith) s

pub sorted_take : (es : List Entry) (n k : ℕ) → k ≡ 5 * n → take k (sorted_words es) ≡ sorted_words (take n es)
unfolding sorted_words
sorted_take es zero k e = ap (λ m. take m (sorted_words es)) (let z : k ≡ 0 = omega arith in z)
sorted_take [] (suc n) k e = ap (λ m. take {A = ℕ} m []) (let z : k ≡ suc (5 * n + 4) = omega arith in z)
sorted_take (x ∷ es) (suc n) k e =
    ap (λ m. take m (sorted_row x ++ sorted_words es)) (let z : k ≡ suc (suc (suc (suc (suc (5 * n))))) = omega arith in z)
    ∙ ap (λ l. sorted_row x ++ l) (sorted_take es n (5 * n) refl)

-- word j of row i in an image whose first n rows are good
good_word : (ws : List ℕ) (n : ℕ) (g : GoodRows ws n) (i j k : ℕ) → k ≡ 5 * i + j → i < n → j < 5 → slice_index ws k ≡ slice_index (sorted_row (entry_at g.entries i)) j
good_word ws n g i j k e l s =
    sym (get_or-take (5 * n) ws k 0 (omega arith))
    ∙ ap (λ m. slice_index m k) (sym g.laid)
    ∙ sorted_at g.entries i j k e (omega (arith, g.many)) s

module _ (ws : List ℕ) (n : ℕ) (g : GoodRows ws n) (i : ℕ) (l : i < n) where
  five_good : five ws i ≡ sorted_row (entry_at g.entries i)
  five_good = λ t.
      good_word ws n g i 0 (5 * i) (omega arith) l (omega arith) t
      ∷ good_word ws n g i 1 (5 * i + 1) refl l (omega arith) t
      ∷ good_word ws n g i 2 (5 * i + 2) refl l (omega arith) t
      ∷ good_word ws n g i 3 (5 * i + 3) refl l (omega arith) t
      ∷ good_word ws n g i 4 (5 * i + 4) refl l (omega arith) t
      ∷ []

  -- a good row is read as the entry that it was laid out from
  pub read_back : entry_in ws i ≡ entry_at g.entries i
  unfolding entry_in
  read_back =
      ap (λ w. spelled (slice_index w 0) (slice_index w 1) (slice_index w 2) (slice_index w 3) (slice_index w 4)) five_good
      ∙ undone (entry_at g.entries i) (g.table.lawful i (omega (arith, g.many)))

-- one word more of an image
take_next : (ws : List ℕ) (i j : ℕ) → j ≡ i + 1 → i < length ws → (zs : List ℕ) → take i ws ++ (slice_index ws i ∷ zs) ≡ take j ws ++ zs
take_next ws i j e l zs =
    sym (append_assoc (take i ws) (slice_index ws i ∷ []) zs)
    ∙ ap (λ l. l ++ zs) (sym (take_more ws i 0 l))
    ∙ ap (λ n. take n ws ++ zs) (sym e)

take_five : (ws : List ℕ) (n : ℕ) → 5 * n + 5 ≤ length ws → take (5 * n) ws ++ five ws n ≡ take (5 * (n + 1)) ws
take_five ws n l =
    take_next ws (5 * n) (5 * n + 1) refl (omega arith) _
    ∙ take_next ws (5 * n + 1) (5 * n + 2) (omega arith) (omega arith) _
    ∙ take_next ws (5 * n + 2) (5 * n + 3) (omega arith) (omega arith) _
    ∙ take_next ws (5 * n + 3) (5 * n + 4) (omega arith) (omega arith) _
    ∙ take_next ws (5 * n + 4) (5 * (n + 1)) (omega arith) (omega arith) _
    ∙ append-nil (take (5 * (n + 1)) ws)

-- what lies before the last entry of a list, and that entry
at_left : (es : List Entry) (e : Entry) (i : ℕ) → i < length es → entry_at (es ++ e ∷ []) i ≡ entry_at es i
at_left es e i l = get_or_append_left es (e ∷ []) blank i l

at_end : (es : List Entry) (e : Entry) (i : ℕ) → length es ≡ i → entry_at (es ++ e ∷ []) i ≡ e
at_end es e i l = get_or_push es e blank i l

-- every earlier point is at most the one before row n
before_last : (ws : List ℕ) (n : ℕ) (g : GoodRows ws n) (i : ℕ) → i < n → (entry_at g.entries i).point ≤ point_before ws n
unfolding point_before
before_last ws zero g i l = absurd (omega arith)
before_last ws (suc m) g i l =
    let last : (entry_in ws m).point ≡ (entry_at g.entries m).point = ap (λ e. e.point) (read_back ws (suc m) g m (omega arith)) in
    ⊎_elim
    (λ (e : i ≡ m). omega (arith, ap (λ k. (entry_at g.entries k).point) e))
    (λ (ne : i ≡ m → ⊥). omega (arith, g.table.rises i m (omega arith) (omega (arith, g.many))))
    (cases_eq i m)

-- a row that may follow makes one good row more
pub good_more : (ws : List ℕ) (n : ℕ) → GoodRows ws n → Follows ws n (point_before ws n) → (entry_in ws n).point < 2 ^ 16 → n < 1024 → 5 * n + 5 ≤ length ws → GoodRows ws (n + 1)
good_more ws n g f fits few whole =
    let es : List Entry = g.entries in
    let e : Entry = entry_in ws n in
    record {
      entries = es ++ e ∷ [];
      table = record {
        few = omega (arith, length_push es e, g.many);
        lawful = λ i l. each (λ x. Lawful x.row) g.table.lawful f.lawful i l;
        points = λ i l. each (λ x. Point x.point) g.table.points (let a = f.above in omega arith, fits) i l;
        rises = λ i j h l. rise i j h l;
      };
      many = length_push es e ∙ ap (λ k. k + 1) g.many;
      laid = sorted_push es e ∙ ap (λ l. l ++ sorted_row e) g.laid ∙ ap (λ l. take (5 * n) ws ++ l) f.clean ∙ take_five ws n whole;
    }
  where
    each : (P : Entry → Type 0) → ((i : ℕ) → i < length g.entries → P (entry_at g.entries i)) → P (entry_in ws n) → (i : ℕ) → i < length (g.entries ++ entry_in ws n ∷ []) → P (entry_at (g.entries ++ entry_in ws n ∷ []) i)
    each P h p i l =
        ⊎_elim
        (λ (b : i < length g.entries). subst P (sym (at_left g.entries (entry_in ws n) i b)) (h i b))
        (λ (b : length g.entries ≤ i). subst P (sym (at_end g.entries (entry_in ws n) i (omega (arith, length_push g.entries (entry_in ws n))))) p)
        (cases_lt i (length g.entries))

    rise : (i j : ℕ) → i < j → j < length (g.entries ++ entry_in ws n ∷ []) → (entry_at (g.entries ++ entry_in ws n ∷ []) i).point < (entry_at (g.entries ++ entry_in ws n ∷ []) j).point
    rise i j h l =
        let a = ap (λ x. x.point) (at_left g.entries (entry_in ws n) i (omega (arith, length_push g.entries (entry_in ws n)))) in
        ⊎_elim
        (λ (b : j < length g.entries). omega (arith, a, ap (λ x. x.point) (at_left g.entries (entry_in ws n) j b), g.table.rises i j h b))
        (λ (b : length g.entries ≤ j).
        omega (
          arith,
          a,
          ap (λ x. x.point) (at_end g.entries (entry_in ws n) j (omega (arith, length_push g.entries (entry_in ws n)))),
          before_last ws n g i (omega (arith, length_push g.entries (entry_in ws n), g.many)),
          f.above,
        ))
        (cases_lt j (length g.entries))

-- the point of a good row lies above the one before
rises_above : (ws : List ℕ) (n : ℕ) (g : GoodRows ws (n + 1)) → point_before ws n < (entry_in ws n).point
unfolding point_before
rises_above ws zero g = let p = (g.table.points 0 (omega (arith, g.many))).0 in omega (arith, ap (λ e. e.point) (read_back ws 1 g 0 (omega arith)))
rises_above ws (suc m) g =
    omega (
      arith,
      ap (λ e. e.point) (read_back ws (suc m + 1) g m (omega arith)),
      ap (λ e. e.point) (read_back ws (suc m + 1) g (suc m) (omega arith)),
      g.table.rises m (suc m) (omega arith) (omega (arith, g.many)),
    )

-- and with one good row more, that row may follow
pub good_follows : (ws : List ℕ) (n : ℕ) → GoodRows ws (n + 1) → Follows ws n (point_before ws n)
good_follows ws n g =
    let back = read_back ws (n + 1) g n (omega arith) in
    record {
      lawful = subst (λ e. Lawful e.row) (sym back) (g.table.lawful n (omega (arith, g.many)));
      above = rises_above ws n g;
      clean = ap sorted_row back ∙ sym (five_good ws (n + 1) g n (omega arith));
    }

pub good_none : (ws : List ℕ) → GoodRows ws 0
unfolding sorted_words
good_none ws = record {
  entries = [];
  table = record { few = omega arith; lawful = λ i h. absurd (omega arith); points = λ i h. absurd (omega arith); rises = λ i j k h. absurd (omega arith) };
  many = refl;
  laid = refl;
}

-- the first rows of a table are a table
table_take : (es : List Entry) (n : ℕ) → n ≤ length es → Table es → Table (take n es)
table_take es n l t =
    let len : length (take n es) ≡ n = length-take-le n es l in
    record {
      few = omega (arith, t.few);
      lawful = λ i h. subst (λ e. Lawful e.row) (sym (get_or-take n es i blank (omega arith))) (t.lawful i (omega arith));
      points = λ i h. subst (λ e. Point e.point) (sym (get_or-take n es i blank (omega arith))) (t.points i (omega arith));
      rises = λ i j h k. omega (arith, ap (λ e. e.point) (get_or-take n es i blank (omega arith)), ap (λ e. e.point) (get_or-take n es j blank (omega arith)), t.rises i j h (omega arith));
    }

-- every front of the image of a table is good
pub means_good : (ws : List ℕ) (es : List Entry) → Means ws es → (n : ℕ) → n ≤ length es → GoodRows ws n
means_good ws es m n l = record {
  entries = take n es;
  table = table_take es n l m.table;
  many = length-take-le n es l;
  laid = sym (sorted_take es n (5 * n) refl) ∙ ap (λ w. take (5 * n) w) m.laid;
}

-- an image with a first bad row is that of no table
pub bad_means : (ws : List ℕ) (n : ℕ) → FirstBad ws n → (es : List Entry) → Means ws es → ⊥
bad_means ws n b es m =
    let long : length ws ≡ 5 * length es = ap length (sym m.laid) ∙ length_sorted es in
    b.bad (means_good ws es m (n + 1) (omega (arith, b.follows)))

-- the refusal of an image whose first bad row is known
pub told : (ws : List ℕ) (e : Refusal) (n : ℕ) → e ≡ BadImage (sorted_fault n) → GoodRows ws n → 5 * n < length ws → (GoodRows ws (n + 1) → ⊥) → RefusedImage ws e
told ws e n t g l b =
    let first : FirstBad ws n = record { before = g; follows = l; bad = b } in
    record { row = n; tells = t; first = first; none = bad_means ws n first }

-- good rows are whole
pub good_long : (ws : List ℕ) (n : ℕ) → GoodRows ws n → 5 * n ≤ length ws
good_long ws n g = omega (arith, length_sorted g.entries, ap length g.laid, length-take (5 * n) ws, g.many)

-- what is read as a point has 16 bits
pub point_fits : (ws : List ℕ) (i : ℕ) → slice_index ws (5 * i) < 2 ^ 32 → (entry_in ws i).point < 2 ^ 16
unfolding entry_in
point_fits ws i h = omega arith

-- a row of a good image is read as the entry that it was laid out from
pub read_means : (ws : List ℕ) (es : List Entry) → Means ws es → (k : ℕ) → k < length es → entry_in ws k ≡ entry_at es k
read_means ws es m k l =
    let g : GoodRows ws (length es) =
    record { entries = es; table = m.table; many = refl; laid = m.laid ∙ sym (take_all (5 * length es) ws (omega (arith, ap length m.laid, length_sorted es))) } in
    read_back ws (length es) g k l
