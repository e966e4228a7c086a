-- The order of the list while roots and fields are forwarded.
use Rattle.std.proofs.Common.{◌≡◌, ℕ, ◌+◌, ◌<◌, ◌≤◌, true, false, ◌⊎◌, List, [], ◌∷◌, ◌++◌, length, get_or, take, drop, set, sym, refl, ap, ◌∙◌, subst, inl, inr, ⊎_elim, append_assoc, append-nil, arith}
use Rattle.std.specs.List.{flat_map}
use Rattle.std.proofs.lemmas.Bool.{cases_eq, cases_lt, cases_Bool, cases_order}
use Rattle.std.proofs.lemmas.List.Sums.{fold_push}
use Rattle.std.proofs.lemmas.List.{get_or-set_same, get_or-set_other, length-set, length_push, get_or_append_left, get_or_push, take-append-le, take_all, take_more, length-take-le, length-drop, get_or-take, get_or-drop}
use Rattle.std.proofs.lemmas.Grind.{common_steps, flat_map-append}
use Rattle.heap_model.specs.Objects.{Space, refs, size, header, Pointer, Sound}
use Rattle.heap_model.specs.Live.{Member, pointers, mentions}
use Rattle.heap_model.specs.Packing.{span}
use Rattle.heap_model.specs.Moving.{Buffers, buffers, with_word, has, noted, firsts, base, Renamed, Moving, Early, Rooting, Scanning, Fielding}
use Rattle.heap_model.proofs.Firsts.{has_member, has_not, noted_zero, noted_had, noted_new, member_front}
use Rattle.heap_model.proofs.Listings.{member_back, member_joined}
use Rattle.heap_model.proofs.Spans.{base_more, base_rises, base_ends, one_packed, renamed-push, span_none}
use Rattle.heap_model.proofs.Copying.{moving_none, moving_on, moving_field}

-- a mention adds one word at the end or nothing
pub noted_ways : (ps : List ℕ) (w : ℕ) → (noted ps w ≡ ps) ⊎ ((noted ps w ≡ ps ++ w ∷ []) × (0 < w))
noted_ways ps w =
    ⊎_elim
    (λ (z : w ≡ 0). inl (noted_zero ps w z))
    (λ (nz : w ≡ 0 → ⊥).
    ⊎_elim
    (λ (y : has w ps ≡ true). inl (noted_had ps w (has_member w ps y)))
    (λ (n : has w ps ≡ false). inr (noted_new ps w (omega arith) (λ m. has_not w ps n m.0 m.1 m.2), omega arith))
    (cases_Bool (has w ps)))
    (cases_eq w 0)

-- a list that begins with another
pub record Grows (ps qs : List ℕ) : Type 0 where
  pub longer : length ps ≤ length qs
  pub takes : (k : ℕ) → k ≤ length ps → take k qs ≡ take k ps
  pub gets : (k : ℕ) → k < length ps → get_or qs k 0 ≡ get_or ps k 0

pub noted_grows : (ps : List ℕ) (w : ℕ) → Grows ps (noted ps w)
noted_grows ps w =
    ⊎_elim
    (λ (e : noted ps w ≡ ps). subst (λ q. Grows ps q) (sym e) record { longer = omega arith; takes = λ k l. refl; gets = λ k l. refl })
    (λ (e : (noted ps w ≡ ps ++ w ∷ []) × (0 < w)).
    subst (λ q. Grows ps q) (sym e.0)
    record { longer = omega (arith, length_push ps w); takes = λ k l. take-append-le k ps (w ∷ []) l; gets = λ k l. get_or_append_left ps (w ∷ []) 0 k l })
    (noted_ways ps w)

pub renamed_noted : (s : Space) (ps : List ℕ) (x w v : ℕ) → Renamed s ps w v → Renamed s (noted ps x) w v
renamed_noted s ps x w v r =
    ⊎_elim
    (λ (e : noted ps x ≡ ps). subst (λ q. Renamed s q w v) (sym e) r)
    (λ (e : (noted ps x ≡ ps ++ x ∷ []) × (0 < x)). subst (λ q. Renamed s q w v) (sym e.0) (renamed-push s ps x w v r))
    (noted_ways ps x)

pub early_noted : (s : Space) (roots ps : List ℕ) (w : ℕ) → Early s roots ps → Member w (mentions s roots ps) → Early s roots (noted ps w)
early_noted s roots ps w early there =
    ⊎_elim
    (λ (e : noted ps w ≡ ps). subst (λ q. Early s roots q) (sym e) early)
    (λ (e : (noted ps w ≡ ps ++ w ∷ []) × (0 < w)).
    subst (λ q. Early s roots q) (sym e.0) (λ k l.
    ⊎_elim
    (λ (h : k < length ps).
    subst (λ x. Member x (mentions s roots (take k (ps ++ w ∷ [])))) (sym (get_or_append_left ps (w ∷ []) 0 k h))
    (subst (λ z. Member (get_or ps k 0) (mentions s roots z)) (sym (take-append-le k ps (w ∷ []) (omega arith))) (early k h)))
    (λ (h : length ps ≤ k).
    let q : length ps ≡ k = omega (arith, length_push ps w) in
    let t : take k (ps ++ w ∷ []) ≡ ps = take-append-le k ps (w ∷ []) (omega arith) ∙ take_all k ps h in
    subst (λ x. Member x (mentions s roots (take k (ps ++ w ∷ [])))) (sym (get_or_push ps w 0 k q)) (subst (λ z. Member w (mentions s roots z)) (sym t) there))
    (cases_lt k (length ps))))
    (noted_ways ps w)

module _ (s : Space) (p : ℕ) (fits : p + refs s p ≤ length s.words) where
  pub length_pointers : length (pointers s p) ≡ refs s p
  unfolding pointers
  length_pointers = length-take-le (refs s p) (drop p s.words) (omega (arith, length-drop p s.words))

  pub slice_index-pointers : (j : ℕ) → j < refs s p → get_or (pointers s p) j 0 ≡ get_or s.words (p + j) 0
  unfolding pointers
  slice_index-pointers j l = get_or-take (refs s p) (drop p s.words) j 0 l ∙ get_or-drop p s.words j 0

-- the fields of a listed object lie in the words
pub fields_fit : (s : Space) (buf : Buffers) (scan : ℕ) (ps : List ℕ) → Moving s buf scan ps → (k : ℕ) → k < length ps → get_or ps k 0 + refs s (get_or ps k 0) ≤ length s.words
fields_fit s buf scan ps m k l = grind arith

-- the next root word is forwarded
pub rooting_more : (s : Space) (was roots : List ℕ) (buf : Buffers) (ps : List ℕ) (i : ℕ) → Rooting s was roots buf ps i → i < length was
    → (buf' : Buffers) (v : ℕ) → Moving s buf' 0 (noted ps (get_or roots i 0)) → Renamed s (noted ps (get_or roots i 0)) (get_or roots i 0) v
    → Rooting s was (set roots i v) buf' (noted ps (get_or was i 0)) (i + 1)
rooting_more s was roots buf ps i r l buf' v m n =
    let e : get_or roots i 0 ≡ get_or was i 0 = r.rest i (omega arith) in
    let w : ℕ = get_or was i 0 in
    record {
      moving = subst (λ x. Moving s buf' 0 (noted ps x)) e m;
      early = early_noted s was ps w r.early (member_front was (flat_map (pointers s) ps) w (i, l, refl));
      whole = ap (λ z. noted z w) r.whole ∙ sym (ap firsts (take_more was i 0 l) ∙ fold_push noted [] (take i was) w);
      long = length-set roots i v ∙ r.long;
      done = λ n h.
          ⊎_elim
          (λ (q : n ≡ i).
          let val : get_or (set roots i v) n 0 ≡ v = ap (λ x. get_or (set roots i v) x 0) q ∙ get_or-set_same roots i v 0 (omega (arith, r.long)) in
          subst (λ x. Renamed s (noted ps w) (get_or was x 0) (get_or (set roots i v) n 0)) (sym q)
          (subst (λ x. Renamed s (noted ps w) w x) (sym val) (subst (λ x. Renamed s (noted ps x) x v) e n₀)))
          (λ (ne : n ≡ i → ⊥).
          subst (λ x. Renamed s (noted ps w) (get_or was n 0) x) (sym (get_or-set_other roots i n v 0 ne)) (renamed_noted s ps w (get_or was n 0) (get_or roots n 0) (r.done n (omega arith))))
          (cases_eq n i);
      rest = λ n h. get_or-set_other roots i n v 0 (λ q. omega arith) ∙ r.rest n (omega arith);
      good = r.good;
    }
  where
    n₀ : Renamed s (noted ps (get_or roots i 0)) (get_or roots i 0) v
    n₀ = n

-- with all roots forwarded the scan begins
pub scanning_none : (s : Space) (was roots : List ℕ) (buf : Buffers) (ps : List ℕ) (i : ℕ) → Rooting s was roots buf ps i → length was ≤ i
    → Scanning s was buf 0 ps 0
scanning_none s was roots buf ps i r l =
    record {
      moving = r.moving;
      early = r.early;
      whole = r.whole ∙ ap firsts (take_all i was l ∙ sym (append-nil was));
      within = omega arith;
      at = sym (span_none s);
    }

-- an object's scan begins behind its header
pub fielding_none : (s : Space) (roots : List ℕ) (buf : Buffers) (scan : ℕ) (ps : List ℕ) (k : ℕ) → Scanning s roots buf scan ps k → k < length ps
    → Fielding s roots buf (scan + 1) ps k 0
fielding_none s roots buf scan ps k c l =
    record {
      moving = moving_on s buf scan ps c.moving (scan + 1) (omega arith) (omega (arith, base_ends s ps k l, c.moving.grown, c.at))
          (λ n j nl jl h.
          ⊎_elim
          (λ (e : base s ps n + 1 + j ≡ scan).
          let q : n ≡ k = one_packed s ps n k (1 + j) 0 nl l (omega arith) (omega arith) (omega (arith, c.at)) in
          absurd (omega (arith, c.at, ap (λ x. base s ps x) q)))
          (λ (ne : base s ps n + 1 + j ≡ scan → ⊥). omega arith)
          (cases_eq (base s ps n + 1 + j) scan));
      early = c.early;
      whole = c.whole ∙ ap firsts (sym (append-nil (mentions s roots (take k ps))));
      within = l;
      some = omega arith;
      at = omega (arith, c.at);
    }

-- the next pointer field is forwarded
pub fielding_more : (s : Space) (roots : List ℕ) (buf : Buffers) (scan : ℕ) (ps : List ℕ) (k j : ℕ) → Fielding s roots buf scan ps k j → j < refs s (get_or ps k 0)
    → (buf' : Buffers) (v : ℕ) → Moving s buf' scan (noted ps (get_or buf.copy.words scan 0)) → Renamed s (noted ps (get_or buf.copy.words scan 0)) (get_or buf.copy.words scan 0) v
    → Fielding s roots (with_word buf' scan v) (scan + 1) (noted ps (get_or buf.copy.words scan 0)) k (j + 1)
fielding_more s roots buf scan ps k j f jl buf' v m n =
    let w : ℕ = get_or buf.copy.words scan 0 in
    let e : w ≡ get_or s.words (get_or ps k 0 + j) 0 = ap (λ x. get_or buf.copy.words x 0) f.at ∙ f.moving.ahead k j f.within jl (omega (arith, f.at)) in
    let g : Grows ps (noted ps w) = noted_grows ps w in
    let p : ℕ = get_or ps k 0 in
    let fit : p + refs s p ≤ length s.words = fields_fit s buf scan ps f.moving k f.within in
    let q : get_or (noted ps w) k 0 ≡ p = g.gets k f.within in
    let t : take k (noted ps w) ≡ take k ps = g.takes k (omega (arith, f.within)) in
    let here : get_or (pointers s p) j 0 ≡ w = slice_index-pointers s p fit j jl ∙ sym e in
    record {
      moving = moving_field s buf' scan (noted ps w) m k j v (omega (arith, f.within, g.longer)) (subst (λ x. j < refs s x) (sym q) jl)
          (f.at ∙ ap (λ z. span s z + 1 + j) (sym t))
          (subst (λ x. Renamed s (noted ps w) x v) (e ∙ ap (λ x. get_or s.words (x + j) 0) (sym q)) n);
      early = early_noted s roots ps w f.early (member_back roots (flat_map (pointers s) ps) w (member_joined (pointers s) ps k w f.within (j, omega (arith, length_pointers s p fit), here)));
      whole =
          ap (λ z. noted z w) f.whole
          ∙ sym (fold_push noted [] (mentions s roots (take k ps) ++ take j (pointers s p)) w)
          ∙ ap firsts (append_assoc (mentions s roots (take k ps)) (take j (pointers s p)) (w ∷ [])
          ∙ ap (λ z. mentions s roots (take k ps) ++ z) (ap (λ x. take j (pointers s p) ++ x ∷ []) (sym here) ∙ sym (take_more (pointers s p) j 0 (omega (arith, length_pointers s p fit))))
          ∙ ap (λ z. mentions s roots z ++ take (j + 1) (pointers s p)) (sym t)
          ∙ ap (λ x. mentions s roots (take k (noted ps w)) ++ take (j + 1) (pointers s x)) (sym q));
      within = omega (arith, f.within, g.longer);
      some = subst (λ x. j + 1 ≤ refs s x) (sym q) (omega arith);
      at = ap (λ x. x + 1) f.at ∙ (omega arith) ∙ ap (λ z. span s z + 1 + (j + 1)) (sym t);
    }

-- an object's scan ends before the next header
pub fielding_all : (s : Space) (roots : List ℕ) (buf : Buffers) (scan : ℕ) (ps : List ℕ) (k j : ℕ) → Fielding s roots buf scan ps k j → refs s (get_or ps k 0) ≤ j
    → (scan' : ℕ) → scan' ≡ base s ps k + size s (get_or ps k 0) → Scanning s roots buf scan' ps (k + 1)
fielding_all s roots buf scan ps k j f jl scan' e =
    let p : ℕ = get_or ps k 0 in
    let fit : p + refs s p ≤ length s.words = fields_fit s buf scan ps f.moving k f.within in
    record {
      moving = moving_on s buf scan ps f.moving scan' (omega (arith, f.at, f.some, e)) (omega (arith, base_ends s ps k f.within, f.moving.grown, e))
          (λ n i nl il h.
          ⊎_elim
          (λ (q : n ≡ k). absurd (omega (arith, f.at, ap (λ x. base s ps x) q, ap (λ x. refs s (get_or ps x 0)) q)))
          (λ (o : (n < k) ⊎ (k < n)).
          ⊎_elim
          (λ (lt : n < k). absurd (omega (arith, f.at, base_rises s ps n k nl lt (omega (arith, f.within)))))
          (λ (gt : k < n). omega (arith, e, base_rises s ps k n f.within gt (omega arith)))
          o)
          (cases_order n k));
      early = f.early;
      whole =
          f.whole
          ∙ ap firsts (ap (λ z. mentions s roots (take k ps) ++ z) (take_all j (pointers s p) (omega (arith, length_pointers s p fit)))
          ∙ append_assoc roots (flat_map (pointers s) (take k ps)) (pointers s p)
          ∙ ap (λ z. roots ++ z) (ap (λ z. flat_map (pointers s) (take k ps) ++ z) (sym (append-nil (pointers s p))) ∙ sym (flat_map-append (pointers s) (take k ps) (p ∷ [])) ∙ ap (λ z. flat_map (pointers s) z) (sym (take_more ps k 0 f.within))));
      within = omega (arith, f.within);
      at = e ∙ sym (base_more s ps k f.within);
    }

-- what a scan reads and where
module _ (s : Space) (roots : List ℕ) (buf : Buffers) (scan : ℕ) (ps : List ℕ) (k : ℕ) (c : Scanning s roots buf scan ps k) where
  pub scan_head : k < length ps → get_or buf.copy.words scan 0 ≡ header s (get_or ps k 0)
  scan_head l = ap (λ x. get_or buf.copy.words x 0) c.at ∙ c.moving.headed k l

  pub scan_inside : k < length ps → scan + size s (get_or ps k 0) ≤ length buf.copy.words
  scan_inside l = omega (arith, base_ends s ps k l, c.moving.grown, c.at, c.moving.words_long, c.moving.room)

  -- before the end of the copy there is an object to scan
  pub scan_next : scan < buf.copy.used → k < length ps
  scan_next h = grind (arith, common_steps)

module _ (s : Space) (roots : List ℕ) (buf : Buffers) (scan : ℕ) (ps : List ℕ) (k j : ℕ) (f : Fielding s roots buf scan ps k j) (l : j < refs s (get_or ps k 0)) where
  pub field_inside : scan < length buf.copy.words
  field_inside = omega (arith, base_ends s ps k f.within, f.moving.grown, f.at, f.moving.words_long, f.moving.room)

  pub field_good : Pointer s (get_or buf.copy.words scan 0)
  field_good = grind arith

-- no root word is forwarded yet
pub rooting_none : (s t : Space) (roots : List ℕ) → Sound s → s.used ≤ 16384 → s.used ≤ length s.words → length t.words ≡ length s.words → length t.starts ≡ length s.words → t.used ≡ 0
    → ((i : ℕ) → i < length roots → Pointer s (get_or roots i 0)) → Rooting s roots roots (buffers s.words t) [] 0
rooting_none s t roots p short fl tl sl z good =
    record {
      moving = moving_none s t p short fl tl sl z;
      early = λ k l. absurd (omega arith);
      whole = refl;
      long = refl;
      done = λ n l. absurd (omega arith);
      rest = λ n l. refl;
      good = good;
    }
