-- The steps of a copy: it begins, an object moves, a pointer field is renamed, the scan passes over other words.
use Rattle.std.proofs.Common.{◌≡◌, ℕ, ◌+◌, ◌-◌, ◌<◌, ◌≤◌, Bool, true, false, not, ◌&&◌, ◌||◌, eqb, List, [], ◌∷◌, ◌++◌, length, get_or, set, sym, refl, ap, ◌∙◌, subst, ⊎_elim, add-zero, arith}
use Rattle.std.proofs.lemmas.Bool.{cases_eq, cases_lt, cases_Bool, both_ways, ne_eqb}
use Rattle.std.proofs.lemmas.List.{get_or-set_same, get_or-set_other, length-set, length_push, get_or_push, take-append-le}
use Rattle.heap_model.specs.Objects.{Space, space, header, refs, plain, size, Start, Place, weigh, Tiled, Sound}
use Rattle.heap_model.specs.Live.{Member}
use Rattle.heap_model.specs.Packing.{span, packed}
use Rattle.heap_model.specs.Moving.{Buffers, buffers, with_word, has, base, Renamed, waiting, Moving}
use Rattle.heap_model.proofs.Spaces.{weigh_same, weigh_less, one_object, tiled_kept, Appended, appended_starts, tiled_appended}
use Rattle.heap_model.proofs.Changes.{sound_none}
use Rattle.heap_model.proofs.Firsts.{member_has, absent_has, member_front, has_member}
use Rattle.heap_model.proofs.Spans.{span-push, span_none, base_all, base_ends, one_packed, push_all, renamed-push}

-- nothing is moved yet
pub moving_none : (s t : Space) → Sound s → s.used ≤ 16384 → s.used ≤ length s.words → length t.words ≡ length s.words → length t.starts ≡ length s.words → t.used ≡ 0
    → Moving s (buffers s.words t) 0 []
unfolding has weigh
moving_none s t p short fl tl sl z =
    let none : (k : ℕ) → k < length {A = ℕ} [] → ⊥ = λ k l. omega arith in
    record {
      sound = p;
      short = short;
      long = fl;
      from_long = refl;
      words_long = tl;
      starts_long = sl;
      behind = omega arith;
      tiled = subst (λ n. Tiled (space t.words t.starts n)) (sym z) (sound_none t.words t.starts).tiled;
      room =
          let e : weigh (waiting s []) s.words s.used ≡ weigh (λ i. get_or s.starts i false) s.words s.used =
          weigh_same (waiting s []) (λ i. get_or s.starts i false) s.words s.words s.used (λ i l. and_true (get_or s.starts i false)) (λ i l y. refl) in
          omega (arith, e, p.tiled.total);
      grown = z ∙ sym (span_none s);
      objects = λ k l. absurd (none k l);
      told = λ k l. absurd (none k l);
      still = λ q j a f l. refl;
      marked = λ k l. absurd (none k l);
      only = λ i a. absurd (omega (arith, a.0));
      headed = λ k l. absurd (none k l);
      passed = λ k j l. absurd (none k l);
      ahead = λ k j l. absurd (none k l);
      plainly = λ k j l. absurd (none k l);
    }
  where
    and_true : (b : Bool) → (b && true) ≡ b
    and_true true = refl
    and_true false = refl

has_push : (w p : ℕ) (ps : List ℕ) → (p ≡ w → ⊥) → has w (ps ++ p ∷ []) ≡ has w ps
unfolding has
has_push w p [] ne = let e : eqb p w ≡ false = ne_eqb p w ne in rw e
has_push w p (x ∷ ps) ne = ap (λ b. eqb x w || b) (has_push w p ps ne)

-- the words of the copy and its headers after the object at place p was appended
pub record Landed (s : Space) (buf : Buffers) (t : Space) (p : ℕ) : Type 0 where
  pub grown : t.used ≡ buf.copy.used + size s p
  pub to_length : length t.words ≡ length buf.copy.words
  pub starts_length : length t.starts ≡ length buf.copy.starts
  pub same : (i : ℕ) → i < buf.copy.used → get_or t.words i 0 ≡ get_or buf.copy.words i 0
  pub copied : (j : ℕ) → j < size s p → get_or t.words (buf.copy.used + j) 0 ≡ get_or buf.from (p - 1 + j) 0
  pub begun : get_or t.starts buf.copy.used false ≡ true
  pub inner : (i : ℕ) → buf.copy.used < i → i < buf.copy.used + size s p → get_or t.starts i false ≡ false
  pub old : (i : ℕ) → i < buf.copy.used → get_or t.starts i false ≡ get_or buf.copy.starts i false

module _ (s : Space) (buf : Buffers) (scan : ℕ) (ps : List ℕ) (m : Moving s buf scan ps) (p : ℕ) (a : Place s p) (new : Member p ps → ⊥) where
  -- there is room for an object that waits
  pub room_less : weigh (waiting s (ps ++ p ∷ [])) s.words s.used + size s p ≡ weigh (waiting s ps) s.words s.used
  room_less =
      let e : p - 1 + 1 ≡ p = omega (arith, a.0) in
      let yes : waiting s ps (p - 1) ≡ true =
      let h : has (p - 1 + 1) ps ≡ false = ap (λ x. has x ps) e ∙ absent_has p ps new in
      let g : get_or s.starts (p - 1) false ≡ true = a.1.1 in rw (g, h) in
      let no : waiting s (ps ++ p ∷ []) (p - 1) ≡ false =
      let h : has (p - 1 + 1) (ps ++ p ∷ []) ≡ true = ap (λ x. has x (ps ++ p ∷ [])) e ∙ member_has p (ps ++ p ∷ []) (length ps, omega (arith, length_push ps p), last) in
      let g : get_or s.starts (p - 1) false ≡ true = a.1.1 in rw (g, h) in
      weigh_less (waiting s ps) (waiting s (ps ++ p ∷ [])) s.words (p - 1) yes no
      (λ k ne. ap (λ b. get_or s.starts k false && not b) (has_push (k + 1) p ps (λ q. ne (omega (arith, q)))))
      s.used a.1.0
    where
      last : get_or (ps ++ p ∷ []) (length ps) 0 ≡ p
      last = get_or_push ps p 0 (length ps) refl

  pub room_for : buf.copy.used + size s p ≤ s.used
  room_for = omega (arith, room_less, m.room)

  -- the object's words still stand in the old buffer
  pub still_there : (j : ℕ) → j < size s p → get_or buf.from (p - 1 + j) 0 ≡ get_or s.words (p - 1 + j) 0
  still_there j l = m.still p j a new l

  pub header_there : get_or buf.from (p - 1) 0 ≡ header s p
  header_there = subst (λ x. get_or buf.from x 0 ≡ get_or s.words x 0) (add-zero (p - 1)) (still_there 0 (omega arith))

  module _ (t : Space) (l : Landed s buf t p) where
    landed_word : (j : ℕ) → j < size s p → get_or t.words (buf.copy.used + j) 0 ≡ get_or s.words (p - 1 + j) 0
    landed_word j h = l.copied j h ∙ still_there j h

    landed_field : (j : ℕ) → j < refs s p + plain s p → get_or t.words (buf.copy.used + 1 + j) 0 ≡ get_or s.words (p + j) 0
    landed_field j h =
        let e : buf.copy.used + (1 + j) ≡ buf.copy.used + 1 + j = omega arith in
        let f : p - 1 + (1 + j) ≡ p + j = omega (arith, a.0) in
        ap (λ x. get_or t.words x 0) (sym e) ∙ landed_word (1 + j) (omega arith) ∙ ap (λ x. get_or s.words x 0) f

    landed_head : get_or t.words buf.copy.used 0 ≡ header s p
    landed_head = subst (λ x. get_or t.words x 0 ≡ header s p) (add-zero buf.copy.used) (landed_word 0 (omega arith) ∙ ap (λ x. get_or s.words x 0) (add-zero (p - 1)))

    grown_by : Appended buf.copy t (header s p)
    grown_by =
        record {
          refs_small = (m.sound.tiled.counts (p - 1) a.1).0;
          plain_small = (m.sound.tiled.counts (p - 1) a.1).1;
          grown = l.grown;
          head = landed_head;
          same = l.same;
          begun = l.begun;
          inner = λ i g h. l.inner i g (omega (arith, l.grown));
          old = l.old;
        }

    within : (k j : ℕ) → k < length ps → j < size s (get_or ps k 0) → base s ps k + j < buf.copy.used
    within k j h g = omega (arith, base_ends s ps k h, m.grown)

    -- the object is moved
    pub moving_more : (from' : List ℕ) → from' ≡ set buf.from (p - 1) (2147483648 + (1 + buf.copy.used)) → Moving s (buffers from' t) scan (ps ++ p ∷ [])
    moving_more from' e =
        let e' : (x : ℕ) → get_or from' x 0 ≡ get_or (set buf.from (p - 1) (2147483648 + (1 + buf.copy.used))) x 0 = λ x. ap (λ z. get_or z x 0) e in
        let in_from : p - 1 < length buf.from = omega (arith, m.from_long, a.1.0) in
        let apart : (q : ℕ) → Place s q → (q ≡ p → ⊥) → (q - 1 ≡ p - 1 → ⊥) = λ q b ne f. ne (omega (arith, a.0, b.0, f)) in
        record {
          sound = m.sound;
          short = m.short;
          long = m.long;
          from_long = omega (arith, m.from_long, ap length e, length-set buf.from (p - 1) (2147483648 + (1 + buf.copy.used)));
          words_long = omega (arith, m.words_long, l.to_length);
          starts_long = omega (arith, m.starts_long, l.starts_length);
          behind = omega (arith, m.behind);
          tiled = tiled_appended buf.copy t (header s p) grown_by m.tiled;
          room = omega (arith, room_less, m.room);
          grown = omega (arith, m.grown, span-push s ps p);
          objects = push_all s ps p (λ q b. Place s q) m.objects a;
          told = push_all s ps p (λ q b. get_or from' (q - 1) 0 ≡ 2147483648 + (1 + b))
              (λ k h. e' (get_or ps k 0 - 1) ∙ get_or-set_other buf.from (p - 1) (get_or ps k 0 - 1) (2147483648 + (1 + buf.copy.used)) 0 (apart (get_or ps k 0) (m.objects k h) (λ q. new (k, h, q))) ∙ m.told k h)
              (e' (p - 1) ∙ get_or-set_same buf.from (p - 1) (2147483648 + (1 + buf.copy.used)) 0 in_from ∙ ap (λ x. 2147483648 + (1 + x)) m.grown);
          still = λ q j b f h.
              let ne : q ≡ p → ⊥ = λ g. f (length ps, omega (arith, length_push ps p), get_or_push ps p 0 (length ps) refl ∙ sym g) in
              let off : q - 1 + j ≡ p - 1 → ⊥ = λ g. apart q b ne (one_object s m.sound.tiled (q - 1) (p - 1) (p - 1) b.1 a.1 (omega arith) (omega arith) (omega arith) (omega arith)) in
              e' (q - 1 + j) ∙ get_or-set_other buf.from (p - 1) (q - 1 + j) (2147483648 + (1 + buf.copy.used)) 0 off ∙ m.still q j b (λ g. f (member_front ps (p ∷ []) q g)) h;
          marked = push_all s ps p (λ q b. get_or t.starts b false ≡ true)
              (λ k h. l.old (base s ps k) (subst (λ x. x < buf.copy.used) (add-zero (base s ps k)) (within k 0 h (omega arith))) ∙ m.marked k h)
              (subst (λ x. get_or t.starts x false ≡ true) m.grown l.begun);
          only = λ i b.
              ⊎_elim
              (λ (o : Start buf.copy i).
              let r : (k : ℕ) × (k < length ps) × (i ≡ base s ps k) = m.only i o in
              (r.0, omega (arith, length_push ps p, r.1), r.2 ∙ sym (ap (λ z. span s z) (take-append-le r.0 ps (p ∷ []) (omega (arith, r.1))))))
              (λ (g : i ≡ buf.copy.used).
              (length ps, omega (arith, length_push ps p), g ∙ m.grown ∙ sym (ap (λ z. span s z) (take-append-le (length ps) ps (p ∷ []) (omega arith)) ∙ base_all s ps)))
              (appended_starts buf.copy t (header s p) grown_by i b);
          headed = push_all s ps p (λ q b. get_or t.words b 0 ≡ get_or s.words (q - 1) 0)
              (λ k h. l.same (base s ps k) (subst (λ x. x < buf.copy.used) (add-zero (base s ps k)) (within k 0 h (omega arith))) ∙ m.headed k h)
              (subst (λ x. get_or t.words x 0 ≡ header s p) m.grown landed_head);
          passed = λ k j h.
              push_all s ps p (λ q b. j < refs s q → b + 1 + j < scan → Renamed s (ps ++ p ∷ []) (get_or s.words (q + j) 0) (get_or t.words (b + 1 + j) 0))
              (λ k h r g.
              subst (λ x. Renamed s (ps ++ p ∷ []) (get_or s.words (get_or ps k 0 + j) 0) x) (sym (l.same (base s ps k + 1 + j) (omega (arith, m.behind))))
              (renamed-push s ps p (get_or s.words (get_or ps k 0 + j) 0) (get_or buf.copy.words (base s ps k + 1 + j) 0) (m.passed k j h r g)))
              (λ r g. absurd (omega (arith, m.behind, m.grown)))
              k h;
          ahead = λ k j h.
              push_all s ps p (λ q b. j < refs s q → scan ≤ b + 1 + j → get_or t.words (b + 1 + j) 0 ≡ get_or s.words (q + j) 0)
              (λ k h r g. l.same (base s ps k + 1 + j) (omega (arith, base_ends s ps k h, m.grown)) ∙ m.ahead k j h r g)
              (λ r g. subst (λ x. get_or t.words (x + 1 + j) 0 ≡ get_or s.words (p + j) 0) m.grown (landed_field j (omega arith)))
              k h;
          plainly = λ k j h.
              push_all s ps p (λ q b. refs s q ≤ j → j < refs s q + plain s q → get_or t.words (b + 1 + j) 0 ≡ get_or s.words (q + j) 0)
              (λ k h r g. l.same (base s ps k + 1 + j) (omega (arith, base_ends s ps k h, m.grown)) ∙ m.plainly k j h r g)
              (λ r g. subst (λ x. get_or t.words (x + 1 + j) 0 ≡ get_or s.words (p + j) 0) m.grown (landed_field j (omega arith)))
              k h;
        }

module _ (s : Space) (buf : Buffers) (scan : ℕ) (ps : List ℕ) (m : Moving s buf scan ps) where
  -- a header of 2^31 and more tells the new place
  pub told_there : (p : ℕ) → Place s p → 2147483648 ≤ get_or buf.from (p - 1) 0 → (k : ℕ) × (k < length ps) × (get_or ps k 0 ≡ p) × (get_or buf.from (p - 1) 0 ≡ 2147483648 + packed s ps k)
  told_there p a big =
      ⊎_elim
      (λ (y : has p ps ≡ true).
      let r : Member p ps = has_member p ps y in
      (r.0, r.1, r.2, ap (λ x. get_or buf.from (x - 1) 0) (sym r.2) ∙ m.told r.0 r.1))
      (λ (n : has p ps ≡ false).
      let c : (refs s p ≤ 255) × (plain s p ≤ 255) = m.sound.tiled.counts (p - 1) a.1 in
      let h : get_or buf.from (p - 1) 0 ≡ header s p = header_there s buf scan ps m p a (λ r. both_ways (has p ps) n (member_has p ps r)) in
      let z : ⊥ = omega (arith, h, c.0, c.1) in absurd z)
      (cases_Bool (has p ps))

  -- below, the object waits
  pub waits_there : (p : ℕ) → get_or buf.from (p - 1) 0 < 2147483648 → Member p ps → ⊥
  waits_there p small r = omega (arith, m.told r.0 r.1, ap (λ x. get_or buf.from (x - 1) 0) r.2)

  -- the scan passes over words that are no pointer fields
  pub moving_on : (scan' : ℕ) → scan ≤ scan' → scan' ≤ buf.copy.used
      → ((k j : ℕ) → k < length ps → j < refs s (get_or ps k 0) → scan ≤ base s ps k + 1 + j → scan' ≤ base s ps k + 1 + j) → Moving s buf scan' ps
  moving_on scan' l h none =
      record {
        sound = m.sound;
        short = m.short;
        long = m.long;
        from_long = m.from_long;
        words_long = m.words_long;
        starts_long = m.starts_long;
        behind = h;
        tiled = m.tiled;
        room = m.room;
        grown = m.grown;
        objects = m.objects;
        told = m.told;
        still = m.still;
        marked = m.marked;
        only = m.only;
        headed = m.headed;
        passed = λ k j a b c.
            ⊎_elim
            (λ (g : base s ps k + 1 + j < scan). m.passed k j a b g)
            (λ (g : scan ≤ base s ps k + 1 + j). absurd (omega (arith, none k j a b g)))
            (cases_lt (base s ps k + 1 + j) scan);
        ahead = λ k j a b c. m.ahead k j a b (omega arith);
        plainly = m.plainly;
      }

  -- a pointer field is renamed
  pub moving_field : (k j v : ℕ) → k < length ps → j < refs s (get_or ps k 0) → scan ≡ base s ps k + 1 + j → Renamed s ps (get_or s.words (get_or ps k 0 + j) 0) v
      → Moving s (with_word buf scan v) (scan + 1) ps
  moving_field k j v kl jl at r =
      let end : base s ps k + size s (get_or ps k 0) ≤ buf.copy.used = omega (arith, base_ends s ps k kl, m.grown) in
      let off : (n i : ℕ) → n < length ps → i < size s (get_or ps n 0) → (n ≡ k → i ≡ 1 + j → ⊥) → base s ps n + i ≡ scan → ⊥ =
      λ n i nl il ne e.
      let q : n ≡ k = one_packed s ps n k i (1 + j) nl kl il (omega arith) (omega arith) in
      ne q (omega (arith, ap (λ x. base s ps x) q)) in
      let other : (x : ℕ) → (x ≡ scan → ⊥) → get_or (set buf.copy.words scan v) x 0 ≡ get_or buf.copy.words x 0 = λ x ne. get_or-set_other buf.copy.words scan x v 0 ne in
      let heads : (n : ℕ) → n < length ps → get_or (set buf.copy.words scan v) (base s ps n) 0 ≡ get_or buf.copy.words (base s ps n) 0 =
      λ n nl. other (base s ps n) (λ e. off n 0 nl (omega arith) (λ _ z. omega arith) (omega arith)) in
      record {
        sound = m.sound;
        short = m.short;
        long = m.long;
        from_long = m.from_long;
        words_long = omega (arith, m.words_long, length-set buf.copy.words scan v);
        starts_long = m.starts_long;
        behind = omega arith;
        tiled = tiled_kept buf.copy (set buf.copy.words scan v) m.tiled (λ i b.
            let o : (n : ℕ) × (n < length ps) × (i ≡ base s ps n) = m.only i b in
            subst (λ x. get_or (set buf.copy.words scan v) x 0 ≡ get_or buf.copy.words x 0) (sym o.2) (heads o.0 o.1));
        room = m.room;
        grown = m.grown;
        objects = m.objects;
        told = m.told;
        still = m.still;
        marked = m.marked;
        only = m.only;
        headed = λ n nl. heads n nl ∙ m.headed n nl;
        passed = λ n i nl il h.
            ⊎_elim
            (λ (e : base s ps n + 1 + i ≡ scan).
            let q : n ≡ k = one_packed s ps n k (1 + i) (1 + j) nl kl (omega arith) (omega arith) (omega arith) in
            let q' : i ≡ j = omega (arith, ap (λ x. base s ps x) q) in
            let val : get_or (set buf.copy.words scan v) (base s ps n + 1 + i) 0 ≡ v = ap (λ x. get_or (set buf.copy.words scan v) x 0) e ∙ get_or-set_same buf.copy.words scan v 0 (omega (arith, m.words_long, m.room)) in
            let w : get_or s.words (get_or ps n 0 + i) 0 ≡ get_or s.words (get_or ps k 0 + j) 0 = ap (λ x. get_or s.words (get_or ps x 0 + i) 0) q ∙ ap (λ x. get_or s.words (get_or ps k 0 + x) 0) q' in
            subst (λ x. Renamed s ps x (get_or (set buf.copy.words scan v) (base s ps n + 1 + i) 0)) (sym w) (subst (λ x. Renamed s ps (get_or s.words (get_or ps k 0 + j) 0) x) (sym val) r))
            (λ (ne : base s ps n + 1 + i ≡ scan → ⊥).
            subst (λ x. Renamed s ps (get_or s.words (get_or ps n 0 + i) 0) x) (sym (other (base s ps n + 1 + i) ne)) (m.passed n i nl il (omega arith)))
            (cases_eq (base s ps n + 1 + i) scan);
        ahead = λ n i nl il h. other (base s ps n + 1 + i) (λ e. omega arith) ∙ m.ahead n i nl il (omega arith);
        plainly = λ n i nl il h.
            other (base s ps n + 1 + i) (λ e. off n (1 + i) nl (omega arith) (λ q z. omega (arith, ap (λ x. refs s (get_or ps x 0)) q)) (omega arith)) ∙ m.plainly n i nl il h;
      }
