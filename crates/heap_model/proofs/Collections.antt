-- A finished copy: the new space is sound, and it is the collection of the old one.
use Rattle.std.proofs.Common.{◌≡◌, ℕ, ◌+◌, ◌-◌, ◌<◌, ◌≤◌, false, List, map, length, get_or, sym, refl, ap, ◌∙◌, subst, ⊎_elim, arith}
use Rattle.std.proofs.lemmas.Bool.{cases_lt}
use Rattle.std.proofs.lemmas.List.{ext_get_or, get_or-map, length-map, take_all}
use Rattle.heap_model.specs.Objects.{Space, Place, Pointer, refs, refs_in, header, Sound}
use Rattle.heap_model.specs.Live.{mentions, Listing}
use Rattle.heap_model.specs.Packing.{packed, renamed, Packed, Collected}
use Rattle.heap_model.specs.Moving.{Buffers, firsts, base, Renamed, Moving, Early, Scanning}
use Rattle.heap_model.specs.Steps.{Finished, Rooted, Gathered}
use Rattle.heap_model.proofs.Changes.{sound_from}
use Rattle.heap_model.proofs.Listings.{listing_from, one_listing, listed_reached, reached_listed}
use Rattle.heap_model.proofs.Spans.{base_ends, renamed_is, renaming_is}

module _ (s : Space) (buf : Buffers) (ps : List ℕ) (m : Moving s buf buf.copy.used ps) where
  -- a packed place
  placed_at : (k : ℕ) → k < length ps → (v : ℕ) → v ≡ packed s ps k → Place buf.copy v
  placed_at k l v e =
      let q : v - 1 ≡ base s ps k = omega arith in
      (omega arith, (omega (arith, base_ends s ps k l, m.grown), ap (λ x. get_or buf.copy.starts x false) q ∙ m.marked k l))

  pointing_at : (w v : ℕ) → Renamed s ps w v → Pointer buf.copy v
  pointing_at w v r =
      ⊎_elim
      (λ (z : (w ≡ 0) × (v ≡ 0)). λ g. absurd (omega (arith, z.1)))
      (λ (o : (k : ℕ) × (k < length ps) × (get_or ps k 0 ≡ w) × (v ≡ packed s ps k)). λ g. placed_at o.0 o.1 v o.3)
      r

  inside : (k j : ℕ) → k < length ps → j < refs s (get_or ps k 0) → base s ps k + 1 + j < buf.copy.used
  inside k j l h = omega (arith, base_ends s ps k l, m.grown)

  pub sound_after : Sound buf.copy
  sound_after =
      sound_from buf.copy m.tiled (λ i j a h.
      let o : (k : ℕ) × (k < length ps) × (i ≡ base s ps k) = m.only i a in
      let e : get_or buf.copy.words i 0 ≡ header s (get_or ps o.0 0) = ap (λ x. get_or buf.copy.words x 0) o.2 ∙ m.headed o.0 o.1 in
      let h' : j < refs s (get_or ps o.0 0) = subst (λ x. j < refs_in x) e h in
      subst (λ x. Pointer buf.copy (get_or buf.copy.words (x + 1 + j) 0)) (sym o.2)
      (pointing_at _ _ (m.passed o.0 j o.1 h' (inside o.0 j o.1 h'))))

  module _ (roots : List ℕ) (whole : ps ≡ firsts (mentions s roots ps)) (early : Early s roots ps) where
    listing : Listing s roots ps
    listing = listing_from s roots ps whole early

    packed_after : Packed s buf.copy ps
    packed_after =
        record {
          used = m.grown;
          placed = λ k l. placed_at k l (packed s ps k) refl;
          only = λ w a.
              let o : (k : ℕ) × (k < length ps) × (w - 1 ≡ base s ps k) = m.only (w - 1) a.1 in
              (o.0, o.1, omega (arith, o.2, a.0));
          counts = λ k l. let q : 1 + base s ps k - 1 ≡ base s ps k = omega arith in ap (λ x. get_or buf.copy.words x 0) q ∙ m.headed k l;
          pointing = λ k j l h.
              let q : 1 + base s ps k + j ≡ base s ps k + 1 + j = omega arith in
              ap (λ x. get_or buf.copy.words x 0) q ∙ renamed_is s ps listing.once listing.some _ _ (m.passed k j l h (inside k j l h));
          plainly = λ k j l h g.
              let q : 1 + base s ps k + j ≡ base s ps k + 1 + j = omega arith in
              ap (λ x. get_or buf.copy.words x 0) q ∙ m.plainly k j l h g;
        }

    -- all of it
    pub collected : (roots' : List ℕ) → length roots' ≡ length roots → ((n : ℕ) → n < length roots → Renamed s ps (get_or roots n 0) (get_or roots' n 0))
        → Collected s buf.copy roots roots' ps
    collected roots' len done =
        record {
          listing = listing;
          only_list = λ qs l. one_listing s roots qs ps l listing;
          objects = m.objects;
          reached = listed_reached s roots ps listing;
          reaching = reached_listed s roots ps listing;
          packing = packed_after;
          renaming = renaming_is s ps listing.once listing.some;
          rooted = ext_get_or 0 roots' (map (renamed s ps) roots) (len ∙ sym (length-map roots (renamed s ps))) (λ i l.
              let h : i < length roots = omega (arith, len) in
              renamed_is s ps listing.once listing.some (get_or roots i 0) (get_or roots' i 0) (done i h) ∙ sym (get_or-map (renamed s ps) roots i 0 0 h));
        }

-- a scan that has come to the end of the copy
pub scanned_all : (s : Space) (roots : List ℕ) (buf : Buffers) (scan : ℕ) (ps : List ℕ) (k : ℕ) → Scanning s roots buf scan ps k → buf.copy.used ≤ scan
    → (scan ≡ buf.copy.used) × (ps ≡ firsts (mentions s roots ps))
scanned_all s roots buf scan ps k c l =
    ⊎_elim
    (λ (h : k < length ps). absurd (omega (arith, base_ends s ps k h, c.moving.grown, c.at)))
    (λ (h : length ps ≤ k). (omega (arith, c.moving.behind), c.whole ∙ ap (λ z. firsts (mentions s roots z)) (take_all k ps h)))
    (cases_lt k (length ps))

-- the roots are forwarded, and then all is scanned
pub gathered : (s : Space) (was roots : List ℕ) (buf buf' : Buffers) (r : Rooted s was roots buf (length was)) → Finished s was r.0 buf'
    → Gathered s was roots buf'
gathered s was roots buf buf' r (qs, m, early, whole, keeps) =
    record {
      sound = sound_after s buf' qs m;
      fits = omega (arith, m.room);
      from_long = m.from_long;
      words_long = m.words_long;
      starts_long = m.starts_long;
      list = qs;
      collected = collected s buf' qs m was whole early roots r.1.long (λ n l. keeps (get_or was n 0) (get_or roots n 0) (r.1.done n l));
    }
