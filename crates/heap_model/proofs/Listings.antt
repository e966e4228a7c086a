-- A listing from the order of first mention, and that there is one listing at most.
use Rattle.std.proofs.Common.{◌≡◌, ℕ, zero, suc, ◌+◌, ◌<◌, ◌≤◌, ◌⊎◌, List, [], ◌∷◌, ◌++◌, length, get_or, take, drop, sym, refl, ap, ◌∙◌, subst, ⊎_elim, append_assoc, add-one, arith}
use Rattle.std.specs.List.{flat_map}
use Rattle.std.proofs.lemmas.Grind.{common_steps}
use Rattle.std.proofs.lemmas.Bool.{cases_eq, cases_lt}
use Rattle.std.proofs.lemmas.List.{take-append-drop, take_more_same, take_all, get_or-take, length-append, length-take, get_or-append-add}
use Rattle.std.proofs.lemmas.Grind.{flat_map-append}
use Rattle.heap_model.specs.Objects.{Space}
use Rattle.heap_model.specs.Live.{pointers, mentions, Member, First, Reached, by_root, by_field, Listing}
use Rattle.heap_model.specs.Moving.{firsts}
use Rattle.heap_model.proofs.Firsts.{Ordered, ordered_firsts, first_front, member_front, first_there}

-- what the first objects of a list mention comes first
pub mentions_front : (s : Space) (roots ps : List ℕ) (k : ℕ) → mentions s roots ps ≡ mentions s roots (take k ps) ++ flat_map (pointers s) (drop k ps)
mentions_front s roots ps k =
    ap (λ z. roots ++ flat_map (pointers s) z) (sym (take-append-drop k ps))
    ∙ ap (λ z. roots ++ z) (flat_map-append (pointers s) (take k ps) (drop k ps))
    ∙ sym (append_assoc roots (flat_map (pointers s) (take k ps)) (flat_map (pointers s) (drop k ps)))

pub listing_from : (s : Space) (roots ps : List ℕ) → ps ≡ firsts (mentions s roots ps)
    → ((k : ℕ) → k < length ps → Member (get_or ps k 0) (mentions s roots (take k ps))) → Listing s roots ps
listing_from s roots ps whole early =
    let o : Ordered (mentions s roots ps) ps = subst (λ q. Ordered (mentions s roots ps) q) (sym whole) (ordered_firsts (mentions s roots ps)) in
    record { once = o.once; some = o.some; early = early; closed = o.closed; ordered = o.ordered }

-- two listings that agree below k: what the first has at k, the second has from k on
follows : (s : Space) (roots ps qs : List ℕ) → Listing s roots ps → Listing s roots qs → (k : ℕ) → k < length ps → take k ps ≡ take k qs
    → (j : ℕ) × (k ≤ j) × (j < length qs) × (get_or qs j 0 ≡ get_or ps k 0)
follows s roots ps qs a b k l e =
    let m : Member (get_or ps k 0) (mentions s roots (take k qs)) = subst (λ z. Member (get_or ps k 0) (mentions s roots z)) e (a.early k l) in
    let n : Member (get_or ps k 0) (mentions s roots qs) = subst (λ z. Member (get_or ps k 0) z) (sym (mentions_front s roots qs k)) (member_front _ _ _ m) in
    let r : Member (get_or ps k 0) qs = b.closed (get_or ps k 0) (a.some k l) n in
    ⊎_elim
    (λ (h : r.0 < k).
    let same : get_or ps r.0 0 ≡ get_or ps k 0 = sym (get_or-take k ps r.0 0 h) ∙ ap (λ z. get_or z r.0 0) e ∙ get_or-take k qs r.0 0 h ∙ r.2 in
    absurd (a.once r.0 k h l same))
    (λ (h : k ≤ r.0). (r.0, h, r.1, r.2))
    (cases_lt r.0 k)

-- so they agree at k
agree : (s : Space) (roots ps qs : List ℕ) → Listing s roots ps → Listing s roots qs → (k : ℕ) → k < length ps → k < length qs → take k ps ≡ take k qs
    → get_or ps k 0 ≡ get_or qs k 0
agree s roots ps qs a b k l h e =
    let x : (j : ℕ) × (k ≤ j) × (j < length qs) × (get_or qs j 0 ≡ get_or ps k 0) = follows s roots ps qs a b k l e in
    let y : (j : ℕ) × (k ≤ j) × (j < length ps) × (get_or ps j 0 ≡ get_or qs k 0) = follows s roots qs ps b a k h (sym e) in
    ⊎_elim
    (λ (same : x.0 ≡ k). sym x.3 ∙ ap (λ z. get_or qs z 0) same)
    (λ (ne : x.0 ≡ k → ⊥).
    ⊎_elim
    (λ (same : y.0 ≡ k). sym (ap (λ z. get_or ps z 0) same) ∙ y.3)
    (λ (ne' : y.0 ≡ k → ⊥).
    let front : List ℕ = mentions s roots (take k ps) in
    let front' : mentions s roots (take k qs) ≡ front = ap (λ z. mentions s roots z) (sym e) in
    let f : (n : ℕ) × First front (get_or ps k 0) n = first_there front (get_or ps k 0) (a.early k l) in
    let g : (n : ℕ) × First front (get_or qs k 0) n = first_there front (get_or qs k 0) (subst (λ z. Member (get_or qs k 0) z) front' (b.early k h)) in
    let inp : (w n : ℕ) → First front w n → First (mentions s roots ps) w n = λ w n u. subst (λ z. First z w n) (sym (mentions_front s roots ps k)) (first_front front _ w n u) in
    let inq : (w n : ℕ) → First front w n → First (mentions s roots qs) w n =
    λ w n u. subst (λ z. First z w n) (sym (mentions_front s roots qs k)) (first_front _ _ w n (subst (λ z. First z w n) (sym front') u)) in
    let p : f.0 < g.0 = a.ordered k y.0 f.0 g.0 (omega (arith, y.1)) y.2 (inp (get_or ps k 0) f.0 f.1) (subst (λ z. First (mentions s roots ps) z g.0) (sym y.3) (inp (get_or qs k 0) g.0 g.1)) in
    let q : g.0 < f.0 = b.ordered k x.0 g.0 f.0 (omega (arith, x.1)) x.2 (inq (get_or qs k 0) g.0 g.1) (subst (λ z. First (mentions s roots qs) z f.0) (sym x.3) (inq (get_or ps k 0) f.0 f.1)) in
    absurd (omega (arith, p, q)))
    (cases_eq y.0 k))
    (cases_eq x.0 k)

fronts : (s : Space) (roots ps qs : List ℕ) → Listing s roots ps → Listing s roots qs → (k : ℕ) → k ≤ length ps → (k ≤ length qs) × (take k ps ≡ take k qs)
fronts s roots ps qs a b zero l = (omega arith, refl)
fronts s roots ps qs a b (suc k) l =
    let r : (k ≤ length qs) × (take k ps ≡ take k qs) = fronts s roots ps qs a b k (omega arith) in
    let x : (j : ℕ) × (k ≤ j) × (j < length qs) × (get_or qs j 0 ≡ get_or ps k 0) = follows s roots ps qs a b k (omega arith) r.1 in
    let h : k < length qs = omega (arith, x.1, x.2) in
    (omega arith, subst (λ n. take n ps ≡ take n qs) (add-one k) (take_more_same ps qs k 0 (omega arith) h r.1 (agree s roots ps qs a b k (omega arith) h r.1)))

-- a space and its roots have one listing at most
pub one_listing : (s : Space) (roots ps qs : List ℕ) → Listing s roots ps → Listing s roots qs → ps ≡ qs
one_listing s roots ps qs a b =
    let f : (length ps ≤ length qs) × (take (length ps) ps ≡ take (length ps) qs) = fronts s roots ps qs a b (length ps) (omega arith) in
    let g : (length qs ≤ length ps) × (take (length qs) qs ≡ take (length qs) ps) = fronts s roots qs ps b a (length qs) (omega arith) in
    sym (take_all (length ps) ps (omega arith)) ∙ f.1 ∙ take_all (length ps) qs g.0

-- what stands in two lists stands in one of them
append_cases : (xs ys : List ℕ) (w : ℕ) → Member w (xs ++ ys) → Member w xs ⊎ Member w ys
append_cases xs ys w m = grind (arith, common_steps)

pub member_back : (xs ys : List ℕ) (w : ℕ) → Member w ys → Member w (xs ++ ys)
member_back xs ys w m = (length xs + m.0, omega (arith, length-append xs ys, m.1), get_or-append-add xs ys m.0 0 ∙ m.2)

pub member_joined : (f : ℕ → List ℕ) (ps : List ℕ) (k w : ℕ) → k < length ps → Member w (f (get_or ps k 0)) → Member w (flat_map f ps)
member_joined f [] k w l m = absurd (omega arith)
member_joined f (p ∷ ps) zero w l m = member_front (f p) (flat_map f ps) w m
member_joined f (p ∷ ps) (suc k) w l m = member_back (f p) (flat_map f ps) w (member_joined f ps k w (omega arith) m)

joined_member : (f : ℕ → List ℕ) (ps : List ℕ) (w : ℕ) → Member w (flat_map f ps) → (k : ℕ) × (k < length ps) × Member w (f (get_or ps k 0))
joined_member f [] w m = absurd (omega (arith, m.1))
joined_member f (p ∷ ps) w m =
    ⊎_elim
    (λ (a : Member w (f p)). (0, omega arith, a))
    (λ (b : Member w (flat_map f ps)). let r : (k : ℕ) × (k < length ps) × Member w (f (get_or ps k 0)) = joined_member f ps w b in (suc r.0, omega (arith, r.1), r.2))
    (append_cases (f p) (flat_map f ps) w m)

module _ (s : Space) (roots ps : List ℕ) (l : Listing s roots ps) where
  -- the objects listed below k are reached
  reached_below : (k i : ℕ) → i < k → i < length ps → Reached s roots (get_or ps i 0)
  reached_below zero i a b = absurd (omega arith)
  reached_below (suc k) i a b =
      ⊎_elim
      (λ (r : Member (get_or ps i 0) roots). by_root (l.some i b) r)
      (λ (m : Member (get_or ps i 0) (flat_map (pointers s) (take i ps))).
      let r : (n : ℕ) × (n < length (take i ps)) × Member (get_or ps i 0) (pointers s (get_or (take i ps) n 0)) = joined_member (pointers s) (take i ps) (get_or ps i 0) m in
      let n : r.0 < i = omega (arith, r.1, length-take i ps) in
      by_field (reached_below k r.0 (omega arith) (omega arith)) (l.some i b) (subst (λ x. Member (get_or ps i 0) (pointers s x)) (get_or-take i ps r.0 0 n) r.2))
      (append_cases roots (flat_map (pointers s) (take i ps)) (get_or ps i 0) (l.early i b))

  pub listed_reached : (w : ℕ) → Member w ps → Reached s roots w
  listed_reached w m = subst (λ x. Reached s roots x) m.2 (reached_below (suc m.0) m.0 (omega arith) m.1)

  pub reached_listed : (w : ℕ) → Reached s roots w → Member w ps
  reached_listed w (by_root pos m) = l.closed w pos (member_front roots (flat_map (pointers s) ps) w m)
  reached_listed w (by_field {p} r pos m) =
      let q : Member p ps = reached_listed p r in
      l.closed w pos (member_back roots (flat_map (pointers s) ps) w (member_joined (pointers s) ps q.0 w q.1 (subst (λ x. Member w (pointers s x)) (sym q.2) m)))
