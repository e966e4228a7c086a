-- Laws of tables of records, over the list of a table's items and the number of its records.
use Rattle.std.proofs.Common.{◌≡◌, ℕ, zero, suc, ◌+◌, ◌-◌, ◌<◌, ◌≤◌, List, [], ◌∷◌, ◌++◌, length, get_or, take, Some, None, Option, MatchOption, append_assoc, Ok, Err, Result, MatchResult, sym, refl, ap, ◌∙◌, subst, ⊎_elim, arith}
use Rattle.std.proofs.lemmas.List.{take_more, take_all, length-append, append-nil, same_from_push, get_or_append_left, get_or-append-add, nil_from_length}
use Rattle.std.proofs.lemmas.Bool.{cases_lt}
use Rattle.arrayvec.specs.CapacityError.{error_element}
use Rattle.arrayvec.specs.declared.errors.CapacityError.{CapacityError}
use Rattle.frames.specs.Tables.{Newest, DroppedAbove}

-- the newest of n records of a list of items
pub newest_of : {R : Type 0} (xs : List R) (n : ℕ) (d : R) → 0 < n → n ≤ length xs → Newest (take n xs) (get_or xs (n - 1) d) (take (n - 1) xs)
newest_of xs n d some fits =
    let e : (n - 1) + 1 ≡ n = omega arith in
    subst (λ k. take k xs ≡ take (n - 1) xs ++ get_or xs (n - 1) d ∷ []) e (take_more xs (n - 1) d (omega arith))

-- records of frames above h were dropped, from the newest on
pub record Dropping {R : Type 0} (frame : R → ℕ) (h : ℕ) (before after : List R) : Type 0 where
  pub dropped : List R
  pub parts : before ≡ after ++ dropped
  pub above : (k : ℕ) (d : R) → k < length dropped → h < frame (get_or dropped k d)

pub dropping_none : {R : Type 0} (frame : R → ℕ) (h : ℕ) (xs : List R) → Dropping frame h xs xs
dropping_none frame h xs = record { dropped = []; parts = sym (append-nil xs); above = λ k d l. absurd (omega arith) }

-- one more is dropped
pub dropping_more : {R : Type 0} (frame : R → ℕ) (h : ℕ) (xs ys zs : List R) (x : R) → Dropping frame h xs ys → Newest ys x zs → h < frame x → Dropping frame h xs zs
dropping_more {R} frame h xs ys zs x s new high =
    record {
      dropped = x ∷ s.dropped;
      parts = s.parts ∙ ap (λ q. q ++ s.dropped) new ∙ append_assoc zs (x ∷ []) s.dropped;
      above = λ k d l. each k d l;
    }
  where
    each : (k : ℕ) (d : R) → k < length (x ∷ s.dropped) → h < frame (get_or (x ∷ s.dropped) k d)
    each zero d l = high
    each (suc k) d l = s.above k d (omega arith)

-- up to a record of a frame that is not above h, or to the end
pub dropping_done : {R : Type 0} (frame : R → ℕ) (h : ℕ) (xs ys : List R) → Dropping frame h xs ys → ((x : R) (zs : List R) → Newest ys x zs → frame x ≤ h) → DroppedAbove frame h xs ys
dropping_done frame h xs ys s low = record { dropped = s.dropped; parts = s.parts; above = s.above; below = low }

-- there is one newest record at most
pub newest_same : {R : Type 0} (xs ys zs : List R) (x z : R) → Newest xs x ys → Newest xs z zs → x ≡ z
newest_same xs ys zs x z p q = (same_from_push ys zs x z (sym p ∙ q)).1

pub none_newest : {R : Type 0} (ys : List R) (x : R) → Newest [] x ys → ⊥
none_newest ys x p = let l = ap length p ∙ length-append ys (x ∷ []) in omega arith

get_or-append_here : {R : Type 0} (xs ys : List R) (d : R) → get_or (xs ++ ys) (length xs) d ≡ get_or ys 0 d
get_or-append_here xs ys d = ap (λ k. get_or (xs ++ ys) k d) (let e : length xs ≡ length xs + 0 = omega arith in e) ∙ get_or-append-add xs ys 0 d

-- how many records are left, where those of frames that are not above h are known to be the first c
pub dropped_count : {R : Type 0} (frame : R → ℕ) (h c : ℕ) (xs ys : List R) → DroppedAbove frame h xs ys → c ≤ length xs →
    ((k : ℕ) (d : R) → k < c → frame (get_or xs k d) ≤ h) → ((k : ℕ) (d : R) → c ≤ k → k < length xs → h < frame (get_or xs k d)) → length ys ≡ c
dropped_count {R} frame h c xs ys s fits low high =
    ⊎_elim
    (λ (few : length ys < c). absurd (too_few s.dropped few refl))
    (λ (many : c ≤ length ys). ⊎_elim (λ (more : c < length ys). absurd (too_many ys more refl)) (λ (no_more : length ys ≤ c). omega arith) (cases_lt c (length ys)))
    (cases_lt (length ys) c)
  where
    all : length xs ≡ length ys + length s.dropped
    all = ap length s.parts ∙ length-append ys s.dropped

    too_few : (zs : List R) → length ys < c → zs ≡ s.dropped → ⊥
    too_few [] few e = let z : length s.dropped ≡ 0 = ap length (sym e) in omega (arith, all)
    too_few (z ∷ zs) few e =
        let some : 0 < length s.dropped = subst (λ q. 0 < length q) e (omega arith) in
        let above = s.above 0 z some in
        let here : get_or xs (length ys) z ≡ get_or s.dropped 0 z = ap (λ q. get_or q (length ys) z) s.parts ∙ get_or-append_here ys s.dropped z in
        let under = low (length ys) z few in
        let same : frame (get_or xs (length ys) z) ≡ frame (get_or s.dropped 0 z) = ap frame here in
        omega arith

    too_many : (zs : List R) → c < length ys → zs ≡ ys → ⊥
    too_many [] more e = let z : length ys ≡ 0 = ap length (sym e) in omega arith
    too_many (z ∷ zs) more e =
        let last = get_or ys (length ys - 1) z in
        let new : Newest ys last (take (length ys - 1) ys) = subst (λ q. q ≡ take (length ys - 1) ys ++ last ∷ []) (take_all (length ys) ys (omega arith)) (newest_of ys (length ys) z (omega arith) (omega arith)) in
        let under = s.below last (take (length ys - 1) ys) new in
        let here : get_or xs (length ys - 1) z ≡ last = ap (λ q. get_or q (length ys - 1) z) s.parts ∙ get_or_append_left ys s.dropped z (length ys - 1) (omega arith) in
        let above = high (length ys - 1) z (omega arith) (omega (arith, all)) in
        let same : frame (get_or xs (length ys - 1) z) ≡ frame last = ap frame here in
        omega arith

-- what is left stands where it stood
pub dropped_kept : {R : Type 0} (frame : R → ℕ) (h : ℕ) (xs ys : List R) (k : ℕ) (d : R) → DroppedAbove frame h xs ys → k < length ys → get_or ys k d ≡ get_or xs k d
dropped_kept frame h xs ys k d s l = sym (ap (λ q. get_or q k d) s.parts ∙ get_or_append_left ys s.dropped d k l)

-- nothing is dropped where no record is above h
pub dropped_nothing : {R : Type 0} (frame : R → ℕ) (h : ℕ) (xs ys : List R) → DroppedAbove frame h xs ys → ((k : ℕ) (d : R) → k < length xs → frame (get_or xs k d) ≤ h) → ys ≡ xs
dropped_nothing frame h xs ys s low =
    let long : length ys ≡ length xs = dropped_count frame h (length xs) xs ys s (omega arith) low (λ k d a b. absurd (omega arith)) in
    let none : length s.dropped ≡ 0 = (let all = ap length s.parts ∙ length-append ys s.dropped in omega arith) in
    sym (s.parts ∙ ap (λ q. ys ++ q) (nil_from_length s.dropped none) ∙ append-nil ys)

-- a push into a table that is not full is made
pub pushed : {R : Type 0} (n : ℕ) (xs ys : List R) (x : R) (r : Result (Unit {0}) (CapacityError R)) → length xs < n →
    MatchResult r (λ _. ys ≡ xs ++ x ∷ []) (λ e. (error_element e ≡ x) × (length xs ≡ n) × (ys ≡ xs)) → ys ≡ xs ++ x ∷ []
pushed n xs ys x (Ok done) l h = h
pushed n xs ys x (Err e) l h = let full = h.1 in absurd (omega arith)

-- the newest record is popped
pub popped : {R : Type 0} (xs ys zs : List R) (x : R) (o : Option R) → Newest xs x zs → MatchOption o ((xs ≡ []) × (ys ≡ [])) (λ z. Newest xs z ys) → Newest xs x ys
popped xs ys zs x None n none = absurd (none_newest zs x (subst (λ q. Newest q x zs) none.0 n))
popped xs ys zs x (Some z) n m = subst (λ q. Newest xs q ys) (newest_same xs ys zs z x m n) m
