-- Rising lists: their members, how they join, and that their members determine them.
use Rattle.std.proofs.Common.{◌≡◌, ℕ, zero, suc, ◌<◌, ◌≤◌, ◌⊎◌, List, [], ◌∷◌, ◌++◌, length, get_or, sym, refl, inl, inr, ⊎_elim, arith}
use Rattle.scan.specs.Roots.{Member}

-- c stands in the list
abbrev pub In : ℕ → List ℕ → Type 0
In c [] = ⊥
In c (x ∷ xs) = (c ≡ x) ⊎ In c xs

pub in_member : (c : ℕ) (xs : List ℕ) → In c xs → Member c xs
in_member c [] h = absurd h
in_member c (x ∷ xs) h =
    ⊎_elim
    (λ (e : c ≡ x). (0, omega arith, sym e))
    (λ (i : In c xs). let m = in_member c xs i in (suc m.0, omega arith, m.2))
    h

pub member_in : (c : ℕ) (xs : List ℕ) → Member c xs → In c xs
member_in c xs m = at xs m.0 m.1 m.2
  where
    at : (ys : List ℕ) (n : ℕ) → n < length ys → get_or ys n 0 ≡ c → In c ys
    at [] n l e = absurd (omega arith)
    at (y ∷ ys) zero l e = inl (sym e)
    at (y ∷ ys) (suc n) l e = inr (at ys n (omega arith) e)

pub in_left : (c : ℕ) (xs ys : List ℕ) → In c xs → In c (xs ++ ys)
in_left c [] ys h = absurd h
in_left c (x ∷ xs) ys h = ⊎_elim (λ (e : c ≡ x). inl e) (λ (i : In c xs). inr (in_left c xs ys i)) h

pub in_right : (c : ℕ) (xs ys : List ℕ) → In c ys → In c (xs ++ ys)
in_right c [] ys h = h
in_right c (x ∷ xs) ys h = inr (in_right c xs ys h)

pub in_cases : (c : ℕ) (xs ys : List ℕ) → In c (xs ++ ys) → In c xs ⊎ In c ys
in_cases c [] ys h = inr h
in_cases c (x ∷ xs) ys h =
    ⊎_elim
    (λ (e : c ≡ x). inl (inl e))
    (λ (i : In c (xs ++ ys)). ⊎_elim (λ (a : In c xs). inl (inr a)) (λ (b : In c ys). inr b) (in_cases c xs ys i))
    h

-- the list rises, from low on
abbrev pub Rises : ℕ → List ℕ → Type 0
Rises low [] = Unit
Rises low (x ∷ xs) = (low ≤ x) × Rises (suc x) xs

pub rises_lower : (low mid : ℕ) (xs : List ℕ) → low ≤ mid → Rises mid xs → Rises low xs
rises_lower low mid [] l r = tt
rises_lower low mid (x ∷ xs) l r = (let h = r.0 in omega arith, r.1)

pub rises_low : (low c : ℕ) (xs : List ℕ) → Rises low xs → In c xs → low ≤ c
rises_low low c [] r i = absurd i
rises_low low c (x ∷ xs) r i =
    let l = r.0 in
    ⊎_elim (λ (e : c ≡ x). omega arith) (λ (j : In c xs). let h = rises_low (suc x) c xs r.1 j in omega arith) i

-- a rising list, and a higher one behind it
pub rises_append : (low mid : ℕ) (xs ys : List ℕ) → low ≤ mid → Rises low xs → ((c : ℕ) → In c xs → c < mid) → Rises mid ys → Rises low (xs ++ ys)
rises_append low mid [] ys l r below s = rises_lower low mid ys l s
rises_append low mid (x ∷ xs) ys l r below s =
    (r.0, rises_append (suc x) mid xs ys (below x (inl refl)) r.1 (λ c i. below c (inr i)) s)

-- the same, place by place
pub rises_at : (low : ℕ) (xs : List ℕ) → Rises low xs → (i : ℕ) → i < length xs → low ≤ get_or xs i 0
rises_at low xs r i l = rises_low low (get_or xs i 0) xs r (member_in (get_or xs i 0) xs (i, l, refl))

pub rises_pairs : (low : ℕ) (xs : List ℕ) → Rises low xs → (i j : ℕ) → i < j → j < length xs → get_or xs i 0 < get_or xs j 0
rises_pairs low [] r i j h l = absurd (omega arith)
rises_pairs low (x ∷ xs) r i zero h l = absurd (omega arith)
rises_pairs low (x ∷ xs) r zero (suc j) h l = rises_at (suc x) xs r.1 j (omega arith)
rises_pairs low (x ∷ xs) r (suc i) (suc j) h l = rises_pairs (suc x) xs r.1 i j (omega arith) (omega arith)

pub rises_from : (low : ℕ) (xs : List ℕ) → ((i : ℕ) → i < length xs → low ≤ get_or xs i 0) → ((i j : ℕ) → i < j → j < length xs → get_or xs i 0 < get_or xs j 0) → Rises low xs
rises_from low [] f h = tt
rises_from low (x ∷ xs) f h = (
  f 0 (omega arith),
  rises_from (suc x) xs (λ i l. h 0 (suc i) (omega arith) (omega arith)) (λ i j k l. h (suc i) (suc j) (omega arith) (omega arith)),
)

-- rising lists with the same members are equal
pub determined : (low low' : ℕ) (xs ys : List ℕ) → Rises low xs → Rises low' ys → ((c : ℕ) → In c xs → In c ys) → ((c : ℕ) → In c ys → In c xs) → xs ≡ ys
determined low low' [] [] r s f g = refl
determined low low' [] (y ∷ ys) r s f g = absurd (g y (inl refl))
determined low low' (x ∷ xs) [] r s f g = absurd (f x (inl refl))
determined low low' (x ∷ xs) (y ∷ ys) r s f g =
    let heads : x ≡ y =
    ⊎_elim
    (λ (e : x ≡ y). e)
    (λ (i : In x ys).
    let a = rises_low (suc y) x ys s.1 i in
    ⊎_elim
    (λ (e : y ≡ x). sym e)
    (λ (j : In y xs). let b = rises_low (suc x) y xs r.1 j in omega arith)
    (g y (inl refl)))
    (f x (inl refl)) in
    let tails : xs ≡ ys =
    determined (suc x) (suc y) xs ys r.1 s.1
    (λ c i. let a = rises_low (suc x) c xs r.1 i in ⊎_elim (λ (e : c ≡ y). absurd (omega arith)) (λ (j : In c ys). j) (f c (inr i)))
    (λ c i. let a = rises_low (suc y) c ys s.1 i in ⊎_elim (λ (e : c ≡ x). absurd (omega arith)) (λ (j : In c xs). j) (g c (inr i))) in
    λ i. heads i ∷ tails i
