-- A list cut into pieces of one length.
use Rattle.std.proofs.Common.{◌≡◌, ℕ, zero, suc, ◌+◌, ◌*◌, ◌<◌, List, length, take, drop, map, get_or, sym, refl, ap, ◌∙◌, arith}
use Rattle.std.proofs.Math.Nat.{mul-zero}
use Rattle.std.specs.Simd.{first_chunks}
use Rattle.std.specs.List.{range_with_len}
use Rattle.std.proofs.lemmas.List.{drop-drop, get_or-take, get_or-drop, get_or-map, length-map}
use Rattle.std.proofs.lemmas.List.FromFn.{fill_by_all}

pub length_chunks : {X : Type 0} (n k : ℕ) (xs : List X) → length (first_chunks n k xs) ≡ k
length_chunks n zero xs = refl
length_chunks n (suc k) xs = ap suc (length_chunks n k (drop n xs))

-- piece i
pub chunk_at : {X : Type 0} (n k : ℕ) (xs : List X) (i : ℕ) (d : List X) → i < k → get_or (first_chunks n k xs) i d ≡ take n (drop (n * i) xs)
chunk_at n zero xs i d l = absurd (omega arith)
chunk_at n (suc k) xs zero d l = ap (λ m. take n (drop m xs)) (sym (mul-zero n))
chunk_at n (suc k) xs (suc i) d l =
    chunk_at n k (drop n xs) i d (omega arith)
    ∙ ap (λ ys. take n ys) (drop-drop (n * i) n xs)
    ∙ ap (λ m. take n (drop m xs)) (let e : n + n * i ≡ n * suc i = omega arith in e)

-- item j of piece i is item m of the list
pub chunk_item : {X : Type 0} (n k : ℕ) (xs : List X) (i j m : ℕ) (d : List X) (z : X) → i < k → j < n → m ≡ n * i + j → get_or (get_or (first_chunks n k xs) i d) j z ≡ get_or xs m z
chunk_item n k xs i j m d z l h e =
    ap (λ ys. get_or ys j z) (chunk_at n k xs i d l) ∙ get_or-take n (drop (n * i) xs) j z h ∙ get_or-drop (n * i) xs j z ∙ ap (λ x. get_or xs x z) (sym e)

-- what f makes of each piece, where it makes g i of piece i
pub mapped_chunks : {X Y : Type 0} (n k : ℕ) (xs : List X) (f : List X → Y) (g : ℕ → Y) (d : List X) →
    ((i : ℕ) → i < k → f (get_or (first_chunks n k xs) i d) ≡ g i) → map f (first_chunks n k xs) ≡ map g (range_with_len 0 k)
mapped_chunks n k xs f g d h =
    fill_by_all g (map f (first_chunks n k xs)) k (f d) (length-map (first_chunks n k xs) f ∙ length_chunks n k xs)
    (λ i l. get_or-map f (first_chunks n k xs) i d (f d) (omega (arith, length_chunks n k xs)) ∙ h i l)
