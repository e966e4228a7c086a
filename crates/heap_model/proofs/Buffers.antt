-- A part of a buffer overwritten, word by word.
use Rattle.std.proofs.Common.{◌≡◌, ℕ, ◌+◌, ◌-◌, ◌<◌, ◌≤◌, List, length, get_or, set, sym, ap, ◌∙◌, arith, rules}
use borrow.Rule.Slice.PartMut.{put_mid}
use Rattle.std.specs.List.{between}
use Rattle.std.proofs.lemmas.List.{places, get_or-set_same, get_or-set_other, length-set}
use Rattle.heap_model.specs.Steps.{Written}

module _ {X : Type 0} (a e : ℕ) (xs ys : List X) (d : X) where
  pub put_below : (i : ℕ) → i < a → a ≤ length xs → get_or (put_mid a (e - a) xs ys) i d ≡ get_or xs i d
  put_below i l h = search (rules, places)

  pub put_inner : (j : ℕ) → j < length ys → a ≤ length xs → get_or (put_mid a (e - a) xs ys) (a + j) d ≡ get_or ys j d
  put_inner j l h = search (rules, places)

  pub put_length : a ≤ e → e ≤ length xs → length ys ≡ e - a → length (put_mid a (e - a) xs ys) ≡ length xs
  put_length l h q = search (rules, places)

pub cut_at : {X : Type 0} (a e : ℕ) (xs : List X) (d : X) (j : ℕ) → j < e - a → get_or (between a e xs) j d ≡ get_or xs (a + j) d
cut_at a e xs d j l = search (rules, places)

-- a part is filled and then its first entry written
pub written : {X : Type 0} (xs ys : List X) (none : X) (at size : ℕ) (first rest : X) → 0 < size → at + size ≤ length xs → length ys ≡ at + size - at → ((j : ℕ) → j < size → get_or ys j none ≡ rest)
    → Written xs (set (put_mid at (at + size - at) xs ys) at first) none at size first rest
written {X} xs ys none at size first rest pos fits len all =
    let zs : List X = put_mid at (at + size - at) xs ys in
    let long : length zs ≡ length xs = put_length at (at + size) xs ys none (omega arith) fits len in
    record {
      long = length-set zs at first ∙ long;
      below = λ i l. get_or-set_other zs at i first none (λ e. omega arith) ∙ put_below at (at + size) xs ys none i l (omega arith);
      here = get_or-set_same zs at first none (omega (arith, long));
      inner = λ i l h.
          let e : at + (i - at) ≡ i = omega arith in
          get_or-set_other zs at i first none (λ q. omega arith)
          ∙ ap (λ x. get_or zs x none) (sym e) ∙ put_inner at (at + size) xs ys none (i - at) (omega (arith, len)) (omega arith) ∙ all (i - at) (omega arith);
    }
