-- Laws of spaces: an object appended, headers unchanged, one index in one object.
use Rattle.std.proofs.Common.{◌≡◌, ℕ, zero, suc, ◌+◌, ◌<◌, ◌≤◌, Bool, true, false, cond, ◌⊎◌, List, get_or, sym, refl, ap, ◌∙◌, subst, ⊎_elim, add-zero, arith}
use Rattle.std.proofs.lemmas.Bool.{cases_eq, cases_Bool}
use Rattle.heap_model.specs.Objects.{Space, space, refs_in, plain_in, size_in, Start, weigh, Tiled}

-- the same picks and the same headers weigh the same
pub weigh_same : (t u : ℕ → Bool) (ws vs : List ℕ) (n : ℕ) → ((i : ℕ) → i < n → t i ≡ u i) → ((i : ℕ) → i < n → t i ≡ true → get_or ws i 0 ≡ get_or vs i 0) → weigh t ws n ≡ weigh u vs n
unfolding weigh
weigh_same t u ws vs zero same heads = refl
weigh_same t u ws vs (suc n) same heads =
    let rest : weigh t ws n ≡ weigh u vs n = weigh_same t u ws vs n (λ i h. same i (omega arith)) (λ i h. heads i (omega arith)) in
    let here : t n ≡ u n = same n (omega arith) in
    ⊎_elim
    (λ (y : t n ≡ true). let e : get_or ws n 0 ≡ get_or vs n 0 = heads n (omega arith) y in cc)
    (λ (z : t n ≡ false). simp (z, sym here ∙ z) (omega (arith, rest)))
    (cases_Bool (t n))

-- nothing picked from a on weighs nothing more
pub weigh_none : (t : ℕ → Bool) (ws : List ℕ) (a n : ℕ) → ((i : ℕ) → a ≤ i → i < a + n → t i ≡ false) → weigh t ws (a + n) ≡ weigh t ws a
unfolding weigh
weigh_none t ws a zero none = rw add-zero
weigh_none t ws a (suc n) none =
    let rest : weigh t ws (a + n) ≡ weigh t ws a = weigh_none t ws a n (λ i l h. none i l (omega arith)) in
    let z : t (a + n) ≡ false = none (a + n) (omega arith) (omega arith) in
    let e : a + suc n ≡ suc (a + n) = omega arith in
    rw e (simp z (omega (arith, rest)))

-- one pick less weighs its size less
pub weigh_less : (t u : ℕ → Bool) (ws : List ℕ) (i : ℕ) → t i ≡ true → u i ≡ false → ((k : ℕ) → (k ≡ i → ⊥) → u k ≡ t k) → (n : ℕ) → i < n → weigh u ws n + size_in (get_or ws i 0) ≡ weigh t ws n
unfolding weigh
weigh_less t u ws i y z same zero h = absurd (omega arith)
weigh_less t u ws i y z same (suc n) h =
    ⊎_elim
    (λ (e : i ≡ n).
    let a : t n ≡ true = ap t (sym e) ∙ y in
    let b : u n ≡ false = ap u (sym e) ∙ z in
    let rest : weigh u ws n ≡ weigh t ws n = weigh_same u t ws ws n (λ k l. same k (omega arith)) (λ k l q. refl) in
    let c : size_in (get_or ws i 0) ≡ size_in (get_or ws n 0) = ap (λ x. size_in (get_or ws x 0)) e in
    simp (a, b) (omega (arith, rest, c)))
    (λ (ne : i ≡ n → ⊥).
    let rest : weigh u ws n + size_in (get_or ws i 0) ≡ weigh t ws n = weigh_less t u ws i y z same n (omega arith) in
    let e : u n ≡ t n = same n (λ q. ne (sym q)) in
    let c : cond (u n) (size_in (get_or ws n 0)) 0 ≡ cond (t n) (size_in (get_or ws n 0)) 0 = ap (λ b. cond b (size_in (get_or ws n 0)) 0) e in
    omega (arith, rest, c))
    (cases_eq i n)

pub weigh_start : (t : ℕ → Bool) (ws : List ℕ) (n h : ℕ) → t n ≡ true → get_or ws n 0 ≡ h → weigh t ws (suc n) ≡ weigh t ws n + size_in h
unfolding weigh
weigh_start t ws n h y e = rw (y, e)

-- two objects that share an index are one
pub one_object : (s : Space) → Tiled s → (i k x : ℕ) → Start s i → Start s k → i ≤ x → x < i + size_in (get_or s.words i 0) → k ≤ x → x < k + size_in (get_or s.words k 0) → i ≡ k
one_object s t i k x a b il ih kl kh = grind arith

-- the headers below used stay, so the tiling does
pub tiled_kept : (s : Space) (ws : List ℕ) → Tiled s → ((i : ℕ) → Start s i → get_or ws i 0 ≡ get_or s.words i 0) → Tiled (space ws s.starts s.used)
tiled_kept s ws t same =
    record {
      inside = λ i a. subst (λ h. i + size_in h ≤ s.used) (sym (same i a)) (t.inside i a);
      apart = λ i k a. t.apart i k (a.0, a.1, subst (λ h. k < i + size_in h) (same i a.0) a.2);
      total = weigh_same (λ i. get_or s.starts i false) (λ i. get_or s.starts i false) ws s.words s.used (λ i l. refl) (λ i l y. same i (l, y)) ∙ t.total;
      counts = λ i a. subst (λ h. (refs_in h ≤ 255) × (plain_in h ≤ 255)) (sym (same i a)) (t.counts i a);
    }

-- what an object appended behind the used words leaves and sets
pub record Appended (s t : Space) (h : ℕ) : Type 0 where
  pub refs_small : refs_in h ≤ 255
  pub plain_small : plain_in h ≤ 255
  pub grown : t.used ≡ s.used + size_in h
  pub head : get_or t.words s.used 0 ≡ h
  pub same : (i : ℕ) → i < s.used → get_or t.words i 0 ≡ get_or s.words i 0
  pub begun : get_or t.starts s.used false ≡ true
  pub inner : (i : ℕ) → s.used < i → i < t.used → get_or t.starts i false ≡ false
  pub old : (i : ℕ) → i < s.used → get_or t.starts i false ≡ get_or s.starts i false

module _ (s t : Space) (h : ℕ) (a : Appended s t h) where
  -- the headers are the old ones and the new one
  pub appended_starts : (i : ℕ) → Start t i → Start s i ⊎ (i ≡ s.used)
  appended_starts i b = grind arith

  pub appended_old : (i : ℕ) → Start s i → Start t i
  appended_old i b = (omega (arith, b.0, a.grown), a.old i b.0 ∙ b.1)

  pub tiled_appended : Tiled s → Tiled t
  tiled_appended p =
      record {
        inside = λ i b.
            ⊎_elim
            (λ (o : Start s i). let e : get_or t.words i 0 ≡ get_or s.words i 0 = a.same i o.0 in subst (λ x. i + size_in x ≤ t.used) (sym e) (omega (arith, p.inside i o, a.grown)))
            (λ (e : i ≡ s.used). let f : get_or t.words i 0 ≡ h = ap (λ x. get_or t.words x 0) e ∙ a.head in subst (λ x. i + size_in x ≤ t.used) (sym f) (omega (arith, a.grown)))
            (appended_starts i b);
        apart = λ i k b.
            ⊎_elim
            (λ (o : Start s i).
            let e : get_or t.words i 0 ≡ get_or s.words i 0 = a.same i o.0 in
            let l : k < i + size_in (get_or s.words i 0) = subst (λ x. k < i + size_in x) e b.2 in
            let m : k < s.used = omega (arith, p.inside i o) in
            a.old k m ∙ p.apart i k (o, b.1, l))
            (λ (e : i ≡ s.used).
            let f : get_or t.words i 0 ≡ h = ap (λ x. get_or t.words x 0) e ∙ a.head in
            let l : k < i + size_in h = subst (λ x. k < i + size_in x) f b.2 in
            a.inner k (omega (arith, b.1)) (omega (arith, a.grown)))
            (appended_starts i b.0);
        total =
            let u : ℕ → Bool = λ i. get_or t.starts i false in
            let rest : weigh u t.words (suc s.used + (refs_in h + plain_in h)) ≡ weigh u t.words (suc s.used) =
            weigh_none u t.words (suc s.used) (refs_in h + plain_in h) (λ i l g. a.inner i (omega arith) (omega (arith, a.grown))) in
            let one : weigh u t.words (suc s.used) ≡ weigh u t.words s.used + size_in h = weigh_start u t.words s.used h a.begun a.head in
            let below : weigh u t.words s.used ≡ weigh (λ i. get_or s.starts i false) s.words s.used =
            weigh_same u (λ i. get_or s.starts i false) t.words s.words s.used (λ i l. a.old i l) (λ i l y. a.same i l) in
            let e : t.used ≡ suc s.used + (refs_in h + plain_in h) = omega (arith, a.grown) in
            ap (λ n. weigh u t.words n) e ∙ omega (arith, rest, one, below, p.total, e);
        counts = λ i b.
            ⊎_elim
            (λ (o : Start s i). subst (λ x. (refs_in x ≤ 255) × (plain_in x ≤ 255)) (sym (a.same i o.0)) (p.counts i o))
            (λ (e : i ≡ s.used). subst (λ x. (refs_in x ≤ 255) × (plain_in x ≤ 255)) (sym (ap (λ x. get_or t.words x 0) e ∙ a.head)) (a.refs_small, a.plain_small))
            (appended_starts i b);
      }
