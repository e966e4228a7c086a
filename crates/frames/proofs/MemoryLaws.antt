-- Laws of words that are written one behind the other.
use Rattle.std.proofs.Common.{◌≡◌, ℕ, zero, suc, ◌+◌, ◌-◌, ◌<◌, ◌≤◌, List, [], ◌∷◌, ◌++◌, length, get_or, take, drop, set, replicate, Ok, Err, Result, sym, ap, ◌∙◌, append_assoc, add_assoc, arith, MatchResult}
use Rattle.refusal.specs.declared.Refusal.{Refusal}
use Rattle.stack_memory.specs.Promises.{Changed, Unchanged}
use Rattle.std.proofs.lemmas.List.{length-take-le, length-append, length-drop, length-replicate, set_at, drop_more, replicate_more, take-append-drop}

-- zeros from place a on, i of them
abbrev pub zeroed : List ℕ → ℕ → ℕ → List ℕ
zeroed ws a i = take a ws ++ (replicate i 0 ++ drop (a + i) ws)

pub zeroed_none : (ws : List ℕ) (a : ℕ) → ws ≡ zeroed ws a 0
zeroed_none ws a = sym (ap (λ k. take a ws ++ drop k ws) (let e : a + 0 ≡ a = omega arith in e) ∙ take-append-drop a ws)

pub zeroed_more : (ws : List ℕ) (a i : ℕ) → a + i < length ws → set (zeroed ws a i) (a + i) 0 ≡ zeroed ws a (i + 1)
zeroed_more ws a i l =
    let front : length (take a ws ++ replicate i 0) ≡ a + i = length-append (take a ws) (replicate i 0) ∙ ap (λ k. k + length (replicate {A = ℕ} i 0)) (length-take-le a ws (omega arith)) ∙ ap (λ k. a + k) (length-replicate i 0) in
    let rest = drop (a + i + 1) ws in
    let e : a + i + 1 ≡ a + (i + 1) = add_assoc a i 1 in
    ap (λ q. set (take a ws ++ (replicate i 0 ++ q)) (a + i) 0) (drop_more ws (a + i) 0 l)
    ∙ ap (λ q. set q (a + i) 0) (sym (append_assoc (take a ws) (replicate i 0) (get_or ws (a + i) 0 ∷ rest)))
    ∙ set_at (take a ws ++ replicate i 0) (get_or ws (a + i) 0) rest 0 (a + i) front
    ∙ append_assoc (take a ws) (replicate i 0) (0 ∷ rest)
    ∙ ap (λ q. take a ws ++ q) (sym (append_assoc (replicate i 0) (0 ∷ []) rest) ∙ ap (λ q. q ++ rest) (replicate_more i 0))
    ∙ ap (λ k. take a ws ++ (replicate (i + 1) 0 ++ drop k ws)) e

-- the first of them is overwritten
pub zeroed_first : (ws : List ℕ) (a n v : ℕ) → 1 ≤ n → a + n ≤ length ws → set (zeroed ws a n) a v ≡ take a ws ++ ((v ∷ replicate (n - 1) 0) ++ drop (a + n) ws)
zeroed_first ws a zero v some fits = absurd (omega arith)
zeroed_first ws a (suc n) v some fits =
    set_at (take a ws) 0 (replicate n 0 ++ drop (a + suc n) ws) v a (length-take-le a ws (omega arith))
    ∙ ap (λ k. take a ws ++ ((v ∷ replicate k 0) ++ drop (a + suc n) ws)) (let e : n ≡ suc n - 1 = omega arith in e)

-- a write inside the memory is made
pub written : (ws vs : List ℕ) (i w : ℕ) (r : Result (Unit {0}) Refusal) → i < length ws → MatchResult r (λ _. Changed ws i w vs) (λ e. Unchanged ws i e vs) → vs ≡ set ws i w
written ws vs i w (Ok x) l h = h.words_after
written ws vs i w (Err e) l h = let past = h.past in absurd (omega arith)

pub length_zeroed : (ws : List ℕ) (a i : ℕ) → a + i ≤ length ws → length (zeroed ws a i) ≡ length ws
length_zeroed ws a i l =
    length-append (take a ws) (replicate i 0 ++ drop (a + i) ws)
    ∙ ap (λ k. length (take a ws) + k) (length-append (replicate {A = ℕ} i 0) (drop (a + i) ws))
    ∙ (let p : length (take a ws) ≡ a = length-take-le a ws (omega arith) in
    let q : length (replicate {A = ℕ} i 0) ≡ i = length-replicate i 0 in
    let r : length (drop (a + i) ws) ≡ length ws - (a + i) = length-drop (a + i) ws in
    omega arith)
