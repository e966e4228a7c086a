-- Each field is read exactly if its code stands there.
use Rattle.std.proofs.Common.{◌≡◌, ℕ, zero, suc, ◌+◌, ◌*◌, ◌/◌, ◌%◌, ◌^◌, ◌<◌, ◌≤◌, Bool, true, false, cond, not, eqb, ltb, List, [], ◌∷◌, ◌++◌, Some, None, Option, sym, refl, ap, ◌∙◌, pow-suc, arith}
use Rattle.std.proofs.lemmas.Bool.{ltb-true, lt-ltb, le-ltb, eqb-true, not-true, not_from_false, ltb-false}
use Rattle.delta_layout.specs.Bytes.{bytes}
use Rattle.delta_layout.specs.Codes.{changed, resized, signed_difference}
use Rattle.delta_layout.specs.Parsing.{Parsed, and_then, only_if, byte_in, number_in, changed_in, step_in, size_in}

-- what was read before something was read
pub then_some : {A B : Type 0} (o : Parsed A) (f : A → List ℕ → Parsed B) (v : B) (q : List ℕ) → and_then o f ≡ Some (v, q) → (x : A) × (r : List ℕ) × (o ≡ Some (x, r)) × (f x r ≡ Some (v, q))
then_some None f v q h = cc
then_some (Some p) f v q h = (p.0, p.1, refl, h)

pub if_some : {A : Type 0} (b : Bool) (o : Option A) (v : A) → only_if b o ≡ Some v → (b ≡ true) × (o ≡ Some v)
if_some true o v h = (refl, h)
if_some false o v h = cc

pub then_at : {A B : Type 0} (o : Parsed A) (f : A → List ℕ → Parsed B) (x : A) (r : List ℕ) → o ≡ Some (x, r) → and_then o f ≡ f x r
then_at o f x r h = ap (λ p. and_then p f) h

pub if_at : {A : Type 0} (b : Bool) (o : Option A) → b ≡ true → only_if b o ≡ o
if_at b o h = ap (λ t. only_if t o) h

-- a pair that was read is that pair
pub same_value : {A : Type 0} (x y : A) (q r : List ℕ) → ◌≡◌ {A = Parsed A} (Some (x, q)) (Some (y, r)) → x ≡ y
same_value {A} x y q r h = grind arith

pub same_rest : {A : Type 0} (x y : A) (q r : List ℕ) → ◌≡◌ {A = Parsed A} (Some (x, q)) (Some (y, r)) → q ≡ r
same_rest {A} x y q r h = grind arith

pub byte_sound : (bs : List ℕ) (x : ℕ) (r : List ℕ) → byte_in bs ≡ Some (x, r) → (bs ≡ x ∷ r) × (x < 256)
byte_sound [] x r h = cc
byte_sound (b ∷ bs) x r h = grind arith

pub byte_whole : (x : ℕ) (q : List ℕ) → x < 256 → byte_in (x ∷ q) ≡ Some (x, q)
byte_whole x q h = if_at (ltb x 256) (Some (x, q)) (lt-ltb x 256 h)

pub number_sound : (n : ℕ) (bs : List ℕ) (x : ℕ) (r : List ℕ) → number_in n bs ≡ Some (x, r) → (bs ≡ bytes n x ++ r) × (x < 256 ^ n)
unfolding number_in bytes
number_sound zero bs x r h = grind arith
number_sound (suc n) bs x r h =
    let t = then_some (byte_in bs) (λ b q. and_then (number_in n q) (λ v p. Some (b + 256 * v, p))) x r h in
    let u = then_some (number_in n t.1) (λ v p. Some (t.0 + 256 * v, p)) x r t.3 in
    let low = byte_sound bs t.0 t.1 t.2 in
    let high = number_sound n t.1 u.0 u.1 u.2 in
    let e : t.0 + 256 * u.0 ≡ x = same_value (t.0 + 256 * u.0) x u.1 r u.3 in
    let e' : u.1 ≡ r = same_rest (t.0 + 256 * u.0) x u.1 r u.3 in
    let small : t.0 < 256 = low.1 in
    let a : t.0 ≡ x % 256 = omega arith in
    let b : u.0 ≡ x / 256 = omega arith in (
      low.0 ∙ ap (λ l. t.0 ∷ l) high.0 ∙ ap (λ l. l ∷ (bytes n u.0 ++ u.1)) a ∙ ap (λ v. x % 256 ∷ (bytes n v ++ u.1)) b ∙ ap (λ l. x % 256 ∷ (bytes n (x / 256) ++ l)) e',
      omega (arith, pow-suc 256 n, high.1),
    )

pub number_whole : (n x : ℕ) (q : List ℕ) → x < 256 ^ n → number_in n (bytes n x ++ q) ≡ Some (x, q)
unfolding number_in bytes
number_whole zero x q h = let e : 0 ≡ x = omega arith in ap (λ v. Some (v, q)) e
number_whole (suc n) x q h =
    let e : x % 256 + 256 * (x / 256) ≡ x = omega arith in
    let small : x / 256 < 256 ^ n = omega (arith, pow-suc 256 n) in
    then_at (byte_in (x % 256 ∷ (bytes n (x / 256) ++ q))) (λ b r. and_then (number_in n r) (λ v p. Some (b + 256 * v, p))) (x % 256) (bytes n (x / 256) ++ q) (byte_whole (x % 256) (bytes n (x / 256) ++ q) (omega arith))
    ∙ then_at (number_in n (bytes n (x / 256) ++ q)) (λ v p. Some (x % 256 + 256 * v, p)) (x / 256) q (number_whole n (x / 256) q small)
    ∙ ap (λ v. Some (v, q)) e

-- a field that is read only where it differs
changed_whole_at : (b : Bool) (n x y : ℕ) (q : List ℕ) → eqb x y ≡ b → y < 256 ^ n → changed_in n (not b) x (cond b [] (bytes n y) ++ q) ≡ Some (y, q)
unfolding changed_in
changed_whole_at true n x y q e h = ap (λ v. Some (v, q)) (eqb-true x y e)
changed_whole_at false n x y q e h =
    then_at (number_in n (bytes n y ++ q)) (λ y r. only_if (not (eqb x y)) (Some (y, r))) y q (number_whole n y q h)
    ∙ if_at (not (eqb x y)) (Some (y, q)) (not_from_false (eqb x y) e)

pub changed_whole : (n x y : ℕ) (q : List ℕ) → y < 256 ^ n → changed_in n (not (eqb x y)) x (changed n x y ++ q) ≡ Some (y, q)
changed_whole n x y q h = changed_whole_at (eqb x y) n x y q refl h

pub changed_sound : (n : ℕ) (t : Bool) (x : ℕ) (bs : List ℕ) (y : ℕ) (r : List ℕ) → changed_in n t x bs ≡ Some (y, r) → (t ≡ not (eqb x y)) × (bs ≡ changed n x y ++ r)
unfolding changed_in
changed_sound n false x bs y r h = grind arith
changed_sound n true x bs y r h =
    let t = then_some (number_in n bs) (λ y r. only_if (not (eqb x y)) (Some (y, r))) y r h in
    let u = if_some (not (eqb x t.0)) (Some (t.0, t.1)) (y, r) t.3 in
    let e : t.0 ≡ y = same_value t.0 y t.1 r u.1 in
    let d : eqb x y ≡ false = not-true (eqb x y) (ap (λ v. not (eqb x v)) (sym e) ∙ u.0) in (
      ap not (sym d),
      (number_sound n bs t.0 t.1 t.2).0 ∙ ap (λ v. bytes n v ++ t.1) e ∙ ap (λ l. bytes n y ++ l) (same_rest t.0 y t.1 r u.1) ∙ ap (λ b. cond b [] (bytes n y) ++ r) (sym d),
    )

-- the step
pub step_sound : (t : Bool) (bs : List ℕ) (s : ℕ) (r : List ℕ) → step_in t bs ≡ Some (s, r) → (t ≡ ltb 255 s) × (bs ≡ cond (ltb 255 s) (bytes 2 s) (bytes 1 s) ++ r) × (0 < s)
unfolding step_in
step_sound false bs s r h =
    let t = then_some (number_in 1 bs) (λ s r. only_if (ltb 0 s) (Some (s, r))) s r h in
    let u = if_some (ltb 0 t.0) (Some (t.0, t.1)) (s, r) t.3 in
    let e : t.0 ≡ s = same_value t.0 s t.1 r u.1 in
    let n = number_sound 1 bs t.0 t.1 t.2 in
    let d : ltb 255 s ≡ false = le-ltb 255 s (omega (arith, n.1)) in (
      sym d,
      n.0 ∙ ap (λ v. bytes 1 v ++ t.1) e ∙ ap (λ l. bytes 1 s ++ l) (same_rest t.0 s t.1 r u.1) ∙ ap (λ b. cond b (bytes 2 s) (bytes 1 s) ++ r) (sym d),
      omega (arith, ltb-true 0 t.0 u.0),
    )
step_sound true bs s r h =
    let t = then_some (number_in 2 bs) (λ s r. only_if (ltb 255 s) (Some (s, r))) s r h in
    let u = if_some (ltb 255 t.0) (Some (t.0, t.1)) (s, r) t.3 in
    let e : t.0 ≡ s = same_value t.0 s t.1 r u.1 in
    let n = number_sound 2 bs t.0 t.1 t.2 in
    let d : ltb 255 s ≡ true = ap (λ v. ltb 255 v) (sym e) ∙ u.0 in (
      sym d,
      n.0 ∙ ap (λ v. bytes 2 v ++ t.1) e ∙ ap (λ l. bytes 2 s ++ l) (same_rest t.0 s t.1 r u.1) ∙ ap (λ b. cond b (bytes 2 s) (bytes 1 s) ++ r) (sym d),
      omega (arith, ltb-true 255 t.0 u.0),
    )

step_whole_at : (b : Bool) (s : ℕ) (q : List ℕ) → ltb 255 s ≡ b → 0 < s → s < 65536 → step_in b (cond b (bytes 2 s) (bytes 1 s) ++ q) ≡ Some (s, q)
unfolding step_in
step_whole_at false s q e pos most =
    then_at (number_in 1 (bytes 1 s ++ q)) (λ s r. only_if (ltb 0 s) (Some (s, r))) s q (number_whole 1 s q (omega (arith, ltb-false 255 s e)))
    ∙ if_at (ltb 0 s) (Some (s, q)) (lt-ltb 0 s pos)
step_whole_at true s q e pos most =
    then_at (number_in 2 (bytes 2 s ++ q)) (λ s r. only_if (ltb 255 s) (Some (s, r))) s q (number_whole 2 s q (omega arith))
    ∙ if_at (ltb 255 s) (Some (s, q)) e

pub step_whole : (s : ℕ) (q : List ℕ) → 0 < s → s < 65536 → step_in (ltb 255 s) (cond (ltb 255 s) (bytes 2 s) (bytes 1 s) ++ q) ≡ Some (s, q)
step_whole s q pos most = step_whole_at (ltb 255 s) s q refl pos most

pub size_sound : (t : Bool) (x : ℕ) (bs : List ℕ) (y : ℕ) (r : List ℕ) → size_in t x bs ≡ Some (y, r) → (t ≡ not (eqb x y)) × (bs ≡ resized x y ++ r)
unfolding size_in
size_sound false x bs y r h = grind arith
size_sound true x bs y r h = grind arith

size_whole_at : (b : Bool) (x y : ℕ) (q : List ℕ) → eqb x y ≡ b → x ≤ 32 → y ≤ 32 → size_in (not b) x (cond b [] (signed_difference x y ∷ []) ++ q) ≡ Some (y, q)
unfolding size_in
size_whole_at true x y q e hx hy = ap (λ v. Some (v, q)) (eqb-true x y e)
size_whole_at false x y q e hx hy = grind arith

pub size_whole : (x y : ℕ) (q : List ℕ) → x ≤ 32 → y ≤ 32 → size_in (not (eqb x y)) x (resized x y ++ q) ≡ Some (y, q)
size_whole x y q hx hy = size_whole_at (eqb x y) x y q refl hx hy
