-- An image, start by start and bucket by bucket.
use Rattle.std.proofs.Common.{◌≡◌, ℕ, zero, suc, ◌+◌, ◌-◌, ◌*◌, ◌<◌, ◌≤◌, List, [], ◌∷◌, ◌++◌, length, get_or, take, drop, sym, refl, ap, ◌∙◌, ⊎_elim, append_assoc, append-nil, arith}
use Rattle.std.proofs.lemmas.List.{length-append, length-drop, get_or_append_left, get_or-append_right, take_more, take_all, take-append-drop}
use Rattle.std.proofs.lemmas.Bool.{cases_eq}
use Rattle.frame_map.specs.declared.row.Entry.{Entry}
use Rattle.delta_layout.specs.Bytes.{bytes}
use Rattle.delta_layout.specs.Codes.{origin, codes}
use Rattle.delta_image.specs.Buckets.{in_bucket, body, start, starts, delta_bytes}
use Rattle.delta_image.specs.Images.{start_in, stretch, GoodStarts}
use Rattle.delta_image.proofs.Stretches.{stretch-length, stretch_join, stretch_middle}

length_two : (x : ℕ) → length (bytes 2 x) ≡ 2
unfolding bytes
length_two x = refl

pub length-starts : (es : List Entry) (n : ℕ) → length (starts es n) ≡ 2 * n
unfolding starts
length-starts es zero = refl
length-starts es (suc n) = let a = length-append (starts es n) (bytes 2 (start es n)) in let b = length-starts es n in let c = length_two (start es n) in omega arith

-- two bytes of a number of 16 bits spell it
two_spell : (x : ℕ) → x < 65536 → get_or (bytes 2 x) 0 0 + get_or (bytes 2 x) 1 0 * 256 ≡ x
unfolding bytes
two_spell x h = omega arith

two_bytes : (a b : ℕ) → a < 256 → b < 256 → bytes 2 (a + b * 256) ≡ a ∷ b ∷ []
unfolding bytes
two_bytes a b h k = grind arith

-- a byte of start k among the first n
start_byte : (es : List Entry) (n k j : ℕ) → k < n → j < 2 → get_or (starts es n) (2 * k + j) 0 ≡ get_or (bytes 2 (start es k)) j 0
unfolding starts
start_byte es zero k j l h = absurd (omega arith)
start_byte es (suc n) k j l h =
    ⊎_elim
    (λ (e : k ≡ n).
    get_or-append_right (starts es n) (bytes 2 (start es n)) (2 * n) (2 * k + j) 0 (length-starts es n) (omega arith)
    ∙ ap (λ m. get_or (bytes 2 (start es n)) m 0) (let z : 2 * k + j - 2 * n ≡ j = omega arith in z)
    ∙ ap (λ m. get_or (bytes 2 (start es m)) j 0) (sym e))
    (λ (ne : k ≡ n → ⊥).
    get_or_append_left (starts es n) (bytes 2 (start es n)) 0 (2 * k + j) (omega (arith, length-starts es n))
    ∙ start_byte es n k j (omega arith) h)
    (cases_eq k n)

-- the rows of bucket k lie between those of the earlier and the later buckets
pub body_parts : (es : List Entry) (k d : ℕ) → (rest : List ℕ) × (body es (suc k + d) ≡ body es k ++ (codes origin (in_bucket k es) ++ rest))
unfolding body
body_parts es k zero = ([], ap (λ n. body es n) (let z : suc k + 0 ≡ suc k = omega arith in z) ∙ ap (λ l. body es k ++ l) (sym (append-nil (codes origin (in_bucket k es)))))
body_parts es k (suc d) =
    let p = body_parts es k d in (
      p.0 ++ codes origin (in_bucket (suc k + d) es),
      ap (λ n. body es n) (let z : suc k + suc d ≡ suc (suc k + d) = omega arith in z)
          ∙ ap (λ l. l ++ codes origin (in_bucket (suc k + d) es)) p.1
          ∙ append_assoc (body es k) (codes origin (in_bucket k es) ++ p.0) (codes origin (in_bucket (suc k + d) es))
          ∙ ap (λ l. body es k ++ l) (append_assoc (codes origin (in_bucket k es)) p.0 (codes origin (in_bucket (suc k + d) es))),
    )

pub body_more : (es : List Entry) (n : ℕ) → length (body es (suc n)) ≡ length (body es n) + length (codes origin (in_bucket n es))
unfolding body
body_more es n = length-append (body es n) (codes origin (in_bucket n es))

body_grows : (es : List Entry) (k d : ℕ) → length (body es k) ≤ length (body es (k + d))
body_grows es k zero = grind arith
body_grows es k (suc d) =
    let z = ap (λ n. length (body es n)) (let z : k + suc d ≡ suc (k + d) = omega arith in z) in
    let a = body_grows es k d in let b = body_more es (k + d) in omega arith

module _ (es : List Entry) (fits : start es 64 < 65536) where
  start_small : (k : ℕ) → k ≤ 64 → start es k ≤ start es 64
  start_small k l =
      let a = body_grows es k (64 - k) in
      let e = ap (λ n. length (body es n)) (let z : k + (64 - k) ≡ 64 = omega arith in z) in
      omega arith

  pub image_length : length (delta_bytes es) ≡ start es 64
  unfolding delta_bytes
  image_length = length-append (starts es 65) (body es 64) ∙ ap (λ n. n + length (body es 64)) (length-starts es 65)

  image_byte : (k j i : ℕ) → k ≤ 64 → j < 2 → i ≡ 2 * k + j → get_or (delta_bytes es) i 0 ≡ get_or (bytes 2 (start es k)) j 0
  unfolding delta_bytes
  image_byte k j i l h e =
      ap (λ n. get_or (starts es 65 ++ body es 64) n 0) e
      ∙ get_or_append_left (starts es 65) (body es 64) 0 (2 * k + j) (omega (arith, length-starts es 65))
      ∙ start_byte es 65 k j (omega arith) h

  -- the starts of the image are those of the layout
  pub start_is : (k : ℕ) → k ≤ 64 → start_in (delta_bytes es) k ≡ start es k
  start_is k l =
      let a = image_byte k 0 (2 * k) l (omega arith) (omega arith) in
      let b = image_byte k 1 (2 * k + 1) l (omega arith) refl in
      let s = start_small k l in
      ap (λ x. x + get_or (delta_bytes es) (2 * k + 1) 0 * 256) a
      ∙ ap (λ x. get_or (bytes 2 (start es k)) 0 0 + x * 256) b
      ∙ two_spell (start es k) (omega arith)

  pub laid_starts : GoodStarts (delta_bytes es) 65
  unfolding body
  laid_starts = record {
    whole = omega (arith, image_length);
    first = λ l. start_is 0 (omega arith);
    rise = λ k l. let a = start_is k (omega arith) in let b = start_is (suc k) (omega arith) in let c = body_more es k in omega arith;
    last = λ l. start_is 64 (omega arith) ∙ sym image_length;
  }

  -- and between two starts lie the rows of a bucket
  pub laid_bucket : (k : ℕ) → k < 64 → stretch (delta_bytes es) (start_in (delta_bytes es) k) (start_in (delta_bytes es) (suc k)) ≡ codes origin (in_bucket k es)
  unfolding delta_bytes
  laid_bucket k l =
      let parts = body_parts es k (63 - k) in
      let e : delta_bytes es ≡ (starts es 65 ++ body es k) ++ (codes origin (in_bucket k es) ++ parts.0) =
      ap (λ n. starts es 65 ++ body es n) (let z : 64 ≡ suc k + (63 - k) = omega arith in z)
      ∙ ap (λ l. starts es 65 ++ l) parts.1
      ∙ sym (append_assoc (starts es 65) (body es k) (codes origin (in_bucket k es) ++ parts.0)) in
      let a = start_is k (omega arith) in
      let b = start_is (suc k) (omega arith) in
      ap (λ x. stretch (delta_bytes es) x (start_in (delta_bytes es) (suc k))) a
      ∙ ap (λ x. stretch (delta_bytes es) (start es k) x) b
      ∙ ap (λ w. stretch w (start es k) (start es (suc k))) e
      ∙ stretch_middle (starts es 65 ++ body es k) (codes origin (in_bucket k es)) parts.0 (start es k) (start es (suc k))
      (omega (arith, length-append (starts es 65) (body es k), length-starts es 65))
      (omega (arith, body_more es k))

-- good starts rise and lie inside the image
module _ (w : List ℕ) (good : GoodStarts w 65) where
  pub starts_rise : (k d : ℕ) → k + d ≤ 64 → start_in w k ≤ start_in w (k + d)
  starts_rise k zero l = grind arith
  starts_rise k (suc d) l =
      let z = ap (λ n. start_in w n) (let z : k + suc d ≡ suc (k + d) = omega arith in z) in
      let a = starts_rise k d (omega arith) in
      let b = good.rise (k + d) (omega arith) in
      omega arith

  pub starts_inside : (k : ℕ) → k ≤ 64 → start_in w k ≤ length w
  starts_inside k l =
      let a = starts_rise k (64 - k) (omega arith) in
      let z = ap (λ n. start_in w n) (let z : k + (64 - k) ≡ 64 = omega arith in z) in
      let b = good.last (omega arith) in
      omega arith

  pub starts_above : (k : ℕ) → k ≤ 64 → 130 ≤ start_in w k
  starts_above k l = let a = starts_rise 0 k (omega arith) in let z = ap (λ n. start_in w n) (let z : 0 + k ≡ k = omega arith in z) in let b = good.first (omega arith) in omega arith

-- an image whose starts are good, and whose stretches are the rows of a list's buckets, is the layout of that list
module _ (w : List ℕ) (byte : (i : ℕ) → get_or w i 0 < 256) (good : GoodStarts w 65) (es : List Entry)
    (laid : (k : ℕ) → k < 64 → codes origin (in_bucket k es) ≡ stretch w (start_in w k) (start_in w (suc k))) where
  body_is : (n : ℕ) → n ≤ 64 → body es n ≡ stretch w 130 (start_in w n)
  unfolding body
  body_is zero l = grind arith
  body_is (suc n) l =
      ap (λ x. x ++ codes origin (in_bucket n es)) (body_is n (omega arith))
      ∙ ap (λ x. stretch w 130 (start_in w n) ++ x) (laid n (omega arith))
      ∙ stretch_join w 130 (start_in w n) (start_in w (suc n)) (starts_above w good n (omega arith)) (good.rise n (omega arith))

  start_same : (n : ℕ) → n ≤ 64 → start es n ≡ start_in w n
  start_same n l =
      let a = ap length (body_is n l) in
      let b = stretch-length w 130 (start_in w n) (starts_inside w good n l) in
      let c = starts_above w good n l in
      omega arith

  starts_are : (n : ℕ) → n ≤ 65 → starts es n ≡ take (2 * n) w
  unfolding starts
  starts_are zero l = refl
  starts_are (suc n) l =
      let long = good.whole in
      let one = take_more w (2 * n) 0 (omega arith) in
      let two = take_more w (2 * n + 1) 0 (omega arith) in
      ap (λ x. x ++ bytes 2 (start es n)) (starts_are n (omega arith))
      ∙ ap (λ x. take (2 * n) w ++ bytes 2 x) (start_same n (omega arith))
      ∙ ap (λ x. take (2 * n) w ++ x) (two_bytes (get_or w (2 * n) 0) (get_or w (2 * n + 1) 0) (byte (2 * n)) (byte (2 * n + 1)))
      ∙ sym (append_assoc (take (2 * n) w) (get_or w (2 * n) 0 ∷ []) (get_or w (2 * n + 1) 0 ∷ []))
      ∙ ap (λ x. x ++ get_or w (2 * n + 1) 0 ∷ []) (sym one)
      ∙ sym two
      ∙ ap (λ m. take m w) (let z : 2 * n + 1 + 1 ≡ 2 * suc n = omega arith in z)

  pub laid_whole : delta_bytes es ≡ w
  unfolding delta_bytes
  laid_whole =
      ap (λ x. x ++ body es 64) (starts_are 65 (omega arith))
      ∙ ap (λ x. take 130 w ++ x) (body_is 64 (omega arith) ∙ ap (λ x. stretch w 130 x) (good.last (omega arith)) ∙ take_all (length w - 130) (drop 130 w) (omega (arith, length-drop 130 w)))
      ∙ take-append-drop 130 w
