-- What a hole of a format writes of a number in hexadecimal digits, filled up with zeros to a width.
use Rattle.std.proofs.Common.{◌≡◌, ℕ, zero, suc, ◌+◌, ◌-◌, ◌*◌, ◌/◌, ◌%◌, ◌^◌, ◌<◌, ◌≤◌, false, List, [], ◌∷◌, codes, ◌++◌, length, replicate, refl, sym, ap, ◌∙◌, ⊎_elim, append_assoc, append-nil, pow-suc, arith}
use Rattle.std.proofs.lemmas.Nat.{shr-shr}
use Rattle.std.proofs.lemmas.Bool.{cases_eq, ne_eqb}
use Rattle.std.proofs.lemmas.List.{replicate-append-replicate}
use Rattle.std.specs.Fmt.{char_count, digits, digits_onto, digit_glyph, padded_integral, format_spec}
use Rattle.frame_map.specs.Texts.{byte_text, eight_digits, three_masks}

-- the last w digits of n
unfoldable pub last_digits : ℕ → ℕ → List ℕ
last_digits zero n = []
last_digits (suc w) n = last_digits w (n / 16) ++ digit_glyph false (n % 16) ∷ []

zeros : (w : ℕ) → last_digits w 0 ≡ replicate w 48
unfolding last_digits
zeros zero = refl
zeros (suc w) = ap (λ l. l ++ 48 ∷ []) (zeros w) ∙ replicate-append-replicate w 1 48 ∙ ap (λ m. replicate m 48) (let e : w + 1 ≡ suc w = omega arith in e)

last : (k n : ℕ) (acc : List ℕ) → n / 16 ≡ 0 → digits_onto (suc k) 16 false n acc ≡ digit_glyph false (n % 16) ∷ acc
last k n acc z = rw z

step : (k n : ℕ) (acc : List ℕ) → (n / 16 ≡ 0 → ⊥) → digits_onto (suc k) 16 false n acc ≡ digits_onto k 16 false (n / 16) (digit_glyph false (n % 16) ∷ acc)
step k n acc ne = rw (ne_eqb (n / 16) 0 ne)

some : (w m : ℕ) → m < 16 ^ w → (m ≡ 0 → ⊥) → 0 < w
some zero m l ne = absurd (ne (omega arith))
some (suc w) m l ne = omega arith

-- a number of at most w digits, filled up
filled : (w k n : ℕ) (acc : List ℕ) → w ≤ k → n < 16 ^ w → 0 < w →
    replicate (w + length acc - length (digits_onto k 16 false n acc)) 48 ++ digits_onto k 16 false n acc ≡ last_digits w n ++ acc
unfolding last_digits
filled zero k n acc h l p = absurd (omega arith)
filled (suc w) zero n acc h l p = absurd (omega arith)
filled (suc w) (suc k) n acc h l p =
    ⊎_elim
    (λ (z : n / 16 ≡ 0).
    ap (λ (ds : List ℕ). replicate (suc w + length acc - length ds) 48 ++ ds) (last k n acc z)
    ∙ ap (λ (m : ℕ). replicate m 48 ++ digit_glyph false (n % 16) ∷ acc) (let e : suc w + length acc - length (digit_glyph false (n % 16) ∷ acc) ≡ w = omega arith in e)
    ∙ ap (λ (l : List ℕ). l ++ digit_glyph false (n % 16) ∷ acc) (sym (zeros w) ∙ ap (λ m. last_digits w m) (sym z))
    ∙ sym (append_assoc (last_digits w (n / 16)) (digit_glyph false (n % 16) ∷ []) acc))
    (λ (ne : n / 16 ≡ 0 → ⊥).
    let small : n / 16 < 16 ^ w = let e : 16 ^ suc w ≡ 16 ^ w * 16 = pow-suc 16 w in omega arith in
    ap (λ (ds : List ℕ). replicate (suc w + length acc - length ds) 48 ++ ds) (step k n acc ne)
    ∙ ap (λ (m : ℕ). replicate (m - length (digits_onto k 16 false (n / 16) (digit_glyph false (n % 16) ∷ acc))) 48 ++ digits_onto k 16 false (n / 16) (digit_glyph false (n % 16) ∷ acc)) (let e : suc w + length acc ≡ w + length (digit_glyph false (n % 16) ∷ acc) = omega arith in e)
    ∙ filled w k (n / 16) (digit_glyph false (n % 16) ∷ acc) (omega arith) small (some w (n / 16) small ne)
    ∙ sym (append_assoc (last_digits w (n / 16)) (digit_glyph false (n % 16) ∷ []) acc))
    (cases_eq (n / 16) 0)

-- what the options 0 and a width of w make of a text of digits
padded : (w : ℕ) (ds : List ℕ) → padded_integral (format_spec 32 0 4 w (2 ^ 64 - 1)) false [] ds ≡ replicate (w - length ds) 48 ++ ds
unfolding padded_integral char_count
padded w ds =
    ap (λ m. replicate m 48 ++ (ds ++ [])) (let e : w - length ds - 0 - 0 ≡ w - length ds = omega arith in e)
    ∙ ap (λ l. replicate (w - length ds) 48 ++ l) (append-nil ds)

all_filled : (k w n : ℕ) → w ≤ k → n < 16 ^ w → 0 < w → replicate (w - length (digits_onto k 16 false n [])) 48 ++ digits_onto k 16 false n [] ≡ last_digits w n
all_filled k w n h l p =
    ap (λ m. replicate (m - length (digits_onto k 16 false n [])) 48 ++ digits_onto k 16 false n []) (let e : w ≡ w + length {A = ℕ} [] = omega arith in e)
    ∙ filled w k n [] h l p
    ∙ append-nil (last_digits w n)

in_digits : (P : List ℕ → Type 0) (n : ℕ) → ((k : ℕ) → k ≡ 64 → P (digits_onto k 16 false n [])) → P (digits 16 false n)
unfolding digits
in_digits P n h = h 64 refl

-- what a hole with the options 0 and x and a width of w writes
abbrev pub hex : ℕ → ℕ → List ℕ
hex w n = padded_integral (format_spec 32 0 4 w (2 ^ 64 - 1)) false [] (digits 16 false n)

pub hole : (w n : ℕ) → 0 < w → w ≤ 64 → n < 16 ^ w → hex w n ≡ last_digits w n
hole w n p h l =
    in_digits (λ ds. padded_integral (format_spec 32 0 4 w (2 ^ 64 - 1)) false [] ds ≡ last_digits w n) n
    (λ k e. padded w (digits_onto k 16 false n []) ∙ all_filled k w n (omega arith) l p)

-- two digits of the last byte
two : (w x : ℕ) → last_digits (suc (suc w)) x ≡ last_digits w (x / 256) ++ byte_text (x % 256)
unfolding last_digits byte_text
two w x =
    append_assoc (last_digits w (x / 16 / 16)) (digit_glyph false (x / 16 % 16) ∷ []) (digit_glyph false (x % 16) ∷ [])
    ∙ ap (λ m. last_digits w m ++ digit_glyph false (x / 16 % 16) ∷ digit_glyph false (x % 16) ∷ []) (shr-shr x 4 4)
    ∙ ap (λ m. last_digits w (x / 256) ++ digit_glyph false m ∷ digit_glyph false (x % 16) ∷ []) (let e : x / 16 % 16 ≡ x % 256 / 16 % 16 = omega arith in e)
    ∙ ap (λ m. last_digits w (x / 256) ++ digit_glyph false (x % 256 / 16 % 16) ∷ digit_glyph false m ∷ []) (let e : x % 16 ≡ x % 256 % 16 = omega arith in e)

none : (x : ℕ) → last_digits 0 x ≡ []
unfolding last_digits
none x = refl

-- a byte, a half and a whole word
pub byte_hole : (x : ℕ) → x < 2 ^ 8 → last_digits 2 x ≡ byte_text x
byte_hole x l = two 0 x ∙ ap (λ ds. ds ++ byte_text (x % 256)) (none (x / 256)) ∙ ap byte_text (let e : x % 256 ≡ x = omega arith in e)

pub half_hole : (x : ℕ) → x < 2 ^ 16 → last_digits 4 x ≡ byte_text (x / 256) ++ byte_text (x % 256)
half_hole x l = two 2 x ∙ ap (λ ds. ds ++ byte_text (x % 256)) (byte_hole (x / 256) (omega arith))

pub word_hole : (x : ℕ) → x < 2 ^ 32 → last_digits 8 x ≡ eight_digits x
unfolding eight_digits
word_hole x l =
    let high : x / 65536 / 256 ≡ x / 16777216 % 256 = shr-shr x 16 8 ∙ (let e : x / 16777216 ≡ x / 16777216 % 256 = omega arith in e) in
    let a : List ℕ = byte_text (x / 65536 / 256) in
    let b : List ℕ = byte_text (x / 65536 % 256) in
    let c : List ℕ = byte_text (x / 256 % 256) in
    let d : List ℕ = byte_text (x % 256) in
    two 6 x
    ∙ ap (λ ds. ds ++ d) (two 4 (x / 256) ∙ ap (λ ds. ds ++ c) (ap (λ m. last_digits 4 m) (shr-shr x 8 8) ∙ half_hole (x / 65536) (omega arith)))
    ∙ append_assoc (a ++ b) c d
    ∙ append_assoc a b (c ++ d)
    ∙ ap (λ m. byte_text m ++ (b ++ (c ++ d))) high

-- the masks of a row as a format writes them, before what follows
pub masks_written : (slots registers untouched : ℕ) (tail : List ℕ) → slots < 2 ^ 32 → registers < 2 ^ 16 → untouched < 2 ^ 8 →
    codes "slots 0x" ++ (hex 8 slots ++ (codes " registers 0x" ++ (hex 4 registers ++ (codes " untouched 0x" ++ (hex 2 untouched ++ tail))))) ≡ three_masks slots registers untouched ++ tail
unfolding three_masks
masks_written slots registers untouched tail a b c =
    let e8 : hex 8 slots ≡ eight_digits slots = hole 8 slots (omega arith) (omega arith) a ∙ word_hole slots a in
    let e4 : hex 4 registers ≡ byte_text (registers / 256) ++ byte_text (registers % 256) = hole 4 registers (omega arith) (omega arith) b ∙ half_hole registers b in
    let e2 : hex 2 untouched ≡ byte_text untouched = hole 2 untouched (omega arith) (omega arith) c ∙ byte_hole untouched c in
    rw (e8, e4, e2) (simp append_assoc)
