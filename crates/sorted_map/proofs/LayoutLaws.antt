-- The layout of a row and its reading undo one another.
use Rattle.std.specs.Prelude.{◌≡◌, ℕ, ◌+◌, ◌*◌, ◌/◌, ◌%◌, ◌^◌, ◌<◌, [], ◌∷◌}
use Rattle.std.proofs.Common.{sym, ap, ◌∙◌, ⊎_elim, arith}
use Rattle.std.proofs.lemmas.Nat.{shr-shr, div-add-mod'}
use Rattle.std.proofs.lemmas.Bool.{cases_eq}
use Rattle.frame_map.specs.Rows.{saved_slot, Lawful}
use Rattle.frame_map.specs.declared.row.Entry.{Entry}
use Rattle.frame_map.specs.declared.row.Row.{Row}
use Rattle.frame_map.proofs.TextLaws.{eight}
use Rattle.sorted_map.specs.Decoding.{spelled}
use Rattle.sorted_map.specs.Layout.{saved_word, sorted_row}

-- a saved slot of a lawful row is below 32
saved_small : (r : Row) → Lawful r → (k : ℕ) → saved_slot r k < 32
saved_small r l k =
    ⊎_elim
    (λ (z : saved_slot r k ≡ 0). omega arith)
    (λ (z : saved_slot r k ≡ 0 → ⊥). let s = (l.saves.inside k (omega arith)).1 in omega (arith, l.sized.most))
    (cases_eq (saved_slot r k) 0)

-- bytes of a word that is put together from four
module _ (a b c d : ℕ) (ha : a < 256) (hb : b < 256) (hc : c < 256) (hd : d < 256) where
  byte_0 : (a + b * 256 + c * 65536 + d * 16777216) % 256 ≡ a
  byte_0 = omega arith

  byte_1 : (a + b * 256 + c * 65536 + d * 16777216) / 256 % 256 ≡ b
  byte_1 = omega arith

  byte_2 : (a + b * 256 + c * 65536 + d * 16777216) / 65536 % 256 ≡ c
  byte_2 = omega arith

  byte_3 : (a + b * 256 + c * 65536 + d * 16777216) / 16777216 % 256 ≡ d
  byte_3 = omega arith

linked : (w x y z a b c d : ℕ) → w ≡ x * 256 + a → x ≡ y * 256 + b → y ≡ z * 256 + c → d ≡ z → a + b * 256 + c * 65536 + d * 16777216 ≡ w
linked w x y z a b c d p q r s = omega arith

-- a word put together again from its bytes
pub bytes_whole : (w : ℕ) → w < 2 ^ 32 → w % 256 + w / 256 % 256 * 256 + w / 65536 % 256 * 65536 + w / 16777216 % 256 * 16777216 ≡ w
bytes_whole w h =
    let two : w / 65536 ≡ w / 256 / 256 = sym (shr-shr w 8 8) in
    let top : w / 16777216 % 256 ≡ w / 16777216 = omega arith in
    linked w (w / 256) (w / 65536) (w / 16777216) (w % 256) (w / 256 % 256) (w / 65536 % 256) (w / 16777216 % 256)
    (sym (div-add-mod' w 256))
    (sym (div-add-mod' (w / 256) 256) ∙ ap (λ x. x * 256 + w / 256 % 256) (sym two))
    (sym (div-add-mod' (w / 65536) 256) ∙ ap (λ x. x * 256 + w / 65536 % 256) (shr-shr w 16 8))
    top

low : (x : ℕ) → x < 256 → x % 256 ≡ x
low x h = omega arith

-- reading undoes the layout
pub undone : (e : Entry) → Lawful e.row →
    spelled (e.point * 65536 + e.row.size) e.row.slots (e.row.registers + e.row.untouched * 65536) (saved_word e.row 0) (saved_word e.row 4) ≡ e
undone e l =
    let small : e.row.size < 256 = omega (arith, l.sized.most) in
    let regs : e.row.registers < 65536 = l.masked.sixteen in
    let unt : e.row.untouched < 256 = l.masked.eight in
    let b : (k : ℕ) → saved_slot e.row k < 256 = λ k. omega (arith, saved_small e.row l k) in
    let point_is : (e.point * 65536 + e.row.size) / 65536 ≡ e.point = omega arith in
    let size_is : (e.point * 65536 + e.row.size) % 256 ≡ e.row.size = omega arith in
    let registers_is : (e.row.registers + e.row.untouched * 65536) % 65536 ≡ e.row.registers = omega arith in
    let high : (e.row.registers + e.row.untouched * 65536) / 65536 ≡ e.row.untouched = omega arith in
    let untouched_is : (e.row.registers + e.row.untouched * 65536) / 65536 % 256 ≡ e.row.untouched = ap (λ x. x % 256) high ∙ low e.row.untouched unt in
    let s : ℕ → ℕ = saved_slot e.row in
    let saved_is : (spelled 0 0 0 (saved_word e.row 0) (saved_word e.row 4)).row.saved ≡ e.row.saved =
    (λ i. byte_0 (s 0) (s 1) (s 2) (s 3) (b 0) (b 1) (b 2) (b 3) i ∷ byte_1 (s 0) (s 1) (s 2) (s 3) (b 0) (b 1) (b 2) (b 3) i
    ∷ byte_2 (s 0) (s 1) (s 2) (s 3) (b 0) (b 1) (b 2) (b 3) i ∷ byte_3 (s 0) (s 1) (s 2) (s 3) (b 0) (b 1) (b 2) (b 3) i
    ∷ byte_0 (s 4) (s 5) (s 6) (s 7) (b 4) (b 5) (b 6) (b 7) i ∷ byte_1 (s 4) (s 5) (s 6) (s 7) (b 4) (b 5) (b 6) (b 7) i
    ∷ byte_2 (s 4) (s 5) (s 6) (s 7) (b 4) (b 5) (b 6) (b 7) i ∷ byte_3 (s 4) (s 5) (s 6) (s 7) (b 4) (b 5) (b 6) (b 7) i ∷ [])
    ∙ sym (eight e.row.saved l.saves.eight) in
    λ i. record {
      point = point_is i;
      row = record { size = size_is i; slots = e.row.slots; saved = saved_is i; registers = registers_is i; untouched = untouched_is i };
    }

-- where no bit without a meaning stands, the layout undoes reading
pub redone : (a b c d e : ℕ) → d < 2 ^ 32 → e < 2 ^ 32 → a / 256 % 256 ≡ 0 → c < 2 ^ 24 → sorted_row (spelled a b c d e) ≡ a ∷ b ∷ c ∷ d ∷ e ∷ []
redone a b c d e hd he za zc =
    let head : a / 65536 * 65536 + a % 256 ≡ a = omega (arith, shr-shr a 8 8) in
    let masks : c % 65536 + c / 65536 % 256 * 65536 ≡ c = omega arith in
    λ i. head i ∷ b ∷ masks i ∷ bytes_whole d hd i ∷ bytes_whole e he i ∷ []
