-- A row is read exactly if its code stands there; so no code begins another, and all are short.
use Rattle.std.proofs.lemmas.Grind.{common_steps}
use Rattle.std.proofs.Common.{◌≡◌, ℕ, zero, suc, ◌+◌, ◌*◌, ◌/◌, ◌^◌, ◌<◌, ◌≤◌, Bool, true, false, cond, not, eqb, ltb, List, [], ◌∷◌, ◌++◌, length, get_or, replicate, Some, sym, refl, ap, ◌∙◌, subst, ⊎_elim, arith}
use Rattle.std.proofs.lemmas.Nat.{div-add-mod'}
use Rattle.std.proofs.lemmas.List.{append_assoc, append-nil, length-append, get_or-replicate, get_or_past}
use Rattle.std.proofs.lemmas.Bool.{ltb-true, lt-ltb, cases_lt}
use Rattle.words.proofs.BitLaws.{bits_below, bit_of_zero}
use Rattle.frame_map.specs.Rows.{Lawful, saved_slot}
use Rattle.frame_map.specs.declared.row.Entry.{Entry}
use Rattle.frame_map.specs.declared.row.Row.{Row}
use Rattle.delta_layout.specs.Bytes.{bytes}
use Rattle.delta_layout.specs.Codes.{changed, resized, signed_difference, mask_of, moved, moved_mask, moved_slots, resaved, step, step_code, wide, code_bits, code, Next, origin, codes, Chain, last_of}
use Rattle.delta_layout.specs.Parsing.{only_if, stands, byte_in, changed_in, step_in, size_in, saved_in, row_in, fields_in, entry_in}
use Rattle.delta_layout.proofs.MaskLaws.{mask_bit, mask_low, mask_unique}
use Rattle.delta_layout.proofs.ParseLaws.{then_some, if_some, then_at, if_at, same_value, same_rest, byte_sound, byte_whole, changed_sound, changed_whole, step_sound, step_whole, size_sound, size_whole}
use Rattle.delta_layout.proofs.SlotLaws.{saved_sound, saved_whole, saved_length}

-- the fields of a row but the point
abbrev pub row_code : Row → Row → List ℕ
row_code b w = resized b.size w.size ++ (changed 4 b.slots w.slots ++ (changed 2 b.registers w.registers ++ (changed 1 b.untouched w.untouched ++ resaved b.saved w.saved)))

abbrev pub point_code : Entry → Entry → List ℕ
point_code b e = step_code (step b e)

-- the facts that the bit map byte tells, bit by bit
abbrev pub fact : Entry → Entry → ℕ → Bool
fact b e zero = not (eqb b.row.size e.row.size)
fact b e (suc zero) = not (eqb b.row.slots e.row.slots)
fact b e (suc (suc zero)) = not (eqb b.row.registers e.row.registers)
fact b e (suc (suc (suc zero))) = not (eqb b.row.untouched e.row.untouched)
fact b e (suc (suc (suc (suc zero)))) = not (eqb (moved_mask b.row.saved e.row.saved) 0)
fact b e (suc (suc (suc (suc (suc k))))) = wide b e

bits_are : (b e : Entry) → code_bits b e ≡ mask_of (fact b e) 6
unfolding mask_of
bits_are b e = grind arith

-- what is known of a row that was read
pub record RowRead (f : ℕ) (b w : Row) (bs r : List ℕ) : Type 0 where
  pub size_bit : stands f 0 ≡ not (eqb b.size w.size)
  pub slots_bit : stands f 1 ≡ not (eqb b.slots w.slots)
  pub registers_bit : stands f 2 ≡ not (eqb b.registers w.registers)
  pub untouched_bit : stands f 3 ≡ not (eqb b.untouched w.untouched)
  pub saved_bit : stands f 4 ≡ not (eqb (moved_mask b.saved w.saved) 0)
  pub laid : bs ≡ row_code b w ++ r

regroup : (z a g u v r : List ℕ) → z ++ (a ++ (g ++ (u ++ (v ++ r)))) ≡ (z ++ (a ++ (g ++ (u ++ v)))) ++ r
regroup z a g u v r = sym (simp append_assoc)

joined_fields : (z a g u v bs r₁ r₂ r₃ r₄ r₅ r : List ℕ) → bs ≡ z ++ r₁ → r₁ ≡ a ++ r₂ → r₂ ≡ g ++ r₃ → r₃ ≡ u ++ r₄ → r₄ ≡ v ++ r₅ → r₅ ≡ r → bs ≡ (z ++ (a ++ (g ++ (u ++ v)))) ++ r
joined_fields z a g u v bs r₁ r₂ r₃ r₄ r₅ r e₁ e₂ e₃ e₄ e₅ e = grind (arith, common_steps)

pub row_sound : (f : ℕ) (b : Row) (bs : List ℕ) (w : Row) (r : List ℕ) → length b.saved ≡ 8 → row_in f b bs ≡ Some (w, r) → RowRead f b w bs r
unfolding row_in
row_sound f b bs w r eight h =
    let t₁ = then_some (size_in (stands f 0) b.size bs) _ w r h in
    let t₂ = then_some (changed_in 4 (stands f 1) b.slots t₁.1) _ w r t₁.3 in
    let t₃ = then_some (changed_in 2 (stands f 2) b.registers t₂.1) _ w r t₂.3 in
    let t₄ = then_some (changed_in 1 (stands f 3) b.untouched t₃.1) _ w r t₃.3 in
    let t₅ = then_some (saved_in (stands f 4) b.saved t₄.1) (λ v q. Some (record { size = t₁.0; slots = t₂.0; saved = v; registers = t₃.0; untouched = t₄.0 }, q)) w r t₄.3 in
    let s₁ = size_sound (stands f 0) b.size bs t₁.0 t₁.1 t₁.2 in
    let s₂ = changed_sound 4 (stands f 1) b.slots t₁.1 t₂.0 t₂.1 t₂.2 in
    let s₃ = changed_sound 2 (stands f 2) b.registers t₂.1 t₃.0 t₃.1 t₃.2 in
    let s₄ = changed_sound 1 (stands f 3) b.untouched t₃.1 t₄.0 t₄.1 t₄.2 in
    let s₅ = saved_sound (stands f 4) b.saved t₄.1 t₅.0 t₅.1 eight t₅.2 in
    let made : Row = record { size = t₁.0; slots = t₂.0; saved = t₅.0; registers = t₃.0; untouched = t₄.0 } in
    let rest : t₅.1 ≡ r = same_rest made w t₅.1 r t₅.3 in
    let known : RowRead f b made bs r = record {
      size_bit = s₁.0;
      slots_bit = s₂.0;
      registers_bit = s₃.0;
      untouched_bit = s₄.0;
      saved_bit = s₅.0;
      laid = joined_fields (resized b.size t₁.0) (changed 4 b.slots t₂.0) (changed 2 b.registers t₃.0) (changed 1 b.untouched t₄.0) (resaved b.saved t₅.0)
          bs t₁.1 t₂.1 t₃.1 t₄.1 t₅.1 r s₁.1 s₂.1 s₃.1 s₄.1 s₅.1 rest;
    } in
    subst (λ v. RowRead f b v bs r) {x = made} (same_value made w t₅.1 r t₅.3) known

-- the six bits of a byte below 64
six : (b e : Entry) (f : ℕ) → f < 64 → stands f 0 ≡ fact b e 0 → stands f 1 ≡ fact b e 1 → stands f 2 ≡ fact b e 2 → stands f 3 ≡ fact b e 3 → stands f 4 ≡ fact b e 4 → stands f 5 ≡ fact b e 5 → f ≡ code_bits b e
six b e f small h₀ h₁ h₂ h₃ h₄ h₅ = mask_unique f (fact b e) 6 small told ∙ sym (bits_are b e)
  where
    told : (k : ℕ) → k < 6 → stands f k ≡ fact b e k
    told zero l = h₀
    told (suc zero) l = h₁
    told (suc (suc zero)) l = h₂
    told (suc (suc (suc zero))) l = h₃
    told (suc (suc (suc (suc zero)))) l = h₄
    told (suc (suc (suc (suc (suc zero))))) l = h₅
    told (suc (suc (suc (suc (suc (suc k)))))) l = absurd (omega arith)

pub record EntryRead (b e : Entry) (bs r : List ℕ) : Type 0 where
  pub laid : bs ≡ code b e ++ r
  pub above : b.point < e.point
  pub fits : e.point < 2 ^ 16

fields_sound : (f : ℕ) (b : Entry) (bs : List ℕ) (e : Entry) (r : List ℕ) → f < 64 → length b.row.saved ≡ 8 → fields_in f b bs ≡ Some (e, r) → EntryRead b e (f ∷ bs) r
unfolding fields_in code
fields_sound f b bs e r small eight h =
    let t = then_some (step_in (stands f 5) bs) _ e r h in
    let u = if_some (ltb (b.point + t.0) 65536) _ (e, r) t.3 in
    let v = then_some (row_in f b.row t.1) _ e r u.1 in
    let st = step_sound (stands f 5) bs t.0 t.1 t.2 in
    let rw = row_sound f b.row t.1 v.0 v.1 eight v.2 in
    let made : Entry = record { point = b.point + t.0; row = v.0 } in
    let same : made ≡ e = same_value made e v.1 r v.3 in
    let rest : v.1 ≡ r = same_rest made e v.1 r v.3 in
    let far : t.0 ≡ step b made = omega arith in
    let bits : f ≡ code_bits b made = six b made f small rw.size_bit rw.slots_bit rw.registers_bit rw.untouched_bit rw.saved_bit (st.0 ∙ ap (λ n. ltb 255 n) far) in
    subst (λ w. EntryRead b w (f ∷ bs) r) same (record {
      laid = ap (λ n. n ∷ bs) bits
          ∙ ap (λ l. code_bits b made ∷ l) (st.1
          ∙ ap (λ n. cond (ltb 255 n) (bytes 2 n) (bytes 1 n) ++ t.1) far
          ∙ ap (λ l. point_code b made ++ l) (rw.laid ∙ ap (λ l. row_code b.row v.0 ++ l) rest)
          ∙ sym (append_assoc (point_code b made) (row_code b.row v.0) r));
      above = omega (arith, st.2);
      fits = ltb-true (b.point + t.0) 65536 u.0;
    })

-- what is read as a row is its code
pub entry_sound : (b : Entry) (bs : List ℕ) (e : Entry) (r : List ℕ) → length b.row.saved ≡ 8 → entry_in b bs ≡ Some (e, r) → EntryRead b e bs r
unfolding entry_in
entry_sound b bs e r eight h =
    let t = then_some (byte_in bs) _ e r h in
    let u = if_some (ltb t.0 64) (fields_in t.0 b t.1) (e, r) t.3 in
    let s = byte_sound bs t.0 t.1 t.2 in
    subst (λ l. EntryRead b e l r) (sym s.0) (fields_sound t.0 b t.1 e r (ltb-true t.0 64 u.0) eight u.1)

-- both rows have as many saved slots
row_length : (f : ℕ) (b : Row) (bs : List ℕ) (w : Row) (r : List ℕ) → row_in f b bs ≡ Some (w, r) → length w.saved ≡ length b.saved
unfolding row_in
row_length f b bs w r h =
    let t₁ = then_some (size_in (stands f 0) b.size bs) _ w r h in
    let t₂ = then_some (changed_in 4 (stands f 1) b.slots t₁.1) _ w r t₁.3 in
    let t₃ = then_some (changed_in 2 (stands f 2) b.registers t₂.1) _ w r t₂.3 in
    let t₄ = then_some (changed_in 1 (stands f 3) b.untouched t₃.1) _ w r t₃.3 in
    let t₅ = then_some (saved_in (stands f 4) b.saved t₄.1) (λ v q. Some (record { size = t₁.0; slots = t₂.0; saved = v; registers = t₃.0; untouched = t₄.0 }, q)) w r t₄.3 in
    let made : Row = record { size = t₁.0; slots = t₂.0; saved = t₅.0; registers = t₃.0; untouched = t₄.0 } in
    let known : length made.saved ≡ length b.saved = saved_length (stands f 4) b.saved t₄.1 t₅.0 t₅.1 t₅.2 in
    subst (λ (v : Row). length v.saved ≡ length b.saved) {x = made} (same_value made w t₅.1 r t₅.3) known

pub entry_length : (b : Entry) (bs : List ℕ) (e : Entry) (r : List ℕ) → entry_in b bs ≡ Some (e, r) → length e.row.saved ≡ length b.row.saved
unfolding entry_in fields_in
entry_length b bs e r h =
    let t = then_some (byte_in bs) _ e r h in
    let u = if_some (ltb t.0 64) (fields_in t.0 b t.1) (e, r) t.3 in
    let v = then_some (step_in (stands t.0 5) t.1) _ e r u.1 in
    let w = if_some (ltb (b.point + v.0) 65536) _ (e, r) v.3 in
    let x = then_some (row_in t.0 b.row v.1) (λ w q. Some (record { point = b.point + v.0; row = w }, q)) e r w.1 in
    ap (λ (y : Entry). length y.row.saved) (sym (same_value (record { point = b.point + v.0; row = x.0 }) e x.1 r x.3))
    ∙ row_length t.0 b.row v.1 x.0 x.1 x.2

-- the widths of a lawful row's fields
pub slots_small : (w : Row) → Lawful w → w.slots < 2 ^ 32
slots_small w l =
    let z : w.slots / 2 ^ 32 ≡ 0 = bits_below w.slots 32 (λ i s. let t : i < w.size = (l.slotted i s).1 in omega (arith, l.sized.most)) in
    omega (arith, div-add-mod' w.slots (2 ^ 32), z)

pub saved_small : (w : Row) → Lawful w → (k : ℕ) → saved_slot w k < 256
saved_small w l k = grind arith

row_whole : (f : ℕ) (b w : Row) (q : List ℕ) → Lawful b → Lawful w
    → stands f 0 ≡ not (eqb b.size w.size) → stands f 1 ≡ not (eqb b.slots w.slots) → stands f 2 ≡ not (eqb b.registers w.registers)
    → stands f 3 ≡ not (eqb b.untouched w.untouched) → stands f 4 ≡ not (eqb (moved_mask b.saved w.saved) 0)
    → row_in f b (row_code b w ++ q) ≡ Some (w, q)
unfolding row_in
row_whole f b w q lb lw h₀ h₁ h₂ h₃ h₄ =
    let z : List ℕ = resized b.size w.size in
    let a : List ℕ = changed 4 b.slots w.slots in
    let g : List ℕ = changed 2 b.registers w.registers in
    let u : List ℕ = changed 1 b.untouched w.untouched in
    let v : List ℕ = resaved b.saved w.saved in
    ap (λ l. row_in f b l) (sym (regroup z a g u v q))
    ∙ then_at (size_in (stands f 0) b.size (z ++ (a ++ (g ++ (u ++ (v ++ q)))))) _ w.size (a ++ (g ++ (u ++ (v ++ q))))
    (ap (λ t. size_in t b.size (z ++ (a ++ (g ++ (u ++ (v ++ q)))))) h₀ ∙ size_whole b.size w.size (a ++ (g ++ (u ++ (v ++ q)))) lb.sized.most lw.sized.most)
    ∙ then_at (changed_in 4 (stands f 1) b.slots (a ++ (g ++ (u ++ (v ++ q))))) _ w.slots (g ++ (u ++ (v ++ q)))
    (ap (λ t. changed_in 4 t b.slots (a ++ (g ++ (u ++ (v ++ q))))) h₁ ∙ changed_whole 4 b.slots w.slots (g ++ (u ++ (v ++ q))) (slots_small w lw))
    ∙ then_at (changed_in 2 (stands f 2) b.registers (g ++ (u ++ (v ++ q)))) _ w.registers (u ++ (v ++ q))
    (ap (λ t. changed_in 2 t b.registers (g ++ (u ++ (v ++ q)))) h₂ ∙ changed_whole 2 b.registers w.registers (u ++ (v ++ q)) lw.masked.sixteen)
    ∙ then_at (changed_in 1 (stands f 3) b.untouched (u ++ (v ++ q))) _ w.untouched (v ++ q)
    (ap (λ t. changed_in 1 t b.untouched (u ++ (v ++ q))) h₃ ∙ changed_whole 1 b.untouched w.untouched (v ++ q) lw.masked.eight)
    ∙ then_at (saved_in (stands f 4) b.saved (v ++ q)) _ w.saved q
    (ap (λ t. saved_in t b.saved (v ++ q)) h₄ ∙ saved_whole b.saved w.saved q lb.saves.eight lw.saves.eight (saved_small w lw))

-- the code of a row that may follow is read as that row
pub entry_whole : (b e : Entry) (q : List ℕ) → Lawful b.row → Next b e → entry_in b (code b e ++ q) ≡ Some (e, q)
unfolding entry_in fields_in code
entry_whole b e q lb n =
    let f : ℕ = code_bits b e in
    let low : code_bits b e < 64 = subst (λ x. x < 64) (sym (bits_are b e)) (mask_low (fact b e) 6) in
    let bit : (k : ℕ) → k < 6 → stands (code_bits b e) k ≡ fact b e k = λ k l. ap (λ x. stands x k) (bits_are b e) ∙ mask_bit (fact b e) 6 k l in
    let s : ℕ = step b e in
    let above : b.point < e.point = n.above in
    let fits : e.point < 65536 = n.fits in
    let back : b.point + step b e ≡ e.point = omega arith in
    let tail : List ℕ = row_code b.row e.row ++ q in
    then_at (byte_in (f ∷ ((point_code b e ++ row_code b.row e.row) ++ q))) (λ f r. only_if (ltb f 64) (fields_in f b r)) f ((point_code b e ++ row_code b.row e.row) ++ q)
    (byte_whole f ((point_code b e ++ row_code b.row e.row) ++ q) (omega arith))
    ∙ if_at (ltb f 64) (fields_in f b ((point_code b e ++ row_code b.row e.row) ++ q)) (lt-ltb f 64 low)
    ∙ ap (λ l. fields_in f b l) (append_assoc (point_code b e) (row_code b.row e.row) q)
    ∙ then_at (step_in (stands f 5) (point_code b e ++ tail)) _ s tail
    (ap (λ t. step_in t (point_code b e ++ tail)) (bit 5 (omega arith)) ∙ step_whole (step b e) tail (omega arith) (omega arith))
    ∙ if_at (ltb (b.point + s) 65536) _ (lt-ltb (b.point + step b e) 65536 (omega arith))
    ∙ then_at (row_in f b.row tail) _ e.row q
    (row_whole f b.row e.row q lb n.lawful (bit 0 (omega arith)) (bit 1 (omega arith)) (bit 2 (omega arith)) (bit 3 (omega arith)) (bit 4 (omega arith)))
    ∙ ap (λ p. Some (record { point = p; row = e.row }, q)) back

-- no code begins another: the bytes tell the row and what follows it
pub code_unique : (b e e' : Entry) (q q' : List ℕ) → Lawful b.row → Next b e → Next b e' → code b e ++ q ≡ code b e' ++ q' → (e ≡ e') × (q ≡ q')
code_unique b e e' q q' lb n n' h =
    let same = sym (entry_whole b e q lb n) ∙ ap (λ l. entry_in b l) h ∙ entry_whole b e' q' lb n' in
    (same_value e e' q q' same, same_rest e e' q q' same)

-- how long the parts of a code are
pub bytes-length : (n x : ℕ) → length (bytes n x) ≡ n
unfolding bytes
bytes-length zero x = refl
bytes-length (suc n) x = ap suc (bytes-length n (x / 256))

pub changed-length : (n x y : ℕ) → length (changed n x y) ≤ n
changed-length n x y = at (eqb x y)
  where
    at : (b : Bool) → length (cond b [] (bytes n y)) ≤ n
    at true = omega arith
    at false = omega (arith, bytes-length n y)

pub resized-length : (x y : ℕ) → length (resized x y) ≤ 1
resized-length x y = at (eqb x y)
  where
    at : (b : Bool) → length (cond b [] (signed_difference x y ∷ [])) ≤ 1
    at true = omega arith
    at false = omega arith

pub step-length : (n : ℕ) → (1 ≤ length (step_code n)) × (length (step_code n) ≤ 2)
step-length n = at (ltb 255 n)
  where
    at : (b : Bool) → (1 ≤ length (cond b (bytes 2 n) (bytes 1 n))) × (length (cond b (bytes 2 n) (bytes 1 n)) ≤ 2)
    at true = (omega (arith, bytes-length 2 n), omega (arith, bytes-length 2 n))
    at false = (omega (arith, bytes-length 1 n), omega (arith, bytes-length 1 n))

pub slots_length : (xs ys : List ℕ) (n : ℕ) → length (moved_slots xs ys n) ≤ n
unfolding moved_slots
slots_length xs ys zero = omega arith
slots_length xs ys (suc n) = omega (arith, slots_length xs ys n, length-append (moved_slots xs ys n) (cond (moved xs ys n) (get_or ys n 0 ∷ []) []), at (moved xs ys n))
  where
    at : (b : Bool) → length (cond b (get_or ys n 0 ∷ []) []) ≤ 1
    at true = omega arith
    at false = omega arith

pub resaved-length : (xs ys : List ℕ) → length (resaved xs ys) ≤ 9
resaved-length xs ys = at (eqb (moved_mask xs ys) 0)
  where
    at : (b : Bool) → length (cond b [] (moved_mask xs ys ∷ moved_slots xs ys 8)) ≤ 9
    at true = omega arith
    at false = omega (arith, slots_length xs ys 8)

-- a code has 2 to 20 bytes
pub code-length : (b e : Entry) → (2 ≤ length (code b e)) × (length (code b e) ≤ 20)
unfolding code
code-length b e =
    let z : List ℕ = resized b.row.size e.row.size in
    let a : List ℕ = changed 4 b.row.slots e.row.slots in
    let g : List ℕ = changed 2 b.row.registers e.row.registers in
    let u : List ℕ = changed 1 b.row.untouched e.row.untouched in
    let v : List ℕ = resaved b.row.saved e.row.saved in
    let p : List ℕ = point_code b e in
    let s : length (p ++ (z ++ (a ++ (g ++ (u ++ v))))) ≡ length p + (length z + (length a + (length g + (length u + length v)))) = simp length-append in
    let lp = step-length (step b e) in
    let most : length z + (length a + (length g + (length u + length v))) ≤ 17 =
    omega (arith, resized-length b.row.size e.row.size, changed-length 4 b.row.slots e.row.slots, changed-length 2 b.row.registers e.row.registers, changed-length 1 b.row.untouched e.row.untouched, resaved-length b.row.saved e.row.saved) in
    (omega arith, omega arith)

-- the row that the first is coded against is lawful
pub origin_lawful : Lawful origin.row
origin_lawful = record {
  sized = record { some = omega arith; most = omega arith };
  slotted = λ i b. absurd (bit_of_zero i b);
  saves = record {
    eight = refl;
    inside = λ k p. absurd (none k p);
    apart = λ j k l p. absurd (none k p);
    plain = λ k p. absurd (none k p);
  };
  masked = record { sixteen = omega arith; eight = omega arith; disjoint = λ k p. absurd (bit_of_zero (8 + k) p) };
}
  where
    none : (k : ℕ) → 0 < saved_slot origin.row k → ⊥
    none k p = ⊎_elim
        (λ (l : k < 8). omega (arith, get_or-replicate {A = ℕ} 8 k 0 0 l))
        (λ (l : 8 ≤ k). omega (arith, get_or_past {X = ℕ} (replicate 8 0) k 0 l))
        (cases_lt k 8)

-- the codes of no row, of a row with more behind it, of one row, and of rows that are put together
pub codes_none : (b : Entry) → codes b [] ≡ []
unfolding codes
codes_none b = refl

pub codes-cons : (b e : Entry) (es : List Entry) → codes b (e ∷ es) ≡ code b e ++ codes e es
unfolding codes
codes-cons b e es = refl

pub codes_one : (b e : Entry) → codes b (e ∷ []) ≡ code b e
unfolding codes
codes_one b e = append-nil (code b e)

pub codes-append : (b : Entry) (xs ys : List Entry) → codes b (xs ++ ys) ≡ codes b xs ++ codes (last_of b xs) ys
unfolding codes
codes-append b [] ys = refl
codes-append b (x ∷ xs) ys = ap (λ l. code b x ++ l) (codes-append x xs ys) ∙ sym (append_assoc (code b x) (codes x xs) (codes (last_of x xs) ys))

-- where there are no codes, there is no row
pub no_codes : (b : Entry) (es : List Entry) → codes b es ≡ [] → es ≡ []
unfolding codes
no_codes b [] h = refl
no_codes b (e ∷ es) h = absurd (omega (arith, ap length h, length-append (code b e) (codes e es), code-length b e))

-- rows take 2 to 20 bytes each
pub codes-length : (b : Entry) (es : List Entry) → (2 * length es ≤ length (codes b es)) × (length (codes b es) ≤ 20 * length es)
unfolding codes
codes-length b [] = (omega arith, omega arith)
codes-length b (e ∷ es) =
    let one = code-length b e in
    let more = codes-length e es in
    let both = length-append (code b e) (codes e es) in
    (omega arith, omega arith)

-- the bytes tell the rows
pub codes_unique : (b : Entry) (es es' : List Entry) → Lawful b.row → Chain b es → Chain b es' → codes b es ≡ codes b es' → es ≡ es'
unfolding codes
codes_unique b [] [] l c c' h = refl
codes_unique b [] (e ∷ es) l c c' h = let n = code-length b e in absurd (omega (arith, ap length h, length-append (code b e) (codes e es)))
codes_unique b (e ∷ es) [] l c c' h = let n = code-length b e in absurd (omega (arith, ap length h, length-append (code b e) (codes e es)))
codes_unique b (e ∷ es) (e' ∷ es') l c c' h =
    let same = code_unique b e e' (codes e es) (codes e' es') l c.0 c'.0 h in
    let first : e ≡ e' = same.0 in
    let rest : codes e es ≡ codes e es' = same.1 ∙ ap (λ x. codes x es') (sym first) in
    let tail : es ≡ es' = codes_unique e es es' c.0.lawful c.1 (subst (λ x. Chain x es') (sym first) c'.1) rest in
    ap (λ x. x ∷ es) first ∙ ap (λ l. e' ∷ l) tail
