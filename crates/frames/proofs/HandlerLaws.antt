-- Laws of handlers: the newest tells whether the running frame has one, and handlers of older frames come first.
use Rattle.std.proofs.Common.{◌≡◌, ℕ, Bool, true, false, suc, ◌+◌, ◌-◌, ◌<◌, ◌≤◌, List, [], ◌∷◌, ◌++◌, length, get_or, take, sym, refl, ap, ◌∙◌, subst, ⊎_elim, arith}
use Rattle.std.proofs.lemmas.List.{length_push, length-take-le, get_or_at, get_or-take, get_or_push, get_or_append_left, take_at, take_all}
use Rattle.std.proofs.lemmas.Bool.{cases_eq, cases_lt}
use Rattle.frames.specs.Tables.{records, Newest}
use Rattle.frames.specs.Models.{Model, newest}
use Rattle.frames.specs.Reasons.{HandlerOf}
use Rattle.frames.specs.Changes.{top_handler, other_handlers}
use Rattle.frames.specs.Falling.{NewestOf}
use Rattle.frames.specs.Standing.{Handled, no_handler}
use Rattle.frames.specs.declared.records.Handler.{Handler}
use Rattle.frames.specs.declared.state.State.{State}
use Rattle.frames.proofs.TableLaws.{newest_of}

-- the newest of the model's handlers
pub newest_is : (hs ys : List Handler) (x : Handler) → Newest hs x ys → (get_or hs (length hs - 1) no_handler ≡ x) × (take (length hs - 1) hs ≡ ys) × (length hs ≡ suc (length ys))
newest_is hs ys x n =
    let long : length hs ≡ length ys + 1 = ap length n ∙ length_push ys x in
    let at : length hs - 1 ≡ length ys = omega arith in (
      ap (λ k. get_or hs k no_handler) at ∙ ap (λ q. get_or q (length ys) no_handler) n ∙ get_or_at ys x [] no_handler (length ys) refl,
      ap (λ k. take k hs) at ∙ ap (λ q. take (length ys) q) n ∙ take_at ys (x ∷ []) (length ys) refl,
      omega arith,
    )

pub last_split : (hs : List Handler) → 0 < length hs → Newest hs (get_or hs (length hs - 1) no_handler) (take (length hs - 1) hs)
last_split hs some = subst (λ q. q ≡ take (length hs - 1) hs ++ get_or hs (length hs - 1) no_handler ∷ []) (take_all (length hs) hs (omega arith)) (newest_of hs (length hs) no_handler some (omega arith))

-- the newest handler is the running frame's exactly if some handler is
module _ (st : State) (s : Model) (i : ℕ) (h : Handled st s) (at : i ≡ newest s) where
  told : (b : Bool) → NewestOf (records st.handlers) i b → NewestOf s.handlers (newest s) b
  told b n = subst (λ q. NewestOf q (newest s) b) h.handlers_are (subst (λ k. NewestOf (records st.handlers) k b) at n)

  pub handler_there : NewestOf (records st.handlers) i true → HandlerOf s (newest s)
  handler_there n =
      let there = told true n in
      let is = newest_is s.handlers there.0 there.1 there.2 in
      let long = is.2 in
      (length s.handlers - 1, omega arith, ap (λ r. r.frame) is.0 ∙ there.3)

  pub handler_none : NewestOf (records st.handlers) i false → HandlerOf s (newest s) → ⊥
  handler_none n (k, l, e) =
      let last = length s.handlers - 1 in
      let under = h.inside last (omega arith) in
      let over : (get_or s.handlers k no_handler).frame ≤ (get_or s.handlers last no_handler).frame = ⊎_elim (λ (same : k ≡ last). subst (λ q. (get_or s.handlers k no_handler).frame ≤ (get_or s.handlers q no_handler).frame) same (omega arith)) (λ (other : k ≡ last → ⊥). h.ordered k last (omega arith) (omega arith)) (cases_eq k last) in
      told false n (take last s.handlers) (get_or s.handlers last no_handler) (last_split s.handlers (omega arith)) (omega arith)

pub no_handlers : (s : Model) (i : ℕ) → s.handlers ≡ [] → HandlerOf s i → ⊥
no_handlers s i none (k, l, e) = let z : length s.handlers ≡ 0 = ap length none in omega arith

-- no handler is of the running frame, so all are of frames below it
pub handlers_below : (st : State) (s : Model) → Handled st s → (HandlerOf s (newest s) → ⊥) → (i : ℕ) → i < length s.handlers → (get_or s.handlers i no_handler).frame ≤ newest s - 1
handlers_below st s h none i l =
    let under = h.inside i l in
    ⊎_elim (λ (same : (get_or s.handlers i no_handler).frame ≡ newest s). absurd (none (i, l, same))) (λ (other : (get_or s.handlers i no_handler).frame ≡ newest s → ⊥). omega arith) (cases_eq (get_or s.handlers i no_handler).frame (newest s))

-- all handlers but the newest
module _ (st : State) (s : Model) (h : Handled st s) where
  count_others : length (other_handlers s) ≡ length s.handlers - 1
  count_others = length-take-le (length s.handlers - 1) s.handlers (omega arith)

  other_is : (i : ℕ) → i < length (other_handlers s) → get_or (other_handlers s) i no_handler ≡ get_or s.handlers i no_handler
  other_is i l = get_or-take (length s.handlers - 1) s.handlers i no_handler (let n = count_others in omega arith)

  pub others_below : (i : ℕ) → i < length (other_handlers s) → (get_or (other_handlers s) i no_handler).frame ≤ (top_handler s).frame
  others_below i l = subst (λ r. r.frame ≤ (top_handler s).frame) (sym (other_is i l)) (let n = count_others in h.ordered i (length s.handlers - 1) (omega arith) (omega arith))

  pub others_inside : (i : ℕ) → i < length (other_handlers s) → (get_or (other_handlers s) i no_handler).frame ≤ newest s
  others_inside i l = subst (λ r. r.frame ≤ newest s) (sym (other_is i l)) (let n = count_others in h.inside i (omega arith))

  pub others_ordered : (i j : ℕ) → i < j → j < length (other_handlers s) → (get_or (other_handlers s) i no_handler).frame ≤ (get_or (other_handlers s) j no_handler).frame
  others_ordered i j l m =
      subst (λ r. r.frame ≤ (get_or (other_handlers s) j no_handler).frame) (sym (other_is i (omega arith)))
      (subst (λ r. (get_or s.handlers i no_handler).frame ≤ r.frame) (sym (other_is j m)) (let n = count_others in h.ordered i j l (omega arith)))

  -- a handler of the running frame more
  pub more_inside : (x : Handler) → x.frame ≡ newest s → (i : ℕ) → i < length (s.handlers ++ x ∷ []) → (get_or (s.handlers ++ x ∷ []) i no_handler).frame ≤ newest s
  more_inside x e i l =
      let n : length (s.handlers ++ x ∷ []) ≡ length s.handlers + 1 = length_push s.handlers x in
      ⊎_elim
      (λ (old : i < length s.handlers). subst (λ r. r.frame ≤ newest s) (sym (get_or_append_left s.handlers (x ∷ []) no_handler i old)) (h.inside i old))
      (λ (new : length s.handlers ≤ i). subst (λ r. r.frame ≤ newest s) (sym (get_or_push s.handlers x no_handler i (omega arith))) (omega arith))
      (cases_lt i (length s.handlers))

  pub more_ordered : (x : Handler) → x.frame ≡ newest s → (i j : ℕ) → i < j → j < length (s.handlers ++ x ∷ []) → (get_or (s.handlers ++ x ∷ []) i no_handler).frame ≤ (get_or (s.handlers ++ x ∷ []) j no_handler).frame
  more_ordered x e i j l m =
      let n : length (s.handlers ++ x ∷ []) ≡ length s.handlers + 1 = length_push s.handlers x in
      let at_i : get_or (s.handlers ++ x ∷ []) i no_handler ≡ get_or s.handlers i no_handler = get_or_append_left s.handlers (x ∷ []) no_handler i (omega arith) in
      ⊎_elim
      (λ (old : j < length s.handlers).
      subst (λ r. r.frame ≤ (get_or (s.handlers ++ x ∷ []) j no_handler).frame) (sym at_i)
      (subst (λ r. (get_or s.handlers i no_handler).frame ≤ r.frame) (sym (get_or_append_left s.handlers (x ∷ []) no_handler j old)) (h.ordered i j l old)))
      (λ (new : length s.handlers ≤ j).
      subst (λ r. r.frame ≤ (get_or (s.handlers ++ x ∷ []) j no_handler).frame) (sym at_i)
      (subst (λ r. (get_or s.handlers i no_handler).frame ≤ r.frame) (sym (get_or_push s.handlers x no_handler j (omega arith))) (let under = h.inside i (omega arith) in omega arith)))
      (cases_lt j (length s.handlers))
