-- What calls share: phases, tops, refusals that change nothing, and one lookup.
use Rattle.std.proofs.Common.{◌≡◌, ℕ, suc, ◌+◌, ◌-◌, ◌%◌, ◌^◌, ◌<◌, List, [], ◌∷◌, length, get_or, Some, None, Option, Ok, Err, Result, MatchResult, IsErrAnd, sym, refl, ap, ◌∙◌, subst, inl, inr, arith}
use Rattle.frame_map.specs.Maps.{Rows}
use Rattle.frame_map.specs.declared.row.Row.{Row}
use Rattle.refusal.specs.Numbers.{number_of}
use Rattle.refusal.specs.declared.Refusal.{Refusal}
use Rattle.refusal.specs.declared.Refusal.TheVariants.{WrongPhase}
use Rattle.scan.specs.Frames.{size, top}
use Rattle.scan.proofs.StackLaws.{top-cons}
use Rattle.frames.specs.Models.{Stage, running, opened, carried, Model, frames}
use Rattle.frames.specs.Reasons.{Reason, because, First, Clear, NotRunning, Rowless, Misfit}
use Rattle.frames.specs.Standing.{Stands, phase_of, Describes, Unfitting}
use Rattle.frames.specs.Tables.{depth}
use Rattle.frames.specs.Views.{View, view, StandsFor, after, Refused, cost}
use Rattle.frames.specs.declared.state.Phase.TheVariants.{Running}
use Rattle.frames.specs.declared.state.State.{State}

pub after_none : (n : ℕ) → after n 0 ≡ n
unfolding after
after_none n = refl

pub after_one : (n : ℕ) → after n 1 ≡ (n + 1) % 2 ^ 32
unfolding after
after_one n = refl

pub after_more : (n k : ℕ) → after n (suc k) ≡ (after n k + 1) % 2 ^ 32
unfolding after
after_more n k = refl

-- the machine's phase and the model's
stage_running : (g : Stage) → Running ≡ phase_of g → g ≡ running
stage_running running e = refl
stage_running (opened p) e = cc
stage_running (carried p) e = cc

pub runs : (rows : Rows) (ws : List ℕ) (st : State) (s : Model) → Stands rows ws st s → st.phase ≡ Running → NotRunning s → ⊥
runs rows ws st s h e not = not (stage_running s.stage (sym e ∙ h.placed.phased))

pub not_running : (rows : Rows) (ws : List ℕ) (st : State) (s : Model) → Stands rows ws st s → (st.phase ≡ Running → ⊥) → NotRunning s
not_running rows ws st s h n e = n (h.placed.phased ∙ ap phase_of e)

-- where the running frame begins and ends
pub top_is : (rows : Rows) (ws : List ℕ) (st : State) (s : Model) → Stands rows ws st s → get_or st.edges (depth st) 0 ≡ top (frames s)
top_is rows ws st s h = ap (λ k. get_or st.edges k 0) h.lies.deep ∙ h.lies.edged [] (frames s) refl

pub base_is : (rows : Rows) (ws : List ℕ) (st : State) (s : Model) → Stands rows ws st s → get_or st.edges (depth st - 1) 0 ≡ top s.older
base_is rows ws st s h =
    ap (λ k. get_or st.edges k 0) (let e = h.lies.deep in let n : depth st - 1 ≡ length s.older = omega arith in n)
    ∙ h.lies.edged (s.current ∷ []) s.older refl

pub size_is : (rows : Rows) (ws : List ℕ) (st : State) (s : Model) → Stands rows ws st s → get_or st.edges (depth st) 0 - get_or st.edges (depth st - 1) 0 ≡ size s.current
size_is rows ws st s h =
    let t = top_is rows ws st s h in
    let u = base_is rows ws st s h in
    let c = top-cons s.current s.older in
    omega arith

-- slots of the running frame
module _ (rows : Rows) (ws : List ℕ) (st : State) (s : Model) (h : Stands rows ws st s) (i : ℕ) where
  pub slot_at : get_or st.edges (depth st - 1) 0 + i ≡ top s.older + i
  slot_at = ap (λ k. k + i) (base_is rows ws st s h)

  pub slot_in : get_or st.edges (depth st - 1) 0 + i < get_or st.edges (depth st) 0 → i < size s.current
  slot_in l = let t = top_is rows ws st s h in let u = base_is rows ws st s h in let c = top-cons s.current s.older in omega arith

  pub slot_out : i < size s.current → get_or st.edges (depth st - 1) 0 + i < get_or st.edges (depth st) 0
  slot_out l = let t = top_is rows ws st s h in let u = base_is rows ws st s h in let c = top-cons s.current s.older in omega arith

  pub slot_there : i < size s.current → top s.older + i < length ws
  slot_there l = let c = top-cons s.current s.older in let fits = h.lies.fits in omega arith

-- a refusal that costs nothing
pub stays : (v : View) (s : Model) (why : List Reason) (e : Refusal) → StandsFor v s → cost (number_of e) ≡ 0 → First why (number_of e) → Refused v v why s e
stays v s why e h free first = record { first = first; stands = h; counted = sym (ap (λ k. after v.count k) free ∙ after_none v.count); keeps = refl }

-- a refusal that is told to be this one
pub stays_as : (v : View) (s : Model) (why : List Reason) (e d : Refusal) → StandsFor v s → e ≡ d → cost (number_of d) ≡ 0 → First why (number_of d) → Refused v v why s e
stays_as v s why e d h same free first = subst (λ q. Refused v v why s q) (sym same) (stays v s why d h free first)

-- a refusal that is handed on
pub handed : {A : Type 0} (P : A → Type 0) (Q : Refusal → Type 0) (r : Result A Refusal) (e : Refusal) → IsErrAnd r (λ d. d ≡ e) → Q e → MatchResult r P Q
handed P Q (Ok x) e told q = absurd told
handed P Q (Err d) e told q = subst Q (sym told) q

-- the script does not run
pub stopped : {A : Type 0} (P : A → Type 0) (r : Result A Refusal) (v : View) (s : Model) (rest : List Reason) (e : Refusal) → StandsFor v s → IsErrAnd r (λ d. d ≡ e) → (e ≡ WrongPhase) × (v.state.phase ≡ Running → ⊥) →
    MatchResult r P (λ d. Refused v v (because 1 (NotRunning s) ∷ rest) s d)
stopped P r v s rest e h told why =
    handed P (λ d. Refused v v (because 1 (NotRunning s) ∷ rest) s d) r e told
    (stays_as v s (because 1 (NotRunning s) ∷ rest) e WrongPhase h why.0 refl (inl (refl, not_running v.rows v.words v.state s h why.1)))

-- a refusal that has cost a lookup
pub stays_asked : (v : View) (rows : Rows) (count : ℕ) (s : Model) (why : List Reason) (e : Refusal) → StandsFor v s → rows ≡ v.rows → count ≡ (v.count + 1) % 2 ^ 32 → cost (number_of e) ≡ 1 → First why (number_of e) →
    Refused v (view rows count v.words v.state) why s e
stays_asked v rows count s why e h same counted dear first = record {
  first = first;
  stands = subst (λ q. Stands q v.words v.state s) (sym same) h;
  counted = counted ∙ sym (ap (λ k. after v.count k) dear ∙ after_one v.count);
  keeps = refl;
}

-- the reasons for which a row does not fit
abbrev pub row_reasons : Option Row → ℕ → List Reason
row_reasons o n = because 8 (Rowless o) ∷ because 9 (Misfit o n) ∷ []

misfits : (o : Option Row) (n : ℕ) (e : Refusal) → Unfitting o n e → First (row_reasons o n) (number_of e)
misfits None n e h = inl (ap number_of h, tt)
misfits (Some r) n e h = inr (λ z. z, inl (ap number_of h.0, h.1))

misfit_costs : (o : Option Row) (n : ℕ) (e : Refusal) → Unfitting o n e → cost (number_of e) ≡ 1
misfit_costs None n e h = ap (λ q. cost (number_of q)) h
misfit_costs (Some r) n e h = ap (λ q. cost (number_of q)) h.0

fits_clear : (o : Option Row) (row : Row) (n : ℕ) → o ≡ Some row → row.size ≡ n → Clear (row_reasons o n)
fits_clear None row n e z = cc
fits_clear (Some r) row n e z = let same : r ≡ row = cc in (λ x. x, (λ bad. bad (ap (λ q. q.size) same ∙ z), tt))

fits_describes : (o : Option Row) (row : Row) (n : ℕ) → o ≡ Some row → row.size ≡ n → Describes o n
fits_describes o row n e z = subst (λ q. Describes q n) (sym e) z

-- the row of the running frame's point: by the machine's rows and its number for the size, for the model's
module _ (rows : Rows) (ws : List ℕ) (st : State) (s : Model) (p n : ℕ) (h : Stands rows ws st s) (sized : n ≡ size s.current) where
  pub unfit : (e : Refusal) → Unfitting (rows p) n e → First (row_reasons (s.rows p) (size s.current)) (number_of e) × (cost (number_of e) ≡ 1)
  unfit e u =
      let there : Unfitting (s.rows p) (size s.current) e = subst (λ k. Unfitting (s.rows p) k e) sized (subst (λ q. Unfitting (q p) n e) h.placed.rows_are u) in
      (misfits (s.rows p) (size s.current) e there, misfit_costs (s.rows p) (size s.current) e there)

  pub fit_clear : (row : Row) → rows p ≡ Some row → row.size ≡ n → Clear (row_reasons (s.rows p) (size s.current))
  fit_clear row e z = fits_clear (s.rows p) row (size s.current) (ap (λ q. q p) (sym h.placed.rows_are) ∙ e) (z ∙ sized)

  pub fit_describes : (row : Row) → rows p ≡ Some row → row.size ≡ n → Describes (rows p) (size s.current)
  fit_describes row e z = fits_describes (rows p) row (size s.current) e (z ∙ sized)
