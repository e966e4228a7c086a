-- A fresh start: the machine stands for the model with one frame.
use Rattle.std.proofs.Common.{◌≡◌, ℕ, suc, ◌+◌, ◌-◌, ◌*◌, ◌≤◌, List, [], ◌∷◌, ◌++◌, length, get_or, take, drop, replicate, sym, refl, ap, ◌∙◌, subst, ⊎_elim, suc-mul, arith}
use native.Mathlib.Nat.{zero-div}
use Rattle.std.proofs.lemmas.List.{length-append, length-replicate, length-drop, take_at, drop_at, nil_from_length}
use Rattle.frame_map.specs.Maps.{Rows}
use Rattle.scan.specs.Frames.{Frame, size, top}
use Rattle.scan.proofs.StackLaws.{top_none, top-cons}
use Rattle.frames.specs.Tables.{records}
use Rattle.frames.specs.Models.{frames}
use Rattle.frames.specs.Layouts.{layout}
use Rattle.frames.specs.Reasons.{FairStart, start_reasons}
use Rattle.frames.specs.Changes.{started}
use Rattle.frames.specs.Fresh.{Fresh}
use Rattle.frames.specs.Standing.{Stands, Waiting}
use Rattle.frames.specs.Views.{View, view, Accepted}
use Rattle.frames.specs.declared.state.Phase.TheVariants.{Unstarted, Running}
use Rattle.frames.specs.declared.state.State.{State}
use Rattle.frames.proofs.Entering.{laid_at}
use Rattle.frames.proofs.StackLaws.{split_cons}
use Rattle.frames.proofs.ViewLaws.{after_none}

module _ (rows : Rows) (ws : List ℕ) (st : State) (m n : ℕ) (fair : FairStart (length ws) m n) (few : length ws ≤ 8192) (fresh : Fresh Running m n st) where
  first : Frame
  first = record { back = 0; slots = replicate (n - 1) 0 }

  first_words : length (0 ∷ replicate {A = ℕ} (n - 1) 0) ≡ n
  first_words = let l : length (replicate {A = ℕ} (n - 1) 0) ≡ n - 1 = length-replicate (n - 1) 0 in let some = fair.2.0 in omega arith

  first_top : top (frames (started rows (length ws) m n)) ≡ n
  first_top = top-cons (started rows (length ws) m n).current [] ∙ ap (λ k. k + size (started rows (length ws) m n).current) top_none ∙ (let e = first_words in omega arith)

  start_laid : take (top (frames (started rows (length ws) m n))) (laid_at ws 0 0 n) ≡ layout m 0 (frames (started rows (length ws) m n))
  unfolding layout
  start_laid = ap (λ k. take k (laid_at ws 0 0 n)) first_top ∙ take_at (0 ∷ replicate (n - 1) 0) (drop (0 + n) ws) n first_words

  start_length : length (laid_at ws 0 0 n) ≡ length ws
  start_length = length-append (0 ∷ replicate (n - 1) 0) (drop (0 + n) ws) ∙ (let a = first_words in let b = length-drop (0 + n) ws in let room = fair.3 in omega arith)

  pub start_keeps : drop (top (frames (started rows (length ws) m n))) (laid_at ws 0 0 n) ≡ drop (top (frames (started rows (length ws) m n))) ws
  start_keeps =
      ap (λ k. drop k (laid_at ws 0 0 n)) first_top ∙ drop_at (0 ∷ replicate (n - 1) 0) (drop (0 + n) ws) n first_words ∙ ap (λ k. drop k ws) (let a = first_top in let e : 0 + n ≡ top (frames (started rows (length ws) m n)) = omega arith in e)

  -- there is one frame, and none below it
  edges : (xs fs : List Frame) → frames (started rows (length ws) m n) ≡ xs ++ fs → get_or st.edges (length fs) 0 ≡ top fs
  edges xs fs e =
      ⊎_elim
      (λ (all : fs ≡ frames (started rows (length ws) m n)).
      ap (λ q. get_or q (length fs) 0) fresh.edges_are
      ∙ ap (λ k. get_or (0 ∷ n ∷ []) k 0) (ap length all)
      ∙ sym first_top ∙ ap top (sym all))
      (λ (part : (zs : List Frame) × ([] ≡ zs ++ fs)).
      let none : length fs ≡ 0 = (let l = ap length part.1 ∙ length-append part.0 fs in omega arith) in
      ap (λ q. get_or q (length fs) 0) fresh.edges_are
      ∙ ap (λ k. get_or (0 ∷ n ∷ []) k 0) none
      ∙ sym (ap top (nil_from_length fs none) ∙ top_none))
      (split_cons (started rows (length ws) m n).current [] xs fs e)

  pub started_stands : Stands rows (laid_at ws 0 0 n) st (started rows (length ws) m n)
  unfolding Waiting
  started_stands = record {
    placed = record {
      rows_are = refl;
      room_is = start_length;
      few = few;
      spaced = fresh.spacing_is ∙ (let l = fair.0 in omega arith);
      least = fair.0;
      most = fair.1;
      registers_are = fresh.registers_are;
      phased = fresh.phase_is;
      levelled = fresh.level_is;
      low = omega arith;
    };
    lies = record {
      laid = start_laid;
      fits = let t = first_top in let l = start_length in let room = fair.3 in omega arith;
      deep = ap (λ q. length q - 1) fresh.edges_are;
      edged = edges;
    };
    handled = record { handlers_are = fresh.no_handlers; inside = λ i l. absurd (omega arith); ordered = λ i j l k. absurd (omega arith) };
    marked = record {
      many = ap length fresh.no_markers ∙ sym (zero-div m);
      put_by = λ xs fs f k e a l. absurd (let p : suc k * m ≡ k * m + m = suc-mul k m in let four = fair.0 in omega arith);
    };
    recorded = record {
      enough = omega arith;
      numbered = λ k l. let z : length (records st.records) ≡ 0 = ap length fresh.no_records in absurd (omega arith);
      known = λ xs fs g f e l. absurd (omega arith);
    };
    waiting = tt;
  }

pub start_accepted : (v : View) (ws : List ℕ) (ts : State) (m n : ℕ) → v.state.phase ≡ Unstarted → FairStart (length v.words) m n → length v.words ≤ 8192 → ws ≡ laid_at v.words 0 0 n → Fresh Running m n ts →
    Accepted v (view v.rows v.count ws ts) (start_reasons v.state.phase (length v.words) m n) 0 (started v.rows (length v.words) m n)
start_accepted v ws ts m n new fair few e fresh = record {
  clear = (λ bad. bad new, (λ unfair. unfair fair, tt));
  stands = subst (λ q. Stands v.rows q ts (started v.rows (length v.words) m n)) (sym e) (started_stands v.rows v.words ts m n fair few fresh);
  counted = sym (after_none v.count);
  keeps = subst (λ q. drop (top (frames (started v.rows (length v.words) m n))) q ≡ drop (top (frames (started v.rows (length v.words) m n))) v.words) (sym e) (start_keeps v.rows v.words ts m n fair few fresh);
}
