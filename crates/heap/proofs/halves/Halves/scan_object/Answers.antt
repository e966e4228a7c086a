use Rattle.std.proofs.Common.{◌≡◌, ℕ, ◌+◌, ◌-◌, ◌<◌, ◌≤◌, List, length, get_or, vec_items, sym, refl, ap, ◌∙◌, subst, arith}
use Rattle.std.proofs.lemmas.List.{get_or_read}
use Rattle.heap_model.specs.Objects.{Space, refs_in, refs, size_in, header, Pointer}
use Rattle.heap_model.specs.Moving.{Scanning, Fielding, with_word, noted}
use Rattle.heap_model.specs.Steps.{Forwarded, Keeps}
use Rattle.heap_model.proofs.Scans.{scan_head, scan_inside, field_inside, field_good, fielding_none, fielding_more, fielding_all, noted_grows, renamed_noted}
use Rattle.heap.specs.Buffers.{moving}
use Rattle.heap.specs.declared.halves.Halves.{Halves}
use Rattle.heap.proofs.halves.Halves.scan_object.Goals as goal

-- the header that is read is the k-th object's
head : (h : Halves) (s : Space) (roots : List ℕ) (scan : ℕ) (ps : List ℕ) (k x : ℕ) → Scanning s roots (moving h) scan ps k → k < length ps → x ≡ get_or (vec_items h.idle) scan x → x ≡ header s (get_or ps k 0)
head h s roots scan ps k x c l e =
    get_or_read (vec_items h.idle) scan x (omega (arith, scan_inside s roots (moving h) scan ps k c l)) e 0 ∙ scan_head s roots (moving h) scan ps k c l

-- what a turn of the loop knows: the word at `at` is a pointer field of the k-th object, the one with number at - (scan + 1)
record Turn (h : Halves) (s : Space) (scan at x k : ℕ) (qs : List ℕ) : Type 0 where
  count : at - (scan + 1) < refs s (get_or qs k 0)
  word : x ≡ get_or (vec_items h.idle) at 0
  good : Pointer s x

turn : (h : Halves) (s : Space) (roots : List ℕ) (scan at x y k : ℕ) (ps qs : List ℕ) → Fielding s roots (moving h) at qs k (at - (scan + 1)) → (get_or qs k 0 ≡ get_or ps k 0)
    → y ≡ header s (get_or ps k 0) → scan + 1 ≤ at → at < scan + 1 + refs_in y → x ≡ get_or (vec_items h.idle) at x → Turn h s scan at x k qs
turn h s roots scan at x y k ps qs f q e low high read =
    let e' : y ≡ header s (get_or qs k 0) = e ∙ ap (λ z. header s z) (sym q) in
    let count : at - (scan + 1) < refs s (get_or qs k 0) = subst (λ z. at - (scan + 1) < refs_in z) e' (omega arith) in
    let word : x ≡ get_or (vec_items h.idle) at 0 = get_or_read (vec_items h.idle) at x (field_inside s roots (moving h) at qs k (at - (scan + 1)) f count) read 0 in
    record { count = count; word = word; good = subst (λ z. Pointer s z) (sym word) (field_good s roots (moving h) at qs k (at - (scan + 1)) f count) }

pub loop-at-init : goal.loop-at-init
loop-at-init c s roots ps k h l =
    (ps, subst (λ j. Fielding s roots (moving c.args.self.now) (c.args.scan + 1) ps k j) (omega arith) (fielding_none s roots (moving c.args.self.now) c.args.scan ps k h l), refl, λ w v r. r)

pub forward-requires : goal.forward-requires
forward-requires c =
    let p = c.requires in
    let i = c.loop-at.invariant p.0 p.1 p.2 p.3 p.4 p.5 in
    let e = head c.args.self.now p.0 p.1 c.args.scan p.2 p.3 c.index.result.now p.4 p.5 c.index.ensures in
    let t = turn c.loop-at.self p.0 p.1 c.args.scan c.loop-at.at c.index-word.result.now c.index.result.now p.3 p.2 i.0 i.1 i.2 e (omega arith) (omega arith) c.index-word.ensures in
    (p.0, c.loop-at.at, i.0, i.1.moving, t.good)

pub index_mut-requires : goal.index_mut-requires
index_mut-requires c =
    let p = c.requires in
    let i = c.loop-at.invariant p.0 p.1 p.2 p.3 p.4 p.5 in
    let e = head c.args.self.now p.0 p.1 c.args.scan p.2 p.3 c.index.result.now p.4 p.5 c.index.ensures in
    let t = turn c.loop-at.self p.0 p.1 c.args.scan c.loop-at.at c.index-word.result.now c.index.result.now p.3 p.2 i.0 i.1 i.2 e (omega arith) (omega arith) c.index-word.ensures in
    let f = c.forward.ensures p.0 c.loop-at.at i.0 i.1.moving t.good in
    omega (arith, field_inside p.0 p.1 (moving c.loop-at.self) c.loop-at.at i.0 p.3 _ i.1 t.count, i.1.moving.words_long, f.moving.words_long, c.forward.new.self.idle.ok.0)

pub loop-at-preserved : goal.loop-at-preserved
loop-at-preserved c s roots ps k h l =
    let buf = moving c.loop-at.self in
    let buf' = moving c.forward.new.self in
    let at : ℕ = c.loop-at.at in
    let j : ℕ = at - (c.args.scan + 1) in
    let i : (qs : List ℕ) × Fielding s roots buf at qs k j × (get_or qs k 0 ≡ get_or ps k 0) × Keeps s ps qs = c.loop-at.invariant s roots ps k h l in
    let e = head c.args.self.now s roots c.args.scan ps k c.index.result.now h l c.index.ensures in
    let t = turn c.loop-at.self s roots c.args.scan at c.index-word.result.now c.index.result.now k ps i.0 i.1 i.2 e (omega arith) (omega arith) c.index-word.ensures in
    let w : ℕ = get_or (vec_items c.loop-at.self.idle) at 0 in
    let f : Forwarded s buf' at i.0 w c.forward.result = subst (λ x. Forwarded s buf' at i.0 x c.forward.result) t.word (c.forward.ensures s at i.0 i.1.moving t.good) in (
      noted i.0 w,
      subst (λ x. Fielding s roots (with_word buf' at c.forward.result) (at + 1) (noted i.0 w) k x) (omega arith) (fielding_more s roots buf at i.0 k j i.1 t.count buf' c.forward.result f.moving f.renamed),
      (noted_grows i.0 w).gets k i.1.within ∙ i.2,
      λ x v r. renamed_noted s i.0 w x v (i.3 x v r),
    )

pub returns : goal.returns
returns c s roots ps k h l =
    let buf = moving c.loop-at.self in
    let j : ℕ = c.loop-at.at - (c.args.scan + 1) in
    let i : (qs : List ℕ) × Fielding s roots buf c.loop-at.at qs k j × (get_or qs k 0 ≡ get_or ps k 0) × Keeps s ps qs = c.loop-at.invariant s roots ps k h l in
    let there : c.args.scan < length (vec_items c.args.self.now.idle) = omega (arith, scan_inside s roots (moving c.args.self.now) c.args.scan ps k h l) in
    let e : c.index.result.now ≡ header s (get_or i.0 k 0) = head c.args.self.now s roots c.args.scan ps k c.index.result.now h l c.index.ensures ∙ ap (λ x. header s x) (sym i.2) in
    let e' : c.index.result.now ≡ get_or (vec_items c.args.self.now.idle) c.args.scan 0 = get_or_read (vec_items c.args.self.now.idle) c.args.scan c.index.result.now there c.index.ensures 0 in
    let count : refs s (get_or i.0 k 0) ≤ j = subst (λ x. refs_in x ≤ j) e (omega arith) in (
      i.0,
      fielding_all s roots buf c.loop-at.at i.0 k j i.1 count (c.args.scan + size_in (get_or (vec_items c.args.self.now.idle) c.args.scan 0)) (omega (arith, ap size_in (sym e' ∙ e), i.1.at)),
      i.3,
    )
