use Rattle.std.proofs.Common.{◌≡◌, [], ◌∷◌, ◌++◌, vec_items, sym, refl, ap, ◌∙◌, append-nil, arith}
use Rattle.frame_map.specs.Maps.{Rows, entry_of, entries_below}
use Rattle.frame_map.proofs.MapLaws.{entries_none, entries_more}
use Rattle.frame_map.proofs.map.entries.Goals as goal
use Rattle.frame_map.proofs.map.entries.Goals.{in-Some+in_ok-push, in_default}

pub loop-point-init : goal.loop-point-init
loop-point-init g c = (refl, c.new-found.ensures.items ∙ sym (entries_none (g.M.FrameMap.rows c.args.map.now)), omega (arith, g.met.M.FrameMap.small c.args.map.now))

pub loop-point-preserved : goal.loop-point-preserved
loop-point-preserved g c =
    let rows : Rows = g.M.FrameMap.rows c.args.map.now in
    let told : rows c.loop-point.point ≡ c.lookup.result = ap (λ f. f c.loop-point.point) (sym c.loop-point.invariant.0) ∙ sym c.lookup.ensures.found in (
      c.lookup.ensures.same ∙ c.loop-point.invariant.0,
      elim c.match-lookup.branch [
        | in-Some+in_ok-push w ↦
            ap vec_items w.found-is ∙ w.in_ok-push.ensures.items
            ∙ ap (λ xs. xs ++ record { point = c.loop-point.point; row = w.in-Some.row } ∷ []) c.loop-point.invariant.1
            ∙ ap (λ o. entries_below rows c.loop-point.point ++ entry_of c.loop-point.point o) (sym (told ∙ w.in-Some.is))
            ∙ sym (entries_more rows c.loop-point.point)
        | in_default w ↦
            ap vec_items w.found-is ∙ c.loop-point.invariant.1
            ∙ sym (append-nil (entries_below rows c.loop-point.point))
            ∙ ap (λ o. entries_below rows c.loop-point.point ++ entry_of c.loop-point.point o) (sym (told ∙ w.in_default.is))
            ∙ sym (entries_more rows c.loop-point.point)
      ],
      omega (arith, c.lookup.ensures.counted, c.loop-point.invariant.2),
    )
