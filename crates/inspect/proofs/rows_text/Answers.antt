use Rattle.std.proofs.Common.{◌≡◌, List, [], ◌++◌, length, take, codes, decimal, sym, ap, ◌∙◌}
use Rattle.std.specs.List.{flat_map}
use Rattle.std.proofs.lemmas.List.{take_all}
use Rattle.frame_map.specs.Maps.{entries_below}
use Rattle.frame_map.specs.declared.row.Entry.{Entry}
use Rattle.inspect.specs.Reports.{entry_line, text_of_rows}
use Rattle.inspect.proofs.rows_text.Goals as goal

-- what a read past the end would give
abbrev past : Entry
past = record { point = 0; row = record { size = 0; slots = 0; saved = []; registers = 0; untouched = 0 } }

pub returns : goal.returns
unfolding text_of_rows
returns g c =
    let items : List Entry = c.deref-entry-items.result.now in
    let same : items ≡ entries_below (g.M.FrameMap.rows c.args.map.now) 65536 = c.deref-entry-items.ensures.value ∙ c.in_ok-all.ensures.listed in
    let all : take c.loop-entry.entry-index items ≡ items = take_all c.loop-entry.entry-index items c.loop-entry-test.false in
    let many : c.len-count.result ≡ length items = c.len-count.ensures ∙ sym c.deref-entry-items.ensures.len in
    c.loop-entry.invariant
    ∙ ap (λ l. (decimal c.len-count.result ++ codes " rows\n") ++ flat_map entry_line l) all
    ∙ ap (λ n. (decimal n ++ codes " rows\n") ++ flat_map entry_line items) many
    ∙ ap text_of_rows same
