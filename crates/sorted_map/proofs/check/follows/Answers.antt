use Rattle.std.proofs.Common.{◌≡◌, ℕ, ◌/◌, ◌%◌, ◌^◌, ◌<◌, List, get_or, sym, subst, rules}
use Rattle.words.proofs.TestLaws.{when_same}
use Rattle.frame_map.specs.Rows.{Lawful}
use Rattle.sorted_map.specs.Checking.{Follows, five}
use Rattle.sorted_map.specs.Decoding.{entry_in}
use Rattle.sorted_map.specs.Layout.{sorted_row}
use Rattle.sorted_map.proofs.LayoutLaws.{redone}
use Rattle.sorted_map.proofs.check.follows.Goals as goal

-- where the bits without a meaning are 0, what is read is laid out as it stands
laid : (w : List ℕ) → get_or w 3 0 < 2 ^ 32 → get_or w 4 0 < 2 ^ 32 → get_or w 0 0 / 256 % 256 ≡ 0 → get_or w 2 0 < 2 ^ 24 → sorted_row (entry_in w 0) ≡ five w 0
unfolding entry_in
laid w = redone (get_or w 0 0) (get_or w 1 0) (get_or w 2 0) (get_or w 3 0) (get_or w 4 0)

pub returns-then-entry-last : goal.returns-then-entry-last
returns-then-entry-last c =
    when_same c.is_lawful.result (Lawful c.entry_of-entry.result.row) (Follows c.args.words.now 0 c.args.last)
    (λ l. record {
      lawful = subst (λ e. Lawful e.row) c.entry_of-entry.ensures l;
      above = subst (λ e. c.args.last < e.point) c.entry_of-entry.ensures c.if-entry-last.true;
      clean = laid c.args.words.now (search rules) (search rules) c.if-words-ne0.false c.if-words.false;
    })
    (λ f. subst (λ e. Lawful e.row) (sym c.entry_of-entry.ensures) f.lawful)
    c.is_lawful.ensures
