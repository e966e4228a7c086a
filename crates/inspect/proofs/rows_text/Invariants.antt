use Rattle.std.proofs.Common.{◌≡◌, ◌++◌, take, string_bytes, codes, decimal}
use Rattle.std.specs.List.{flat_map}
use Rattle.inspect.specs.Reports.{entry_line}
use Rattle.inspect.proofs.rows_text.Given as goal

-- the lines so far
abbrev pub invariant-loop-entry : goal.invariant-loop-entry
invariant-loop-entry g l = string_bytes l.text ≡ (decimal l.count ++ codes " rows\n") ++ flat_map entry_line (take l.entry-index l.entry-items)
