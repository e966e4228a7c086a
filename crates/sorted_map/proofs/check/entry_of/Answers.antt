use Rattle.std.proofs.Common.{rules}
use Rattle.sorted_map.specs.Decoding.{entry_in}
use Rattle.sorted_map.proofs.check.entry_of.Goals as goal

pub returns : goal.returns
unfolding entry_in
returns c = search rules
