-- A word has no bit from 32 on.
use Rattle.std.proofs.Common.{rules}
use Rattle.words.proofs.BitLaws.{bit_below}
use Rattle.words.proofs.has_bit.Goals as goal

pub returns-then-i-ge-BITS : goal.returns-then-i-ge-BITS
returns-then-i-ge-BITS c = bit_below c.args.mask c.args.i 32 (search rules) (search rules)
