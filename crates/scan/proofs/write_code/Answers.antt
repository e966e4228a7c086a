use Rattle.std.proofs.Common.{[], ◌∷◌, sym, arith, rules}
use Rattle.std.proofs.lemmas.Bool.{cond-true}
use Rattle.scan.proofs.WritingLaws.{wrote_as, wrote_one}
use Rattle.scan.proofs.write_code.Goals as goal

pub returns : goal.returns
returns c = wrote_as (sym (cond-true c.args.wanted (c.args.code ∷ []) [] (search rules))) (wrote_one c.args.code c.args.at c.args.out.now (omega arith))
