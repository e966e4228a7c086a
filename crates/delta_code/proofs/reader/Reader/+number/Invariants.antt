use Rattle.delta_code.proofs.reader.Reader.+number.Given as goal

abbrev pub decreases-number : goal.decreases-number
decreases-number l = l.bytes
