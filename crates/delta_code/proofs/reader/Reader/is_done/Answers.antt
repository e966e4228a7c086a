use Rattle.std.proofs.Common.{◌≡◌, leb, [], length, sym, ap, ◌∙◌, arith}
use Rattle.std.proofs.lemmas.List.{drop_all, length-drop}
use Rattle.std.proofs.lemmas.Bool.{leb-true, le-leb}
use Rattle.words.proofs.TestLaws.{when_decided}
use Rattle.delta_code.specs.Reading.{rest}
use Rattle.delta_code.proofs.reader.Reader.is_done.Goals as goal

pub returns : goal.returns
returns c =
    let bytes = c.args.self.now.image.now in
    let at = c.args.self.now.at in
    when_decided (leb (length bytes) at) (rest c.args.self.now ≡ [])
    (λ e. drop_all at bytes (leb-true (length bytes) at e))
    (λ z. le-leb (length bytes) at (omega (arith, sym (length-drop at bytes) ∙ ap length z)))
