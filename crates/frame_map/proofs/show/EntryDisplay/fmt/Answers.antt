use Rattle.std.proofs.Common.{rules, ℕ, List, ◌++◌, codes, subst}
use Rattle.std.specs.Fmt.{IsPlainFormatter, HasWritten, decimal}
use Rattle.std.specs.Result.{IsOk}
use Rattle.frame_map.specs.Texts.{saved_text}
use Rattle.frame_map.proofs.HexLaws.{hex, masks_written}
use Rattle.frame_map.proofs.show.EntryDisplay.fmt.Goals as goal

pub returns-clause-writes : goal.returns-clause-writes
returns-clause-writes g c =
    let row = c.args.self.now.row in
    let tail : List ℕ = codes " saved" ++ saved_text row.saved in
    let text : List ℕ = codes "point " ++ (decimal c.args.self.now.point ++ (codes " size " ++ (decimal row.size ++ (codes " slots 0x" ++ (hex 8 row.slots ++ (codes " registers 0x" ++ (hex 4 row.registers ++ (codes " untouched 0x" ++ (hex 2 row.untouched ++ tail))))))))) in
    let written : IsPlainFormatter c.args.f.now → IsOk c.write.result → HasWritten g.W.Write.write_str_gives c.args.f.now text c.write.new.self = search rules in
    λ plain ok.
    subst (λ t. HasWritten g.W.Write.write_str_gives c.args.f.now (codes "point " ++ (decimal c.args.self.now.point ++ (codes " size " ++ (decimal row.size ++ (codes " " ++ t))))) c.write.new.self)
    (masks_written row.slots row.registers row.untouched tail (search rules) (search rules) (search rules))
    (written plain ok)
