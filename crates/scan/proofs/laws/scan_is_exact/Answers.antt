use Rattle.std.proofs.Common.{refl}
use Rattle.scan.specs.Frames.{top}
use Rattle.scan.specs.Laws.{Example}
use Rattle.scan.specs.Masks.{codes, held, root_codes, saved_mask, stack_codes}
use Rattle.scan.proofs.RootLaws.{only_root_list, root_codes_list}
use Rattle.scan.proofs.laws.scan_is_exact.Goals as goal

example_holds : Example
unfolding top codes held root_codes saved_mask stack_codes
example_holds a b c d e = (refl, refl)

pub returns : goal.returns
returns c = record { exact = root_codes_list; unique = only_root_list; example = example_holds }
