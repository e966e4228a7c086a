-- What is printed of an image file.
use Rattle.std.specs.Prelude.{◌≡◌, ℕ, List, ◌++◌, string_bytes, codes, String, Result, Ok, Err}
use Rattle.std.specs.declared.alloc.Global.{Global}
use Rattle.delta_map.specs.Faults.{RefusedDelta}
use Rattle.refusal.specs.Texts.{refusal_line}
use Rattle.refusal.specs.declared.Refusal.{Refusal}
use Rattle.sorted_map.specs.File.{RefusedFile}
use Rattle.sorted_map.specs.declared.load.LoadError.{LoadError}
use Rattle.sorted_map.specs.declared.load.LoadError.TheVariants.{Refused}
use Rattle.inspect.specs.Reports.{GoodFile, GoodDelta}
use Rattle.inspect.specs.declared.Report.{Report}
use Rattle.inspect.specs.declared.Report.TheVariants.{Good, Bad}

-- the text of a report
abbrev pub printed : Report → List ℕ
printed (Good text) = string_bytes text
printed (Bad text) = string_bytes text

-- the text is a refusal's line
abbrev pub line_of : Refusal → List ℕ
line_of e = refusal_line e ++ codes "\n"

-- an image is refused, and the text is the line of its refusal
pub record Tells (RefusedBy : Refusal → Type 0) (text : List ℕ) : Type 0 where
  pub reason : Refusal
  pub refused : RefusedBy reason
  pub told : text ≡ line_of reason

-- the file is bad, and the text is the line of its refusal
abbrev pub BadFile : List ℕ → List ℕ → Type 0
BadFile bytes = Tells (RefusedFile bytes)

-- a report shows the rows of a good file, and the refusal of a bad one
abbrev pub Reports : List ℕ → Report → Type 0
Reports bytes (Good text) = GoodFile bytes (string_bytes text)
Reports bytes (Bad text) = BadFile bytes (string_bytes text)

-- the same of delta images
abbrev pub BadDelta : List ℕ → List ℕ → Type 0
BadDelta image = Tells (RefusedDelta image)

abbrev pub DeltaReports : List ℕ → Report → Type 0
DeltaReports image (Good text) = GoodDelta image (string_bytes text)
DeltaReports image (Bad text) = BadDelta image (string_bytes text)

-- a report of these rows, or of why there are none
abbrev pub Reported : Result (String Global) LoadError → Report → Type 0
Reported rows (Good text) = rows ≡ Ok text
Reported rows (Bad text) = (e : Refusal) × (rows ≡ Err (Refused e)) × (string_bytes text ≡ line_of e)
