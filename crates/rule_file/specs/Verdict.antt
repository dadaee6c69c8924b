-- What examining a file answers.
use Rattle.std.specs.Prelude.{◌≡◌, ℕ, List, ◌++◌, Some, None, Ok, Err, Option, Result}
use Rattle.finding.specs.Checks.{passes_unless}
use Rattle.finding.specs.declared.Finding.{Finding}
use Rattle.layout.specs.Faults.{first_among, head_causes, text_causes, node_causes}
use Rattle.layout.specs.Readers.{file_of}
use Rattle.layout.specs.declared.fault.FileFault.{FileFault}
use Rattle.layout.specs.declared.reader.Reader.{Reader}
use Rattle.rule_file.specs.WellFormed.{WellFormed}

-- The twelve causes in the order of their numbers.
abbrev pub causes : List FileFault
causes = head_causes ++ (text_causes ++ node_causes)

-- The first fault of a file: of the first cause that applies, the lowest place.
unfoldable pub first_fault : List ℕ → Option (Finding FileFault)
first_fault file = first_among causes file

-- The file was taken in: it has no fault, the reader is over that very file, and all that follows is so.
pub record Taken (reader : Reader) (file : List ℕ) : Type 0 where
  pub faultless : first_fault file ≡ None
  pub over : file_of reader ≡ file
  pub sound : WellFormed file

-- A file is taken in, or refused at its first fault.
abbrev pub Examined : Result Reader (Finding FileFault) → List ℕ → Type 0
Examined (Ok reader) file = Taken reader file
Examined (Err fault) file = first_fault file ≡ Some fault

-- A file passes, and what follows is so, or fails with its first fault.
pub record Judged (verdict : Result Unit (Finding FileFault)) (file : List ℕ) : Type 0 where
  pub first : verdict ≡ passes_unless (first_fault file)
  pub sound : verdict ≡ Ok tt → WellFormed file
