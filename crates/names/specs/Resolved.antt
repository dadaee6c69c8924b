-- What resolving the names of a file answers.
use Rattle.std.specs.Prelude.{◌≡◌, ℕ, List, length, take, Some, None, Ok, Err, Result}
use Rattle.finding.specs.declared.Finding.{Finding}
use Rattle.layout.specs.Readers.{file_of}
use Rattle.layout.specs.declared.fault.FileFault.{FileFault}
use Rattle.rule_file.specs.Verdict.{first_fault}
use Rattle.node_rules.specs.Tables.{nodes_of}
use Rattle.names.specs.Walk.{Nested, Known}
use Rattle.names.specs.declared.Resolved.{Resolved}

-- The file has no fault; its nodes, and the context of every one.
pub record NamesTold (r : Resolved) (file : List ℕ) : Type 0 where
  pub faultless : first_fault file ≡ None
  pub over : file_of r.reader ≡ file
  pub counted : r.count ≡ length (nodes_of file)
  pub nested : Nested (nodes_of file)
  pub room : (length r.nodes ≡ 1024) × (length r.contexts ≡ 1024)
  pub nodes : take r.count r.nodes ≡ nodes_of file
  pub known : Known (nodes_of file) r.contexts r.count

abbrev pub Resolving : Result Resolved (Finding FileFault) → List ℕ → Type 0
Resolving (Ok r) file = NamesTold r file
Resolving (Err fault) file = first_fault file ≡ Some fault
