-- What checking a file answers.
use Rattle.std.specs.Prelude.{◌≡◌, ℕ, ◌<◌, List, length, Some, None, Ok, Err, Result}
use Rattle.finding.specs.declared.Finding.{Finding}
use Rattle.layout.specs.Readers.{file_of}
use Rattle.rule_file.specs.Verdict.{first_fault}
use Rattle.node_rules.specs.Tables.{table_of, nodes_of, node}
use Rattle.node_rules.specs.Scopes.{meant, place, body}
use Rattle.node_rules.specs.Rules.{type_of, first_violation}
use Rattle.node_rules.specs.declared.violation.Violation.{Violation}
use Rattle.rule.specs.Told.{node_in, meant_in, type_in, place_in, body_in}
use Rattle.checker.specs.declared.Refusal.{Refusal}
use Rattle.checker.specs.declared.Refusal.TheVariants as refusal
use Rattle.rule.specs.declared.Rule.{Rule}

-- What a rule tells of node i is so.
pub record Tells (rule : Rule) (file : List ℕ) (i : ℕ) : Type 0 where
  pub node : node_in rule i ≡ Some (node (nodes_of file) i)
  pub meant : meant_in rule i ≡ meant (nodes_of file) i
  pub type : type_in rule i ≡ type_of (table_of file) i
  pub place : place_in rule i ≡ place (nodes_of file) i
  pub body : body_in rule i ≡ body (nodes_of file) i

-- The file is accepted: it has no fault and no violation, and the rule tells of every node what is so.
pub record Accepted (rule : Rule) (file : List ℕ) : Type 0 where
  pub faultless : first_fault file ≡ None
  pub lawful : first_violation (table_of file) ≡ None
  pub over : file_of rule.reader ≡ file
  pub counted : rule.count ≡ length (nodes_of file)
  pub told : (i : ℕ) → i < length (nodes_of file) → Tells rule file i

-- A file without a fault is accepted, or refused at its first violation.
abbrev pub Judging : Result Rule (Finding Violation) → List ℕ → Type 0
Judging (Ok rule) file = Accepted rule file
Judging (Err violation) file = first_violation (table_of file) ≡ Some violation

-- A file is refused at its first fault; where it has none, at its first violation; else it is accepted.
pub record Violated (file : List ℕ) (violation : Finding Violation) : Type 0 where
  pub faultless : first_fault file ≡ None
  pub first : first_violation (table_of file) ≡ Some violation

abbrev pub Checking : Result Rule Refusal → List ℕ → Type 0
Checking (Ok rule) file = Accepted rule file
Checking (Err (refusal.Fault fault)) file = first_fault file ≡ Some fault
Checking (Err (refusal.Violation violation)) file = Violated file violation
