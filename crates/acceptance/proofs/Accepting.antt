-- Every file that is accepted is a checked rule.
use Rattle.std.proofs.Common.{◌≡◌, ℕ, List, length, None}
use Rattle.layout.specs.Items as items
use Rattle.rule_file.specs.Verdict.{first_fault}
use Rattle.rule_laws.proofs.Tabling.{tables_shaped}
use Rattle.node_rules.specs.Rules.{first_violation}
use Rattle.node_rules.specs.Tables.{table_of}
use Rattle.semantics.specs.Rule.{rule_of}
use Rattle.acceptance.specs.Acceptance.{AcceptedChecked}
use Rattle.acceptance.proofs.Kin.{Accepted}
use Rattle.acceptance.proofs.Whole.{checked}

accepted : (file : List ℕ) → first_fault file ≡ None → first_violation (table_of file) ≡ None → Accepted (rule_of file)
unfolding table_of
accepted file f v = record { names = length (items.names file); strings = length (items.strings file); shaped = tables_shaped file f; none = v }

pub accepted_checked : AcceptedChecked
unfolding table_of
accepted_checked file f v = checked (rule_of file) (accepted file f v)
