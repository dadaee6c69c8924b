-- What acceptance of a rule gives for running it.
--
-- A file without a fault and without a violation is a rule of which `Checked` holds, with the types that the rules of the language give
-- its nodes: every node has the children that its kind asks for, of types that fit; every name means a declaration in force; and the
-- cells of every variable stand where the call that runs will have them.
use Rattle.std.specs.Prelude.{◌≡◌, ℕ, List, None}
use Rattle.rule_file.specs.Verdict.{first_fault}
use Rattle.node_rules.specs.Rules.{first_violation, type_of}
use Rattle.node_rules.specs.Tables.{table_of}
use Rattle.semantics.specs.Rule.{rule_of}
use Rattle.soundness.specs.Checked.{Checked}

abbrev pub AcceptedChecked : Type 0
AcceptedChecked =
    (file : List ℕ)
    → first_fault file ≡ None
    → first_violation (table_of file) ≡ None
    → Checked (rule_of file) (type_of (table_of file))
