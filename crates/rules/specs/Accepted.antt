-- What acceptance gives: at every node every rule is kept, and the fields have their cells.
use Rattle.std.specs.Prelude.{◌≡◌, ℕ, ◌<◌, ◌≤◌, false, length, None}
use Rattle.rules.specs.Tables.{Table}
use Rattle.rules.specs.Rules.{broken, field_cells, first_violation}
use Rattle.node_rules.specs.declared.violation.Violation.{Violation}

pub record Kept (t : Table) : Type 0 where
  pub rules_kept : (i : ℕ) → i < length t.nodes → (v : Violation) → broken t i v ≡ false
  pub cells_suffice : field_cells t ≤ 2048

abbrev pub AcceptedKeeps : Type 0
AcceptedKeeps = (t : Table) → first_violation t ≡ None → Kept t
