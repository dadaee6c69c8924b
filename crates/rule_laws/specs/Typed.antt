-- What acceptance gives of types: every expression has one, but for a call of a void method that is a statement.
use Rattle.std.specs.Prelude.{◌≡◌, ℕ, ◌<◌, true, ◌⊎◌, length, None}
use Rattle.nodes.specs.Kinds.{between}
use Rattle.node_rules.specs.Tables.{Table, kind_at}
use Rattle.node_rules.specs.Scopes.{above, meant}
use Rattle.node_rules.specs.Types.{has_type}
use Rattle.node_rules.specs.Rules.{names_void, declared, type_of, first_violation}
use Rattle.rule_laws.specs.Shaped.{Shaped}

-- Node i is a call of a void method, and a call statement's.
pub record VoidCall (t : Table) (i : ℕ) : Type 0 where
  pub call : kind_at t.nodes i ≡ 22
  pub void : names_void (declared t.nodes (meant t.nodes i)) ≡ true
  pub statement : kind_at t.nodes (above t.nodes i) ≡ 10

-- Where there is no violation, every expression has a type, but for a call of a void method in a call statement.
abbrev pub AcceptedTyped : Type 0
AcceptedTyped =
    (t : Table) (names strings : ℕ)
    → Shaped t.nodes names strings
    → first_violation t ≡ None
    → (i : ℕ)
    → i < length t.nodes
    → between 17 24 (kind_at t.nodes i) ≡ true
    → (has_type (type_of t i) ≡ true) ⊎ VoidCall t i
