-- What is so of the table of a file without a fault: the facts of every node that a checker builds on.
use Rattle.std.specs.Prelude.{◌≡◌, ℕ, ◌<◌, ◌≤◌, true, cond, List, map, length, None, ◌==◌, nat_lt}
use Rattle.nodes.specs.Kinds.{between}
use Rattle.nodes.specs.Fields.{fields, value_fits}
use Rattle.nodes.specs.Shapes.{shape, Arranged}
use Rattle.nodes.specs.Tree.{children}
use Rattle.tree.specs.Spans.{Spanned, Shallow, Family}
use Rattle.rule_file.specs.Verdict.{first_fault}
use Rattle.rules.specs.Tables.{Table, table_of, node, kind_at, end}

-- Node i: its tag, name and value are as its kind allows, and its children are arranged in the slots of its kind.
pub record FittingNode (t : Table) (i : ℕ) : Type 0 where
  pub tag : between (fields (node t i).kind).first (fields (node t i).kind).last (node t i).tag ≡ true
  pub name : cond (fields (node t i).kind).named (nat_lt (node t i).name (length t.names)) ((node t i).name == 0) ≡ true
  pub value : value_fits (fields (node t i).kind).value (node t i).tag (length t.strings) (node t i).value ≡ true
  pub children_arranged : Arranged (shape (node t i).kind) (map (kind_at t) (children (end t) i))

pub record Shaped (t : Table) : Type 0 where
  pub few : (1 ≤ length t.nodes) × (length t.nodes ≤ 1024)
  pub program : kind_at t 0 ≡ 1
  pub nodes_fit : (i : ℕ) → i < length t.nodes → FittingNode t i
  pub spans : Spanned (end t) (length t.nodes)
  pub shallow : Shallow (end t) (length t.nodes)
  pub families : Family (end t) (length t.nodes)

-- The table of every file without a fault is shaped.
abbrev pub TablesShaped : Type 0
TablesShaped = (file : List ℕ) → first_fault file ≡ None → Shaped (table_of file)
