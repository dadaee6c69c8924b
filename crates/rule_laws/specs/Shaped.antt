-- What is so of the table of a file without a fault: the facts of every node that a checker builds on.
use Rattle.std.specs.Prelude.{◌≡◌, ℕ, ◌<◌, ◌≤◌, true, cond, List, map, length, None, ◌==◌, nat_lt}
use Rattle.nodes.specs.Kinds.{between}
use Rattle.nodes.specs.Fields.{fields, value_fits}
use Rattle.nodes.specs.Shapes.{shape, Arranged}
use Rattle.tree.specs.Spans.{Spanned, Shallow, Family}
use Rattle.rule_file.specs.Verdict.{first_fault}
use Rattle.nodes.specs.declared.node.Node.{Node}
use Rattle.layout.specs.Items as items
use Rattle.node_rules.specs.Tables.{nodes_of, node, kind_at, end, parts}

-- Node i: its tag, name and value are as its kind allows, and its children are arranged in the slots of its kind.
pub record FittingNode (ns : List Node) (names strings i : ℕ) : Type 0 where
  pub tag : between (fields (node ns i).kind).first (fields (node ns i).kind).last (node ns i).tag ≡ true
  pub name : cond (fields (node ns i).kind).named (nat_lt (node ns i).name names) ((node ns i).name == 0) ≡ true
  pub value : value_fits (fields (node ns i).kind).value (node ns i).tag strings (node ns i).value ≡ true
  pub children_arranged : Arranged (shape (node ns i).kind) (map (kind_at ns) (parts ns i))

-- The nodes of a rule with so many names and strings.
pub record Shaped (ns : List Node) (names strings : ℕ) : Type 0 where
  pub few : (1 ≤ length ns) × (length ns ≤ 1024)
  pub program : kind_at ns 0 ≡ 1
  pub nodes_fit : (i : ℕ) → i < length ns → FittingNode ns names strings i
  pub spans : Spanned (end ns) (length ns)
  pub shallow : Shallow (end ns) (length ns)
  pub families : Family (end ns) (length ns)

-- The nodes of every file without a fault are shaped.
abbrev pub TablesShaped : Type 0
TablesShaped = (file : List ℕ) → first_fault file ≡ None → Shaped (nodes_of file) (length (items.names file)) (length (items.strings file))
