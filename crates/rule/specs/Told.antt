-- What an accepted rule tells of its nodes.
use Rattle.std.specs.Prelude.{ℕ, Bool, cond, ◌&&◌, get_or, Some, None, Option, nat_lt, slice_index, slice_index_or}
use Rattle.nodes.specs.declared.node.Node.{Node}
use Rattle.names.specs.Walk.{vacant}
use Rattle.node_rules.specs.Tables.{blank}
use Rattle.node_rules.specs.declared.types.Ty.{Ty}
use Rattle.rule.specs.declared.Rule.{Rule}

-- there is a node i
abbrev pub is_node : Rule → ℕ → Bool
is_node r i = nat_lt i r.count && nat_lt i 1024

abbrev pub node_in : Rule → ℕ → Option Node
node_in r i = cond (is_node r i) (Some (slice_index_or r.nodes i blank)) None

-- The declaration that node i's name means.
abbrev pub meant_in : Rule → ℕ → Option ℕ
meant_in r i = cond (is_node r i) (get_or r.contexts i vacant).means None

abbrev pub type_in : Rule → ℕ → Option Ty
type_in r i = cond (is_node r i) (slice_index_or r.types i None) None

-- A variable's first cell, and a method's body block.
abbrev pub place_in : Rule → ℕ → ℕ
place_in r i = cond (is_node r i) (get_or r.contexts i vacant).place 0

abbrev pub body_in : Rule → ℕ → ℕ
body_in r i = cond (is_node r i) (slice_index r.bodies i) 0
