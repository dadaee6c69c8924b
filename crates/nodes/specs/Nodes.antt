-- Nodes: records of 16 bytes in one row.
use Rattle.std.specs.Prelude.{ℕ, ◌*◌, ◌/◌, cond, List, length, Some, None, Option, nat_lt}
use Rattle.nodes.specs.Bytes.{byte, window, le16, le64}
use Rattle.nodes.specs.Kinds.{kind_of}
use Rattle.nodes.specs.declared.kind.Kind.{Kind}
use Rattle.nodes.specs.declared.node.Node.{Node}

-- How many whole records a body has.
abbrev pub count : List ℕ → ℕ
count body = length body / 16

-- The record of node i.
abbrev pub node_record : List ℕ → ℕ → Option (List ℕ)
node_record body i = cond (nat_lt i (count body)) (Some (window body (16 * i) 16)) None

abbrev pub with_kind : List ℕ → Option Kind → Option Node
with_kind bs None = None
with_kind bs (Some k) =
    Some (record { kind = k; tag = byte bs 1; name = byte bs 2; size = le16 bs 4; value = le64 bs 8 })

-- The node that a record shows: none where its kind is unknown.
abbrev pub decoded : List ℕ → Option Node
decoded bs = with_kind bs (kind_of (byte bs 0))

abbrev pub shown : Option (List ℕ) → Option Node
shown None = None
shown (Some bs) = decoded bs

abbrev pub node_at : List ℕ → ℕ → Option Node
node_at body i = shown (node_record body i)
