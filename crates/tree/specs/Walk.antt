-- Inner contracts of the walk over the nodes: what it tells of each node.
use Rattle.std.specs.Prelude.{ℕ, zero, suc, ◌+◌, ◌-◌, cond, List, map, ◌==◌}
use Rattle.std.specs.List.{range_with_len}
use Rattle.layout.specs.Faults.{end_of}
use Rattle.nodes.specs.Tree.{parent}
use Rattle.tree.specs.declared.walk.Met.{Met}
use Rattle.tree.specs.declared.walk.Walk.{Walk}

abbrev pub levels_by : ℕ → (ℕ → ℕ) → ℕ → ℕ
levels_by zero e i = 1
levels_by (suc f) e i = cond (i == 0) 1 (levels_by f e (parent e i) + 1)

-- How many nodes the way from node i up to node 0 meets, both counted. It is the depth of i where no size is at fault.
unfoldable pub levels : (ℕ → ℕ) → ℕ → ℕ
levels e i = levels_by i e i

abbrev pub met_at : (ℕ → ℕ) → ℕ → Met
met_at e i = record { node = i; stop = e i; limit = e (parent e i); depth = levels e i }

-- What the walk tells of the nodes that are still to come.
abbrev pub ahead : Walk → List Met
ahead w = map (met_at (end_of w.body.nodes.now)) (range_with_len w.next (w.body.len - w.next))
