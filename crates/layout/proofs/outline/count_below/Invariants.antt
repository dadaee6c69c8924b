use Rattle.std.proofs.Common.{◌≡◌, ◌≤◌, length}
use Rattle.layout.specs.Faults.{end_of}
use Rattle.nodes.specs.Tree.{around}
use Rattle.layout.proofs.outline.count_below.Given as goal

-- so many of the nodes below j span i
abbrev pub invariant-loop-j : goal.invariant-loop-j
invariant-loop-j l = (l.lower ≡ length (around (end_of l.nodes) l.i l.j)) × (l.lower ≤ l.j)
