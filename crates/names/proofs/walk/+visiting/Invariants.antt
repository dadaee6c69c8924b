-- A child has a higher number than its parent; a node is visited, then entered, then its children.
use Rattle.std.proofs.Common.{◌≡◌, ◌+◌, ◌-◌, ◌*◌, length}
use Rattle.names.specs.Walk.{kin}
use Rattle.names.proofs.Walking.{Turning}
use Rattle.names.proofs.walk.+visiting.Given as goal

abbrev pub decreases-visit : goal.decreases-visit
decreases-visit l = 3 * (length l.at.nodes.list.now - l.at.i) + 2

abbrev pub decreases-declaration : goal.decreases-declaration
decreases-declaration l = 3 * (length l.at.nodes.list.now - l.at.i) + 1

abbrev pub decreases-block : goal.decreases-block
decreases-block l = 3 * (length l.at.nodes.list.now - l.at.i) + 1

abbrev pub decreases-statement : goal.decreases-statement
decreases-statement l = 3 * (length l.at.nodes.list.now - l.at.i) + 1

abbrev pub decreases-expression : goal.decreases-expression
decreases-expression l = 3 * (length l.at.nodes.list.now - l.at.i) + 1

abbrev pub decreases-children : goal.decreases-children
decreases-children l = 3 * (length l.nodes.list.now - l.i)

abbrev pub invariant-children-loop-j : goal.invariant-children-loop-j
invariant-children-loop-j l =
    Turning l.nodes.list.now l.i l.initial.names.bindings l.initial.scope.mark (kin l.j-iterator.nodes.list.now l.j-iterator.next l.j-iterator.stop) l.names.bindings l.names.contexts l.scope.count.now.used
    × (l.scope.mark ≡ l.initial.scope.mark)
