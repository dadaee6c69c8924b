use Rattle.std.proofs.Common.{◌≡◌}
use Rattle.tree.proofs.walk.Walk.close.Given as goal

abbrev pub invariant-loop-self : goal.invariant-loop-self
invariant-loop-self l =
    (l.self.body ≡ l.fn.self.body) × (l.self.next ≡ l.fn.self.next)

abbrev pub decreases-loop-self : goal.decreases-loop-self
decreases-loop-self l = l.self.top
