use Rattle.std.proofs.Common.{length}
use Rattle.tree.proofs.children.+left_after.Given as goal

abbrev pub decreases-left_after : goal.decreases-left_after
decreases-left_after l = length l.slots.now
