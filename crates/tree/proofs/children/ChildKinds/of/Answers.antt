use Rattle.std.proofs.Common.{rules}
use Rattle.layout.specs.Faults.{end_of}
use Rattle.nodes.specs.Tree.{children}
use Rattle.tree.proofs.children.ChildKinds.of.Goals as goal

pub returns : goal.returns
unfolding children end_of
returns c = search rules
