-- Inner contracts of the children's kinds: which are still to come.
use Rattle.std.specs.Prelude.{ℕ, List, map}
use Rattle.layout.specs.Faults.{end_of, kind_byte}
use Rattle.nodes.specs.Tree.{children_from}
use Rattle.tree.specs.declared.children.ChildKinds.{ChildKinds}

abbrev pub kinds_left : ChildKinds → List ℕ
kinds_left c = map (kind_byte c.nodes.now) (children_from c.left (end_of c.nodes.now) c.next c.stop)
