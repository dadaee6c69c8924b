use Rattle.std.proofs.Common.{rules}
use Rattle.names.proofs.Yielding.{parts_few}
use Rattle.checker.proofs.kin.count_children.Goals as goal

pub count-requires-clause-fits : goal.count-requires-clause-fits
count-requires-clause-fits c = let few = parts_few c.args.nodes.list.now c.args.nodes.nested c.args.i in search rules
