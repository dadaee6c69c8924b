use Rattle.names.proofs.Walking.{begun}
use Rattle.names.proofs.walk.find_contexts.Goals as goal

pub children-requires-clause-entered : goal.children-requires-clause-entered
children-requires-clause-entered c = begun c.args.nodes.list.now (record { name = 0; scope = 0; node = 0; cells = 0 }) c.args.nodes.nested
