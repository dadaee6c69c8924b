use Rattle.rule_laws.proofs.Expressions.{accepted_typed}
use Rattle.rule_laws.proofs.laws.types_stand.Goals as goal

pub returns : goal.returns
returns c = accepted_typed
