use Rattle.acceptance.proofs.Never.{rules_never_stuck}
use Rattle.acceptance.proofs.laws.rules_never_stuck.Goals as goal

pub returns : goal.returns
returns c = rules_never_stuck
