use Rattle.rules.proofs.Accepting.{accepted_keeps}
use Rattle.rules.proofs.laws.rules_stand.Goals as goal

pub returns : goal.returns
returns c = accepted_keeps
