use Rattle.rule_laws.proofs.Accepting.{accepted_keeps}
use Rattle.rule_laws.proofs.laws.rules_stand.Goals as goal

pub returns : goal.returns
returns c = accepted_keeps
