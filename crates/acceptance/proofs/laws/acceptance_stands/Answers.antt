use Rattle.acceptance.proofs.Accepting.{accepted_checked}
use Rattle.acceptance.proofs.laws.acceptance_stands.Goals as goal

pub returns : goal.returns
returns c = accepted_checked
