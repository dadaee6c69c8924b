use Rattle.acceptance.proofs.Never.{courses_never_stuck}
use Rattle.acceptance.proofs.laws.courses_never_stuck.Goals as goal

pub returns : goal.returns
returns c = courses_never_stuck
