use Rattle.soundness.proofs.Sound.{never_stuck}
use Rattle.soundness.proofs.never_stuck_stands.Goals as goal

pub returns : goal.returns
returns c = never_stuck
