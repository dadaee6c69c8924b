use Rattle.soundness.proofs.Sound.{never_stuck_later}
use Rattle.soundness.proofs.never_stuck_later_stands.Goals as goal

pub returns : goal.returns
returns c = never_stuck_later
