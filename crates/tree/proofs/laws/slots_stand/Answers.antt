use Rattle.tree.proofs.Arranging.{arranged}
use Rattle.tree.proofs.Completing.{completes}
use Rattle.nodes.specs.Shapes.{shape}
use Rattle.tree.proofs.laws.slots_stand.Goals as goal

pub returns : goal.returns
returns c = λ kind ks. record { sound = arranged ks (shape kind); complete = completes kind ks }
