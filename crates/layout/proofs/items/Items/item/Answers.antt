use Rattle.std.proofs.Common.{refl}
use Rattle.std.proofs.lemmas.Iterator.Consumers.{nth_from_yields_List, YieldsList-from_first}
use Rattle.layout.specs.Readers.{pending}
use Rattle.layout.proofs.Splitting.{shows_nth}
use Rattle.layout.proofs.items.Items.item.Goals as goal

pub returns : goal.returns
returns c =
    shows_nth c.nth.result (pending c.args.self) c.args.k
    (nth_from_yields_List _ c.nth.new.self c.args.k c.nth.ensures.ran (YieldsList-from_first (λ x. x.now) pending {s = c.args.self} _ refl))
