use Rattle.std.proofs.Common.{refl, rules}
use Rattle.std.proofs.lemmas.Iterator.{YieldsList-from_take}
use Rattle.std.proofs.lemmas.Iterator.Consumers.{YieldsList-from_first, YieldsList-at}
use Rattle.std.proofs.lemmas.Iterator.Search.{any_from_yields_List}
use Rattle.std.specs.Str.{bytes_eq}
use Rattle.layout.specs.Readers.{pending}
use Rattle.texts.proofs.faults.is_among.Goals as goal

pub returns : goal.returns
returns c =
    any_from_yields_List (bytes_eq c.args.item.now) c.any.new.self _ c.any.result c.any.ensures.ran
    (YieldsList-from_take c.args.k (YieldsList-at c.take.ensures.source (YieldsList-from_first (λ x. x.now) pending {s = c.args.items} _ refl)) c.take.ensures.count)
    (λ x b q k. search rules)
