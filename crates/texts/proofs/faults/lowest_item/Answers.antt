use Rattle.std.proofs.Common.{◌≡◌, true, false, refl, rules, inl, arith, ◌∙◌}
use Rattle.std.proofs.lemmas.Iterator.{IsFirst-from_position}
use Rattle.std.proofs.lemmas.Iterator.Consumers.{YieldsList-from_first, YieldsList-from_enumerate, YieldsList-at}
use Rattle.layout.specs.Readers.{pending}
use Rattle.layout.proofs.Splitting.{items_few}
use Rattle.texts.proofs.First.{Answers, first_is}
use Rattle.texts.proofs.faults.lowest_item.Goals as goal

pub position-requires-clause-can : goal.position-requires-clause-can
position-requires-clause-can g c =
    let few = items_few c.args.items.left c.args.items.rest.now in
    (tt, tt, inl (omega (arith, few, c.enumerate.ensures.remaining, c.enumerate.ensures.count)))

pub position-requires-clause-fits : goal.position-requires-clause-fits
position-requires-clause-fits g c =
    let few = items_few c.args.items.left c.args.items.rest.now in
    inl (omega (arith, few, c.enumerate.ensures.remaining))

pub map-requires : goal.map-requires
map-requires g c k e r =
    let few = items_few c.args.items.left c.args.items.rest.now in
    omega (arith, few, c.enumerate.ensures.remaining, rw e at c.position.ensures.bound)

pub returns : goal.returns
returns g c test acts =
    let road = YieldsList-from_enumerate (YieldsList-at c.enumerate.ensures.source (YieldsList-from_first (λ x. x.now) pending {s = c.args.items} _ refl)) c.enumerate.ensures.count in
    let first = IsFirst-from_position c.position.new.self _ c.position.result (Answers test true) (Answers test false) c.position.ensures.ran road (λ x q k. search (rules, acts)) (λ x q k. search (rules, acts)) in
    let same : c.map.result ≡ c.position.result = search rules in
    same ∙ first_is test (pending c.args.items) c.position.result first
