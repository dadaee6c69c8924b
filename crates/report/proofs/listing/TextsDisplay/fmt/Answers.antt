use Rattle.std.proofs.Common.{◌≡◌, ◌<◌, ◌≤◌, length, inl, arith, rules}
use Rattle.layout.specs.Readers.{pending}
use Rattle.layout.proofs.Splitting.{items_few}
use Rattle.report.proofs.listing.TextsDisplay.fmt.Goals as goal

pub loop-k-init : goal.loop-k-init
loop-k-init g c =
    let it = c.into_iter-k-iterator.result.iter in
    let few : length (pending it) ≤ it.left = items_few it.left it.rest.now in
    let small : it.left < 65536 = search rules in
    let start : c.into_iter-k-iterator.result.count ≡ 0 = search rules in
    ((tt, tt, inl (omega (arith, few, small, start))), tt)
