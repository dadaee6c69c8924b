use Rattle.std.proofs.Common.{subst, rules}
use Rattle.std.specs.List.Sorted.{IsBinarySearchResult}
use Rattle.std.specs.Ordering.{nat_cmp}
use Rattle.std.proofs.lemmas.List.Sorted.{answers_always}
use Rattle.book_makes.specs.Piles.{rank_of}
use Rattle.book_makes.proofs.Orders.{searched}
use Rattle.book_makes.proofs.slips.SlipsBook.find.Goals as goal

-- The closure gives the rank of a slip.
pub returns : goal.returns
returns c =
    let b = c.args.self.now in
    let facts = c.binary_search_by_key.ensures in
    let by_rank = facts.position (λ slip. rank_of slip) (answers_always _ _ _ (λ f a r g called. search rules)) in
    let by_spot = subst (λ r. IsBinarySearchResult (λ slip. nat_cmp (rank_of slip) r) c.deref.result.now c.binary_search_by_key.result) c.rank.ensures by_rank in
    rw (← c.deref.ensures.value) (searched b.lots _ (rw c.deref.ensures.value b.inside) (rw c.deref.ensures.value b.ordered) c.args.spot c.requires _ facts.bound by_spot)
