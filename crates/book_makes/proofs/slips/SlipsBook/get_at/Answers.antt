use Rattle.std.proofs.Common.{Some, vec_items, vec_len, sym, ap, ◌∙◌, arith, w32, SFits, rules}
use Rattle.std.proofs.lemmas.List.{get_or_read_under}
use Rattle.std.proofs.lemmas.Int.{to_z-of_z}
use Rattle.book_makes.specs.Piles.{blank}
use Rattle.book_makes.proofs.Heaps.{value_found}
use Rattle.book_makes.proofs.slips.SlipsBook.get_at.Goals as goal

pub returns : goal.returns
returns c =
    let pile = c.args.self.now.pile in
    let value = value_found (vec_items pile) c.args.spot c.in_ok-i.i c.in_ok-i.ensures in
    let read = get_or_read_under (vec_items pile) c.in_ok-i.i (vec_len pile) c.index.result.now blank c.index.ensures (omega (arith, c.in_ok-i.ensures.0, pile.ok.0)) pile.ok.0 in
    let fits : SFits w32 c.index.result.now.value = search rules in
    simp to_z-of_z (ap (λ slip. Some slip.value) read ∙ sym value)
