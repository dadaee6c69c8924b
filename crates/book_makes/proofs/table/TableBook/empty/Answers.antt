use Rattle.std.proofs.Common.{vec_items}
use Rattle.book_makes.proofs.Cells.{blank_copy, empty_is}
use Rattle.book_makes.proofs.table.TableBook.empty.Goals as goal

pub returns : goal.returns
returns c =
    let rows = c.in_ok-rows.rows in
    let copies = c.in_ok-rows.ensures.items_if_clones_equal (λ row copy. blank_copy row copy (λ v none. none)) in
    let is = empty_is c.args.lots (vec_items rows) copies in
    simp c.in_ok-rows.ensures.len is
