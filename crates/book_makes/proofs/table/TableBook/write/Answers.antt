use Rattle.std.proofs.Common.{[], vec_items, vec_len}
use Rattle.std.proofs.lemmas.List.{get_or_read_under}
use Rattle.std.proofs.lemmas.Int.{to_z-of_z}
use Rattle.book_makes.proofs.Cells.{write_is}
use Rattle.book_makes.proofs.table.TableBook.write.Goals as goal

pub returns : goal.returns
returns c =
    let rows = c.args.self.now.rows in
    let spot = c.args.spot in
    let row = c.index_mut.result.now in
    let fits = c.ranges.value in
    let here = get_or_read_under (vec_items rows) spot.lot (vec_len rows) row [] c.index_mut.ensures.value c.requires.1 rows.ok.0 in
    let is = write_is (vec_len rows) (vec_items rows) spot c.args.value c.requires.0 c.requires.1 rows.ok.0 row here c.fill.ensures.wide in
    simp (c.fill.ensures.set, to_z-of_z) is
