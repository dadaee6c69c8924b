use Rattle.std.proofs.Common.{◌≡◌, vec_items}
use Rattle.book.specs.Values.{values_below}
use Rattle.book.proofs.values.values.Given as goal

-- The values of the lots so far.
abbrev pub invariant-loop-lot : goal.invariant-loop-lot
invariant-loop-lot g l = vec_items l.found ≡ values_below (g.B.Book.meaning l.book) l.lot
