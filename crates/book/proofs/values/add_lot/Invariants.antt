use Rattle.std.proofs.Common.{◌≡◌, ◌++◌, vec_items}
use Rattle.book.specs.Values.{in_columns}
use Rattle.book.proofs.values.add_lot.Given as goal

-- The values of the columns so far stand behind what was there.
abbrev pub invariant-loop-column : goal.invariant-loop-column
invariant-loop-column g l = vec_items l.found ≡ vec_items l.initial.found ++ in_columns (g.B.Book.meaning l.book) l.lot l.column
