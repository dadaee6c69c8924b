use Rattle.std.proofs.Common.{◌≡◌, ◌≤◌, ◌++◌, length, drop, vec_items, vec_len, vec_capacity}
use Rattle.book.specs.Calls.{answers, after_all}
use Rattle.book.proofs.calls.make_calls.Given as goal

-- The calls that are left lead from here to where all the calls lead from the start, and there is room for their answers.
abbrev pub invariant-loop-call : goal.invariant-loop-call
invariant-loop-call g l =
    (vec_len l.told ≡ l.call-index)
    × (length l.calls ≤ vec_capacity l.told)
    × (vec_items l.told ++ answers (g.B.Book.meaning l.book) (drop l.call-index l.calls) ≡ answers (g.B.Book.meaning l.initial.book) l.calls)
    × (after_all (g.B.Book.meaning l.book) (drop l.call-index l.calls) ≡ after_all (g.B.Book.meaning l.initial.book) l.calls)
