-- Calls of a book as values: what a book answers to one and to a list of them, and the meaning after.
--
-- Both are functions of the meaning alone.
use Rattle.std.specs.Prelude.{List, [], ◌∷◌, ℤ, Ok, Err, Option, Result}
use Rattle.book.specs.Meanings.{Meaning, put_answer, put_after, get_answer}
use Rattle.book.specs.declared.fault.BookFault.{BookFault}
use Rattle.book.specs.declared.calls.Call.{Call}
use Rattle.book.specs.declared.calls.Call.TheVariants.{Put, Get, Lots as AskLots}
use Rattle.book.specs.declared.calls.Answer.{Answer}
use Rattle.book.specs.declared.calls.Answer.TheVariants.{Done, Value, Lots}

-- A put is done and a get gives what it found, where they are not refused.
abbrev pub told_put : Result (Unit {0}) BookFault → Result Answer BookFault
told_put (Ok u) = Ok Done
told_put (Err e) = Err e

abbrev pub told_get : Result (Option ℤ) BookFault → Result Answer BookFault
told_get (Ok x) = Ok (Value x)
told_get (Err e) = Err e

-- What a book answers to a call.
abbrev pub answer_of : Meaning → Call → Result Answer BookFault
answer_of m (Put c l v) = told_put (put_answer m c l)
answer_of m (Get c l) = told_get (get_answer m c l)
answer_of m AskLots = Ok (Lots m.lots)

-- The meaning after a call.
abbrev pub after : Meaning → Call → Meaning
after m (Put c l v) = put_after m c l v
after m (Get c l) = m
after m AskLots = m

-- The same of a list of calls, one after another.
abbrev pub answers : Meaning → List Call → List (Result Answer BookFault)
answers m [] = []
answers m (c ∷ cs) = answer_of m c ∷ answers (after m c) cs

abbrev pub after_all : Meaning → List Call → Meaning
after_all m [] = m
after_all m (c ∷ cs) = after_all (after m c) cs
