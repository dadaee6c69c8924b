-- What a book means, what its calls answer, and what a put makes of the meaning.
--
-- A meaning decides all that calls show of a book, and books are compared by it alone. Column and lot are natural numbers here, and
-- the functions are total: what they give for a column over 7 or a lot outside is never asked for. A spot may have a place and
-- no value. Nothing says that a spot with a value has a place, or that there are places at all: a book without any is a book.
use Rattle.std.specs.Prelude.{ℕ, ◌-◌, Bool, true, cond, ◌&&◌, ◌||◌, ℤ, Some, Ok, Err, Option, Result, ◌==◌, nat_lt}
use Rattle.book.specs.Spots.{spot_of}
use Rattle.book.specs.declared.fault.BookFault.{BookFault}
use Rattle.book.specs.declared.fault.BookFault.TheVariants.{NoPlace}
use Rattle.book.specs.declared.spot.Spot.{Spot}

-- The number of lots; for a column and a lot the value or none, and whether there is a place; the number of free places.
pub record Meaning : Type 0 where
  pub lots : ℕ
  pub value : ℕ → ℕ → Option ℤ
  pub place : ℕ → ℕ → Bool
  pub free : ℕ

-- A function of column and lot, changed at one spot.
abbrev pub changed : {X : Type 0} → (ℕ → ℕ → X) → Spot → X → ℕ → ℕ → X
changed f s x c l = cond (c == s.column && l == s.lot) x (f c l)

-- The meaning with a value at a spot. A spot without a place takes a free one; all else stays.
abbrev pub written : Meaning → Spot → ℤ → Meaning
written m s v = record {
  lots = m.lots;
  value = changed m.value s (Some v);
  place = changed m.place s true;
  free = cond (m.place s.column s.lot) m.free (m.free - 1);
}

-- A put goes to a spot that has a place, or takes a free one.
abbrev pub with_room : Meaning → Result Spot BookFault → Result Spot BookFault
with_room m (Ok s) = cond (m.place s.column s.lot || nat_lt 0 m.free) (Ok s) (Err NoPlace)
with_room m (Err e) = Err e

-- The spot that a put of column c and lot l goes to, or its refusal.
abbrev pub put_spot : Meaning → ℕ → ℤ → Result Spot BookFault
put_spot m c l = with_room m (spot_of m.lots c l)

abbrev pub done : Result Spot BookFault → Result (Unit {0}) BookFault
done (Ok s) = Ok tt
done (Err e) = Err e

abbrev pub left : Meaning → ℤ → Result Spot BookFault → Meaning
left m v (Ok s) = written m s v
left m v (Err e) = m

-- What a put answers, and the meaning after it: that of the book as it was where the put is refused.
abbrev pub put_answer : Meaning → ℕ → ℤ → Result (Unit {0}) BookFault
put_answer m c l = done (put_spot m c l)

abbrev pub put_after : Meaning → ℕ → ℤ → ℤ → Meaning
put_after m c l v = left m v (put_spot m c l)

abbrev pub got : Meaning → Result Spot BookFault → Result (Option ℤ) BookFault
got m (Ok s) = Ok (m.value s.column s.lot)
got m (Err e) = Err e

-- What a get answers. It changes nothing.
abbrev pub get_answer : Meaning → ℕ → ℤ → Result (Option ℤ) BookFault
get_answer m c l = got m (spot_of m.lots c l)
