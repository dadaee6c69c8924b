-- Where in a book a call leads: to a column and a lot of the book, or to a refusal.
--
-- A column is a number and a lot any int, as a rule passes them, so that it is the book that refuses. A column over 7 comes
-- first, then a lot that is not there; a lot below 0 is one of those.
use Rattle.std.specs.Prelude.{ℕ, ◌<◌, cond, ℤ, pos, negsuc, Ok, Err, Result, nat_lt}
use Rattle.book.specs.declared.fault.BookFault.{BookFault}
use Rattle.book.specs.declared.fault.BookFault.TheVariants.{Column, Lot}
use Rattle.book.specs.declared.spot.Spot.{Spot}

-- The spot is of a book of n lots.
abbrev pub IsIn : ℕ → Spot → Type 0
IsIn n s = (s.column < 8) × (s.lot < n)

-- A lot of a book of n lots, in column c.
abbrev pub in_lots : ℕ → ℕ → ℤ → Result Spot BookFault
in_lots n c (pos l) = cond (nat_lt l n) (Ok (record { column = c; lot = l })) (Err Lot)
in_lots n c (negsuc l) = Err Lot

-- The spot of column c and lot l in a book of n lots, or the first refusal.
abbrev pub spot_of : ℕ → ℕ → ℤ → Result Spot BookFault
spot_of n c l = cond (nat_lt c 8) (in_lots n c l) (Err Column)
