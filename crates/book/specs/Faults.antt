-- The numbers by which the refusals of a book are answered.
use Rattle.std.specs.Prelude.{ℕ}
use Rattle.book.specs.declared.fault.BookFault.{BookFault}
use Rattle.book.specs.declared.fault.BookFault.TheVariants.{Column, Lot, NoPlace}

abbrev pub number_of : BookFault → ℕ
number_of Column = 61
number_of Lot = 62
number_of NoPlace = 63
