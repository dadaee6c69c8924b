-- The numbers by which stops are answered. The refusal of a book inside a stop has its own number, by the crate `book`.
use Rattle.std.specs.Prelude.{ℕ}
use Rattle.semantics.specs.declared.stop.Stop.{Stop}
use Rattle.semantics.specs.declared.stop.Stop.TheVariants.{Index, NoResult, ZeroDivisor, NoCells, NoPlace, UnknownImport, Arguments, Column, Book}

abbrev pub number_of : Stop → ℕ
number_of Index = 51
number_of NoResult = 52
number_of ZeroDivisor = 53
number_of NoCells = 54
number_of NoPlace = 55
number_of UnknownImport = 56
number_of Arguments = 57
number_of Column = 58
number_of (Book e) = 59
