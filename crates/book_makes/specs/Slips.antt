-- What a book of slips means: the spots of its slips are the places, and the slips not filled in are free.
use Rattle.std.specs.Prelude.{ℕ, ◌-◌, false, List, None, vec_items, vec_len}
use Rattle.book.specs.Meanings.{Meaning}
use Rattle.book_makes.specs.Piles.{holds, value_in}
use Rattle.book_makes.specs.declared.slip.Slip.{Slip}
use Rattle.book_makes.specs.declared.slips.SlipsBook.{SlipsBook}

-- A book of n lots, of the slips filled in and the number of those that are free.
abbrev pub of_pile : ℕ → List Slip → ℕ → Meaning
of_pile n ss free = record { lots = n; value = value_in ss; place = holds ss; free = free }

abbrev pub slips_meaning : SlipsBook → Meaning
slips_meaning b = of_pile b.lots (vec_items b.pile) (b.most - vec_len b.pile)

-- A book of n lots and of so many slips, none of them filled in.
abbrev pub empty_slips : ℕ → ℕ → Meaning
empty_slips n slips = record { lots = n; value = λ c l. None; place = λ c l. false; free = slips }
