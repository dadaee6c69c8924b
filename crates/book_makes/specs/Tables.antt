-- What a table means: each of its cells is a place, and none is free.
use Rattle.std.specs.Prelude.{ℕ, Bool, ◌&&◌, List, [], ℤ, None, vec_items, vec_len, Option, nat_lt, slice_index_or}
use Rattle.book.specs.Meanings.{Meaning}
use Rattle.book_makes.specs.declared.table.TableBook.{TableBook}

-- Column c and lot l are in a table of n lots.
abbrev pub in_table : ℕ → ℕ → ℕ → Bool
in_table n c l = nat_lt c 8 && nat_lt l n

-- The value of column c and lot l, by the rows of a table.
abbrev pub cell : List (List (Option ℤ)) → ℕ → ℕ → Option ℤ
cell rows c l = slice_index_or (slice_index_or rows l []) c None

abbrev pub of_rows : ℕ → List (List (Option ℤ)) → Meaning
of_rows n rows = record { lots = n; value = cell rows; place = in_table n; free = 0 }

abbrev pub table_meaning : TableBook → Meaning
table_meaning t = of_rows (vec_len t.rows) (vec_items t.rows)

-- A table of n lots without a value.
abbrev pub empty_table : ℕ → Meaning
empty_table n = record { lots = n; value = λ c l. None; place = in_table n; free = 0 }
