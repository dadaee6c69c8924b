-- The values of a book as one list, by lot and then by column.
use Rattle.std.specs.Prelude.{ℕ, zero, suc, List, [], ◌∷◌, ◌++◌, ℤ, Some, None, Option, option_map}
use Rattle.book.specs.Meanings.{Meaning}
use Rattle.book.specs.declared.values.Entry.{Entry}

-- The entry of lot l and column c, where there is a value.
abbrev pub entry_of : ℕ → ℕ → Option ℤ → Option Entry
entry_of l c = option_map (λ v. record { lot = l; column = c; value = v })

-- The list of it.
abbrev pub entry : ℕ → ℕ → Option ℤ → List Entry
entry l c (Some v) = record { lot = l; column = c; value = v } ∷ []
entry l c None = []

-- The values of lot l in the columns below c.
abbrev pub in_columns : Meaning → ℕ → ℕ → List Entry
in_columns m l zero = []
in_columns m l (suc c) = in_columns m l c ++ entry l c (m.value c l)

-- The values of the lots below l.
abbrev pub values_below : Meaning → ℕ → List Entry
values_below m zero = []
values_below m (suc l) = values_below m l ++ in_columns m l 8

abbrev pub all_values : Meaning → List Entry
all_values m = values_below m m.lots
