-- A write to one cell of a table is the meaning written at one spot, and a table of empty cells is an empty table.
use Rattle.std.specs.Array.{AllZipBelow}
use Rattle.std.specs.List.{AllZip}
use Rattle.std.proofs.Common.{◌≡◌, ℕ, zero, suc, ◌<◌, true, List, [], ◌∷◌, length, get_or, set, replicate, ℤ, Some, None, Option, refl, inl, inr, arith}
use mathlib.Core.Path.{fun_ext}
use Rattle.std.proofs.lemmas.List.{get_or-set_same, get_or-set_other, get_or-replicate, get_or_past, length-replicate}
use Rattle.std.proofs.lemmas.Bool.{cases_eq, cases_lt}
use Rattle.std.proofs.lemmas.Bool.Decides.{nat_tests}
use Rattle.book.specs.Meanings.{changed, written}
use Rattle.book.specs.declared.spot.Spot.{Spot}
use Rattle.book_makes.specs.Tables.{in_table, cell, of_rows, empty_table}

module _ (n : ℕ) (rows : List (List (Option ℤ))) (s : Spot) (v : ℤ) (column : s.column < 8) (lot : s.lot < n) (many : n ≡ length rows) (row : List (Option ℤ)) (here : row ≡ get_or rows s.lot []) (wide : length row ≡ 8) where
  cell_set : (c l : ℕ) → cell (set rows s.lot (set row s.column (Some v))) c l ≡ changed (cell rows) s (Some v) c l
  cell_set c l = grind (arith, nat_tests, get_or-set_same, get_or-set_other, cases_eq s.lot l, cases_eq s.column c)

  place_set : (c l : ℕ) → in_table n c l ≡ changed (in_table n) s true c l
  place_set c l = grind (arith, nat_tests)

  pub write_is : of_rows n (set rows s.lot (set row s.column (Some v))) ≡ written (of_rows n rows) s v
  write_is =
      let values : cell (set rows s.lot (set row s.column (Some v))) ≡ changed (cell rows) s (Some v) = fun_ext (λ c. fun_ext (λ l. cell_set c l)) in
      let places : in_table n ≡ changed (in_table n) s true = fun_ext (λ c. fun_ext (λ l. place_set c l)) in
      let has : in_table n s.column s.lot ≡ true = grind (arith, nat_tests) in
      rw has (λ i. record { lots = n; value = values i; place = places i; free = 0 })

-- A row of cells without a value, and what is a copy of it where no value is a copy of `None`.
abbrev pub blank : List (Option ℤ)
blank = replicate 8 None

none_only : (P : Option ℤ → Option ℤ → Type 0) → ((v : ℤ) → P None (Some v) → ⊥) → (n : ℕ) (cells : List (Option ℤ)) → AllZip P (replicate n None) cells → cells ≡ replicate n None
none_only P h zero [] a = refl
none_only P h zero (x ∷ cells) a = absurd a
none_only P h (suc n) [] a = absurd a
none_only P h (suc n) (None ∷ cells) a = rw (none_only P h n cells a.1) refl
none_only P h (suc n) (Some v ∷ cells) a = absurd (h v a.0)

pub blank_copy : {P : Option ℤ → Option ℤ → Type 0} (row : List (Option ℤ)) → AllZipBelow P blank row 8 → ((v : ℤ) → P None (Some v) → ⊥) → row ≡ blank
blank_copy {P = P} row a h = none_only P h 8 row a.whole

none_in : (n i : ℕ) → ◌≡◌ {A = Option ℤ} (get_or (replicate n None) i None) None
none_in n i = elim (cases_lt i n) [ inl l ↦ get_or-replicate n i None None l | inr l ↦ get_or_past (replicate n None) i None (rw length-replicate l) ]

none_at : (n c l : ℕ) → cell (replicate n blank) c l ≡ None
none_at n c l = elim (cases_lt l n) [
  | inl h ↦ rw (get_or-replicate n l blank [] h) (none_in 8 c)
  | inr h ↦ rw (get_or_past (replicate n blank) l [] (rw length-replicate h)) refl
]

pub empty_is : (n : ℕ) (rows : List (List (Option ℤ))) → rows ≡ replicate n blank → of_rows n rows ≡ empty_table n
empty_is n rows e =
    let values : cell rows ≡ (λ c l. None) = fun_ext (λ c. fun_ext (λ l. rw e (none_at n c l))) in
    λ i. record { lots = n; value = values i; place = in_table n; free = 0 }
