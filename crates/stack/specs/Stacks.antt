-- What push, pop and read do. The entries in use are `take used slots`, the bottom first.
use Rattle.std.specs.Prelude.{◌≡◌, ℕ, ◌+◌, ◌<◌, ◌≤◌, ◌⊎◌, List, [], ◌∷◌, ◌++◌, length, take, Some, None, Option, Ok, Err, Result, slice_index_or, slice_set}
use Rattle.std.specs.Borrow.{Bor}
use Rattle.stack.specs.declared.Full.{Full}

abbrev pub Pushed : {X : Type 0} → Result Unit Full → List X → ℕ → X → List X → ℕ → Type 0
Pushed (Err _) slots used x slots' used' = (length slots ≤ used) × (slots' ≡ slots) × (used' ≡ used)
Pushed (Ok _) slots used x slots' used' =
    (used < length slots) × (used' ≡ used + 1) × (take used' slots' ≡ take used slots ++ x ∷ []) × (slots' ≡ slice_set slots used x)

abbrev pub Popped : {X : Type 0} → Option X → List X → ℕ → ℕ → Type 0
Popped None slots used used' = ((used ≡ 0) ⊎ (length slots < used)) × (used' ≡ used)
Popped {X = X} (Some x) slots used used' =
    (used ≡ used' + 1) × (used ≤ length slots) × (take used slots ≡ take used' slots ++ x ∷ [])

abbrev pub Read : {X : Type 0} → Option (Bor X) → List X → ℕ → ℕ → Type 0
Read None slots used place = length (take used slots) ≤ place
Read {X = X} (Some x) slots used place = (place < length (take used slots)) × ((d : X) → x.now ≡ slice_index_or (take used slots) place d)
