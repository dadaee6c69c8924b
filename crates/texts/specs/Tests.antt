-- Closures that test an item.
use Rattle.std.specs.Prelude.{◌≡◌, ℕ, Bool, List}
use Rattle.std.specs.Borrow.{Bor}
use Rattle.std.specs.Fn.{Shared}

-- Each call with an item and its number answers as the test does.
abbrev pub Tests : {F : Type 0} → Shared F (ℕ × (Bor (List ℕ) × Unit {0})) Bool → F → (ℕ → List ℕ → Bool) → Type 0
Tests g f test = (k : ℕ) (item : Bor (List ℕ)) (b : Bool) → g.post f (k, (item, tt)) b → b ≡ test k item.now
