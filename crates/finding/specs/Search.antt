-- Searching by a test: the lowest number that passes.
--
-- Answers everywhere are "the lowest place at which the test is true", so the word is defined once, for any test.
use Rattle.std.specs.Prelude.{ℕ, zero, suc, Bool, true, false, Some, None, Option}

-- The first of the two that is there.
abbrev pub first_of : {X : Type 0} → Option X → Option X → Option X
first_of None later = later
first_of (Some x) later = Some x

-- The number itself where a test of it is true.
abbrev pub passing : Bool → ℕ → Option ℕ
passing true n = Some n
passing false n = None

abbrev pub lowest_below : (ℕ → Bool) → ℕ → Option ℕ
lowest_below t zero = None
lowest_below t (suc n) = first_of (lowest_below t n) (passing (t n) n)

-- The lowest number below n of which the test t is true.
unfoldable pub lowest : (ℕ → Bool) → ℕ → Option ℕ
lowest t n = lowest_below t n
