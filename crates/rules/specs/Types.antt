-- Types that may be missing.
--
-- An expression that breaks a rule, or holds an expression without a type, has none; nor has a string. A missing type counts
-- as one that fits: a rule is broken only if no types in place of the missing ones would keep it.
use Rattle.std.specs.Prelude.{ℕ, Bool, true, false, cond, ◌&&◌, ◌||◌, List, [], ◌∷◌, Some, None, Option, ◌==◌}
use Rattle.node_rules.specs.declared.types.Ty.{Ty}
use Rattle.node_rules.specs.declared.types.Ty.TheVariants.{Int, Long, Bool as Truth}

-- The type that a tag tells: 1 int, 2 long, 3 bool.
abbrev pub tagged : ℕ → Option Ty
tagged n = cond (n == 1) (Some Int) (cond (n == 2) (Some Long) (cond (n == 3) (Some Truth) None))

abbrev pub same : Ty → Ty → Bool
same Int Int = true
same Int Long = false
same Int Truth = false
same Long Int = false
same Long Long = true
same Long Truth = false
same Truth Int = false
same Truth Long = false
same Truth Truth = true

abbrev pub fits : Ty → Option Ty → Bool
fits t None = true
fits t (Some u) = same t u

abbrev pub all_fit : Ty → List (Option Ty) → Bool
all_fit t [] = true
all_fit t (x ∷ xs) = fits t x && all_fit t xs

-- Some type fits all.
abbrev pub of_one_type : List (Option Ty) → Bool
of_one_type ts = all_fit Int ts || (all_fit Long ts || all_fit Truth ts)

-- Int or long fits all.
abbrev pub of_one_number_type : List (Option Ty) → Bool
of_one_number_type ts = all_fit Int ts || all_fit Long ts

-- Each fits what is asked for at its place, and there are as many.
abbrev pub fit_each : List (Option Ty) → List (Option Ty) → Bool
fit_each [] [] = true
fit_each [] (x ∷ xs) = false
fit_each (p ∷ ps) [] = false
fit_each (None ∷ ps) (x ∷ xs) = fit_each ps xs
fit_each (Some t ∷ ps) (x ∷ xs) = fits t x && fit_each ps xs

abbrev pub has_type : Option Ty → Bool
has_type None = false
has_type (Some t) = true
