-- Types that may be missing.
--
-- An expression that breaks a rule, or holds an expression without a type, has none; nor has a string. A missing type counts
-- as one that fits: a rule is broken only if no types in place of the missing ones would keep it.
use Rattle.std.specs.Prelude.{◌≡◌, ℕ, Bool, true, false, cond, ◌&&◌, ◌||◌, Some, None, Option, Result, ok_or, ◌==◌}
use Rattle.node_rules.specs.declared.types.Ty.{Ty}
use Rattle.node_rules.specs.declared.types.UnknownType.{UnknownType}
use Rattle.node_rules.specs.declared.types.Ty.TheVariants.{Int, Long, Bool as Truth}

-- The type that a tag tells: 1 int, 2 long, 3 bool.
abbrev pub tagged : ℕ → Option Ty
tagged n = cond (n == 1) (Some Int) (cond (n == 2) (Some Long) (cond (n == 3) (Some Truth) None))

-- What `Ty::try_from` answers: that type, or the tag that tells none.
abbrev pub Tells : ℕ → Result Ty UnknownType → Type 0
Tells n r = r ≡ ok_or (tagged n) (record { 0 = n })

abbrev pub same : Ty → Ty → Bool
same Int Int = true
same Int Long = false
same Int Truth = false
same Long Int = false
same Long Long = true
same Long Truth = false
same Truth Int = false
same Truth Long = false
same Truth Truth = true

abbrev pub fits : Ty → Option Ty → Bool
fits t None = true
fits t (Some u) = same t u

-- The type fits both; a missing one asks for nothing.
abbrev pub both_fit : Ty → Option Ty → Option Ty → Bool
both_fit t a b = fits t a && fits t b

-- Int or long fits both.
abbrev pub of_one_number_type : Option Ty → Option Ty → Bool
of_one_number_type a b = both_fit Int a b || both_fit Long a b

-- Some type fits both.
abbrev pub of_one_type : Option Ty → Option Ty → Bool
of_one_type a b = of_one_number_type a b || both_fit Truth a b

-- A type fits where one is asked for.
abbrev pub fits_asked : Option Ty → Option Ty → Bool
fits_asked None b = true
fits_asked (Some t) b = fits t b

abbrev pub has_type : Option Ty → Bool
has_type None = false
has_type (Some t) = true
