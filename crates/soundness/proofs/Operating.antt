-- Operators on operands of the right type never go IllTyped, and give a value of their type.
use Rattle.std.proofs.Common.{◌≡◌, ℕ, ◌-◌, ◌<◌, Bool, true, false, cond, eqb, ◌⊎◌, ℤ, Some, None, Option, sym, refl, ◌∙◌, inl, inr, arith, w32, w64, Ok, Err, Result}
use Rattle.std.proofs.lemmas.Option.{none-some, same_Some}
use mir.Syntax.{Width}
use Rattle.std.proofs.lemmas.Bool.Decides.{nat_tests}
use Rattle.node_rules.specs.declared.types.Ty.{Ty}
use Rattle.node_rules.specs.declared.types.Ty.TheVariants as ty
use Rattle.semantics.specs.Values.{carried, is_of, is_zero, operator, on_numbers, on_truths, operate, by_operator, stepped, inverted, converted, assigned}
use Rattle.semantics.specs.declared.value.Value.{Value}
use Rattle.semantics.specs.declared.value.Value.TheVariants.{Int, Long, Bool as Truth, Text}
use Rattle.semantics.specs.declared.value.Operator.{Operator}
use Rattle.semantics.specs.declared.value.Operator.TheVariants.{Add, Subtract, Multiply, Divide, Remainder, Less, Greater, AtMost, AtLeast, Equal, NotEqual, And, Or}
use Rattle.semantics.specs.declared.value.Misfit.{Misfit}
use Rattle.semantics.specs.declared.value.Misfit.TheVariants.{ZeroDivisor, IllTyped}
use Rattle.soundness.proofs.Classes.{no}
use Rattle.soundness.specs.Checked.{number_type, truth_type, operator_type, IsNumber}

abbrev pub Computes : Result Value Misfit → Option Ty → Type 0
Computes (Ok v) t = is_of t v ≡ true
Computes (Err ZeroDivisor) t = Unit {0}
Computes (Err IllTyped) t = ⊥

-- what is_of s is_of m
fits_as : (s m : Ty) (v : Value) → ◌≡◌ {A = Option Ty} (Some s) (Some m) → is_of (Some s) v ≡ true → is_of (Some m) v ≡ true
fits_as s m v h f = rw (← (same_Some s m h)) f

divided : (b : Bool) (m : Ty) (v : Value) → is_of (Some m) v ≡ true → Computes (cond b (Err ZeroDivisor) (Ok v)) (Some m)
divided true m v f = tt
divided false m v f = f

numbers_fit : (w : Width) (make : ℤ → Value) (s m : Ty) → ((z : ℤ) → is_of (Some s) (make z) ≡ true) → (p : Operator) (x y : ℤ) → number_type s p ≡ Some m → Computes (on_numbers w make p x y) (Some m)
numbers_fit w make s m f Add x y h = fits_as s m _ h (f _)
numbers_fit w make s m f Subtract x y h = fits_as s m _ h (f _)
numbers_fit w make s m f Multiply x y h = fits_as s m _ h (f _)
numbers_fit w make s m f Divide x y h = divided (is_zero y) m _ (fits_as s m _ h (f _))
numbers_fit w make s m f Remainder x y h = divided (is_zero y) m _ (fits_as s m _ h (f _))
numbers_fit w make s m f Less x y h = fits_as ty.Bool m _ h refl
numbers_fit w make s m f Greater x y h = fits_as ty.Bool m _ h refl
numbers_fit w make s m f AtMost x y h = fits_as ty.Bool m _ h refl
numbers_fit w make s m f AtLeast x y h = fits_as ty.Bool m _ h refl
numbers_fit w make s m f Equal x y h = fits_as ty.Bool m _ h refl
numbers_fit w make s m f NotEqual x y h = fits_as ty.Bool m _ h refl
numbers_fit w make s m f And x y h = absurd (none-some m h)
numbers_fit w make s m f Or x y h = absurd (none-some m h)

truths_fit : (m : Ty) (p : Operator) (a b : Bool) → truth_type p ≡ Some m → Computes (on_truths p a b) (Some m)
truths_fit m Add a b h = absurd (none-some m h)
truths_fit m Subtract a b h = absurd (none-some m h)
truths_fit m Multiply a b h = absurd (none-some m h)
truths_fit m Divide a b h = absurd (none-some m h)
truths_fit m Remainder a b h = absurd (none-some m h)
truths_fit m Less a b h = absurd (none-some m h)
truths_fit m Greater a b h = absurd (none-some m h)
truths_fit m AtMost a b h = absurd (none-some m h)
truths_fit m AtLeast a b h = absurd (none-some m h)
truths_fit m Equal a b h = fits_as ty.Bool m _ h refl
truths_fit m NotEqual a b h = fits_as ty.Bool m _ h refl
truths_fit m And a b h = fits_as ty.Bool m _ h refl
truths_fit m Or a b h = fits_as ty.Bool m _ h refl

pub operate_fits : (s m : Ty) (p : Operator) (v w : Value) → operator_type s p ≡ Some m → is_of (Some s) v ≡ true → is_of (Some s) w ≡ true → Computes (operate p v w) (Some m)
operate_fits ty.Int m p (Int x) (Int y) h f g = numbers_fit w32 Int ty.Int m (λ z. refl) p x y h
operate_fits ty.Int m p (Int x) (Long y) h f g = no g
operate_fits ty.Int m p (Int x) (Truth y) h f g = no g
operate_fits ty.Int m p (Int x) (Text y) h f g = no g
operate_fits ty.Int m p (Long x) w h f g = no f
operate_fits ty.Int m p (Truth x) w h f g = no f
operate_fits ty.Int m p (Text x) w h f g = no f
operate_fits ty.Long m p (Int x) w h f g = no f
operate_fits ty.Long m p (Long x) (Int y) h f g = no g
operate_fits ty.Long m p (Long x) (Long y) h f g = numbers_fit w64 Long ty.Long m (λ z. refl) p x y h
operate_fits ty.Long m p (Long x) (Truth y) h f g = no g
operate_fits ty.Long m p (Long x) (Text y) h f g = no g
operate_fits ty.Long m p (Truth x) w h f g = no f
operate_fits ty.Long m p (Text x) w h f g = no f
operate_fits ty.Bool m p (Int x) w h f g = no f
operate_fits ty.Bool m p (Long x) w h f g = no f
operate_fits ty.Bool m p (Truth x) (Int y) h f g = no g
operate_fits ty.Bool m p (Truth x) (Long y) h f g = no g
operate_fits ty.Bool m p (Truth x) (Truth y) h f g = truths_fit m p x y h
operate_fits ty.Bool m p (Truth x) (Text y) h f g = no g
operate_fits ty.Bool m p (Text x) w h f g = no f

pub op_fits : (s m : Ty) (p : Operator) (o : Option Operator) (v w : Value) → o ≡ Some p → operator_type s p ≡ Some m → is_of (Some s) v ≡ true → is_of (Some s) w ≡ true → Computes (by_operator o v w) (Some m)
op_fits s m p o v w e h f g = rw e (operate_fits s m p v w h f g)

-- Values of one type.
pub carries_fits : (s : Ty) (v : Value) → is_of (Some s) v ≡ true → carried v ≡ Some s
carries_fits ty.Int (Int x) f = refl
carries_fits ty.Int (Long x) f = no f
carries_fits ty.Int (Truth x) f = no f
carries_fits ty.Int (Text x) f = no f
carries_fits ty.Long (Int x) f = no f
carries_fits ty.Long (Long x) f = refl
carries_fits ty.Long (Truth x) f = no f
carries_fits ty.Long (Text x) f = no f
carries_fits ty.Bool (Int x) f = no f
carries_fits ty.Bool (Long x) f = no f
carries_fits ty.Bool (Truth x) f = refl
carries_fits ty.Bool (Text x) f = no f

pub fits_carried : (t : Option Ty) (v : Value) → is_of t v ≡ true → carried v ≡ t
fits_carried None v f = no f
fits_carried (Some t) v f = carries_fits t v f

pub like_same : (s : Ty) (u v : Value) → is_of (Some s) u ≡ true → is_of (Some s) v ≡ true → (t : Option Ty) → is_of t u ≡ true → is_of t v ≡ true
like_same s u v f g t h = let e : Some s ≡ t = sym (carries_fits s u f) ∙ fits_carried t u h in rw (← e) g

-- What an assignment stores has the location's type.
stored_plain : (s : Ty) (b : Bool) (v : Value) → b ≡ true → is_of (Some s) v ≡ true → Computes (cond b (Ok v) (Err IllTyped)) (Some s)
stored_plain s true v e g = g
stored_plain s false v e g = no e

pub assigned_fits : (s : Ty) (tag : ℕ) (old v : Value) → (tag ≡ 0) ⊎ ((p : Operator) × (0 < tag) × (operator (tag - 1) ≡ Some p) × (operator_type s p ≡ Some s)) → is_of (Some s) old ≡ true → is_of (Some s) v ≡ true → Computes (assigned tag old v) (Some s)
assigned_fits s tag old v (inl e) f g = rw e (stored_plain s (is_of (carried old) v) v (rw (carries_fits s old f) g) g)
assigned_fits s tag old v (inr x) f g = let lt = x.1 in let e : eqb tag 0 ≡ false = grind (arith, nat_tests) in rw (e, assigned) (op_fits s s x.0 (operator (tag - 1)) old v x.2 x.3 f g)

-- Steps, minus and not, casts.
pub stepped_fits : (s : Ty) (tag : ℕ) (v : Value) → IsNumber s → (tag ≡ 0) ⊎ (tag ≡ 1) → is_of (Some s) v ≡ true → Computes (stepped tag v) (Some s)
stepped_fits ty.Int tag (Int x) n (inl e) f = rw e refl
stepped_fits ty.Int tag (Int x) n (inr e) f = rw e refl
stepped_fits ty.Int tag (Long x) n e f = no f
stepped_fits ty.Int tag (Truth x) n e f = no f
stepped_fits ty.Int tag (Text x) n e f = no f
stepped_fits ty.Long tag (Int x) n e f = no f
stepped_fits ty.Long tag (Long x) n (inl e) f = rw e refl
stepped_fits ty.Long tag (Long x) n (inr e) f = rw e refl
stepped_fits ty.Long tag (Truth x) n e f = no f
stepped_fits ty.Long tag (Text x) n e f = no f
stepped_fits ty.Bool tag v n e f = absurd n

minus_fits : (s : Ty) (tag : ℕ) (v : Value) → IsNumber s → tag ≡ 0 → is_of (Some s) v ≡ true → Computes (inverted tag v) (Some s)
minus_fits ty.Int tag (Int x) n e f = rw e refl
minus_fits ty.Int tag (Long x) n e f = no f
minus_fits ty.Int tag (Truth x) n e f = no f
minus_fits ty.Int tag (Text x) n e f = no f
minus_fits ty.Long tag (Int x) n e f = no f
minus_fits ty.Long tag (Long x) n e f = rw e refl
minus_fits ty.Long tag (Truth x) n e f = no f
minus_fits ty.Long tag (Text x) n e f = no f
minus_fits ty.Bool tag v n e f = absurd n

not_fits : (tag : ℕ) (v : Value) → tag ≡ 1 → is_of (Some ty.Bool) v ≡ true → Computes (inverted tag v) (Some ty.Bool)
not_fits tag (Int x) e f = no f
not_fits tag (Long x) e f = no f
not_fits tag (Truth x) e f = rw e refl
not_fits tag (Text x) e f = no f

pub inverted_fits : (s : Ty) (tag : ℕ) (v : Value) → ((tag ≡ 0) × IsNumber s) ⊎ ((tag ≡ 1) × (s ≡ ty.Bool)) → is_of (Some s) v ≡ true → Computes (inverted tag v) (Some s)
inverted_fits s tag v (inl e) f = minus_fits s tag v e.1 e.0 f
inverted_fits s tag v (inr e) f = rw e.1 (not_fits tag v e.0 (rw e.1 at f))

pub converted_fits : (s : Ty) (tag : ℕ) (v : Value) (t : Option Ty) → IsNumber s → ((tag ≡ 1) × (t ≡ Some ty.Int)) ⊎ ((tag ≡ 2) × (t ≡ Some ty.Long)) → is_of (Some s) v ≡ true → Computes (converted tag v) t
converted_fits ty.Int tag (Int x) t n (inl e) f = rw (e.0, e.1) refl
converted_fits ty.Int tag (Int x) t n (inr e) f = rw (e.0, e.1) refl
converted_fits ty.Int tag (Long x) t n e f = no f
converted_fits ty.Int tag (Truth x) t n e f = no f
converted_fits ty.Int tag (Text x) t n e f = no f
converted_fits ty.Long tag (Int x) t n e f = no f
converted_fits ty.Long tag (Long x) t n (inl e) f = rw (e.0, e.1) refl
converted_fits ty.Long tag (Long x) t n (inr e) f = rw (e.0, e.1) refl
converted_fits ty.Long tag (Truth x) t n e f = no f
converted_fits ty.Long tag (Text x) t n e f = no f
converted_fits ty.Bool tag v t n e f = absurd n
