-- Values, and what the operators make of them.
--
-- A value carries its type, so that an operand of a wrong type is seen where it is used: the operator is ill-typed there. A text, the number
-- of a string, has no type and no operator. Int and long wrap at 32 and 64 bits. Division rounds toward zero and a remainder has the sign of
-- the dividend; the lowest number divided by -1 wraps to itself, with remainder 0.
use Rattle.std.specs.Prelude.{ℕ, ◌-◌, Bool, true, false, cond, not, List, [], ◌∷◌, ◌++◌, replicate, ℤ, pos, negsuc, ◌+ℤ◌, ◌-ℤ◌, ◌*ℤ◌, neg_ℤ, Some, None, Ok, Err, Option, Result, ◌==◌, int_div, int_le, int_lt, int_rem}
use Rattle.std.specs.Int.{int_wrap, Width, w32, w64}
use Rattle.std.specs.List.{slice_get}
use Rattle.nodes.specs.declared.node.Node.{Node}
use Rattle.node_rules.specs.Scopes.{cells_of}
use Rattle.node_rules.specs.Types.{tagged}
use Rattle.node_rules.specs.declared.types.Ty.{Ty}
use Rattle.node_rules.specs.declared.types.Ty.TheVariants as ty
use Rattle.semantics.specs.Rule.{Rule, node}
use Rattle.semantics.specs.declared.value.Value.{Value}
use Rattle.semantics.specs.declared.value.Value.TheVariants.{Int, Long, Bool as Truth, Text}
use Rattle.semantics.specs.declared.value.Operator.{Operator}
use Rattle.semantics.specs.declared.value.Operator.TheVariants.{Add, Subtract, Multiply, Divide, Remainder, Less, Greater, AtMost, AtLeast, Equal, NotEqual, And, Or}
use Rattle.semantics.specs.declared.value.Misfit.{Misfit}
use Rattle.semantics.specs.declared.value.Misfit.TheVariants.{ZeroDivisor, IllTyped}

-- The type that a value carries; a text has none.
abbrev pub carried : Value → Option Ty
carried (Int x) = Some ty.Int
carried (Long x) = Some ty.Long
carried (Truth b) = Some ty.Bool
carried (Text t) = None

abbrev pub is_int : Value → Bool
is_int (Int x) = true
is_int (Long x) = false
is_int (Truth b) = false
is_int (Text t) = false

abbrev pub is_long : Value → Bool
is_long (Int x) = false
is_long (Long x) = true
is_long (Truth b) = false
is_long (Text t) = false

abbrev pub is_truth : Value → Bool
is_truth (Int x) = false
is_truth (Long x) = false
is_truth (Truth b) = true
is_truth (Text t) = false

-- The value is of this type; where there is no type, none is.
abbrev pub is_of : Option Ty → Value → Bool
is_of None v = false
is_of (Some ty.Int) v = is_int v
is_of (Some ty.Long) v = is_long v
is_of (Some ty.Bool) v = is_truth v

-- Zero or false, of a type.
abbrev pub zero_of : Option Ty → Value
zero_of None = Int (pos 0)
zero_of (Some ty.Int) = Int (pos 0)
zero_of (Some ty.Long) = Long (pos 0)
zero_of (Some ty.Bool) = Truth false

-- The cells of some declarations as they are at first: zero or false. What is no variable has no cells.
abbrev pub fresh : Rule → List ℕ → List Value
fresh r [] = []
fresh r (d ∷ ds) = replicate (cells_of (node r d)) (zero_of (tagged (node r d).tag)) ++ fresh r ds

abbrev pub is_zero : ℤ → Bool
is_zero (pos n) = n == 0
is_zero (negsuc n) = false

-- The value of a literal, of the type that its tag tells.
abbrev pub literal_of : Option Ty → ℤ → Value
literal_of None x = Int x
literal_of (Some ty.Int) x = Int x
literal_of (Some ty.Long) x = Long x
literal_of (Some ty.Bool) x = Truth (not (is_zero x))

abbrev pub literal : Node → Value
literal n = literal_of (tagged n.tag) n.value

-- The operator of a tag.
abbrev pub operator : ℕ → Option Operator
operator = slice_get (Add ∷ Subtract ∷ Multiply ∷ Divide ∷ Remainder ∷ Less ∷ Greater ∷ AtMost ∷ AtLeast ∷ Equal ∷ NotEqual ∷ And ∷ Or ∷ [])

abbrev pub same_number : ℤ → ℤ → Bool
same_number (pos a) (pos b) = a == b
same_number (pos a) (negsuc b) = false
same_number (negsuc a) (pos b) = false
same_number (negsuc a) (negsuc b) = a == b

abbrev pub same_truth : Bool → Bool → Bool
same_truth true b = b
same_truth false b = not b

-- Two whole numbers of width w, where `make` turns a number into a value of their type.
abbrev pub on_numbers : Width → (ℤ → Value) → Operator → ℤ → ℤ → Result Value Misfit
on_numbers w make Add x y = Ok (make (int_wrap w (x +ℤ y)))
on_numbers w make Subtract x y = Ok (make (int_wrap w (x -ℤ y)))
on_numbers w make Multiply x y = Ok (make (int_wrap w (x *ℤ y)))
on_numbers w make Divide x y = cond (is_zero y) (Err ZeroDivisor) (Ok (make (int_wrap w (int_div x y))))
on_numbers w make Remainder x y = cond (is_zero y) (Err ZeroDivisor) (Ok (make (int_rem x y)))
on_numbers w make Less x y = Ok (Truth (int_lt x y))
on_numbers w make Greater x y = Ok (Truth (int_lt y x))
on_numbers w make AtMost x y = Ok (Truth (int_le x y))
on_numbers w make AtLeast x y = Ok (Truth (int_le y x))
on_numbers w make Equal x y = Ok (Truth (same_number x y))
on_numbers w make NotEqual x y = Ok (Truth (not (same_number x y)))
on_numbers w make And x y = Err IllTyped
on_numbers w make Or x y = Err IllTyped

-- Two truths. `&&` and `||` come to their right operand only where the left one does not decide, and then the right one does.
abbrev pub on_truths : Operator → Bool → Bool → Result Value Misfit
on_truths Add a b = Err IllTyped
on_truths Subtract a b = Err IllTyped
on_truths Multiply a b = Err IllTyped
on_truths Divide a b = Err IllTyped
on_truths Remainder a b = Err IllTyped
on_truths Less a b = Err IllTyped
on_truths Greater a b = Err IllTyped
on_truths AtMost a b = Err IllTyped
on_truths AtLeast a b = Err IllTyped
on_truths Equal a b = Ok (Truth (same_truth a b))
on_truths NotEqual a b = Ok (Truth (not (same_truth a b)))
on_truths And a b = Ok (Truth b)
on_truths Or a b = Ok (Truth b)

-- Both operands are of one type.
abbrev pub operate : Operator → Value → Value → Result Value Misfit
operate o (Int x) (Int y) = on_numbers w32 Int o x y
operate o (Int x) (Long y) = Err IllTyped
operate o (Int x) (Truth y) = Err IllTyped
operate o (Int x) (Text y) = Err IllTyped
operate o (Long x) (Int y) = Err IllTyped
operate o (Long x) (Long y) = on_numbers w64 Long o x y
operate o (Long x) (Truth y) = Err IllTyped
operate o (Long x) (Text y) = Err IllTyped
operate o (Truth x) (Int y) = Err IllTyped
operate o (Truth x) (Long y) = Err IllTyped
operate o (Truth x) (Truth y) = on_truths o x y
operate o (Truth x) (Text y) = Err IllTyped
operate o (Text x) b = Err IllTyped

abbrev pub by_operator : Option Operator → Value → Value → Result Value Misfit
by_operator None a b = Err IllTyped
by_operator (Some o) a b = operate o a b

-- A step: one more (tag 0) or one less (tag 1), of the same type.
abbrev pub stepped : ℕ → Value → Result Value Misfit
stepped tag (Int x) = by_operator (operator tag) (Int x) (Int (pos 1))
stepped tag (Long x) = by_operator (operator tag) (Long x) (Long (pos 1))
stepped tag (Truth b) = Err IllTyped
stepped tag (Text t) = Err IllTyped

-- A unary node: minus (tag 0) of a number, not (tag 1) of a truth.
abbrev pub inverted : ℕ → Value → Result Value Misfit
inverted tag (Int x) = cond (tag == 0) (Ok (Int (int_wrap w32 (neg_ℤ x)))) (Err IllTyped)
inverted tag (Long x) = cond (tag == 0) (Ok (Long (int_wrap w64 (neg_ℤ x)))) (Err IllTyped)
inverted tag (Truth b) = cond (tag == 0) (Err IllTyped) (Ok (Truth (not b)))
inverted tag (Text t) = Err IllTyped

-- What an int is of a long: its low 32 bits, read as a signed number.
unfoldable pub low_32 : ℤ → ℤ
low_32 x = int_wrap w32 x

-- A cast, to int (tag 1) or to long (tag 2).
abbrev pub converted : ℕ → Value → Result Value Misfit
converted tag (Int x) = Ok (cond (tag == 1) (Int x) (Long x))
converted tag (Long x) = Ok (cond (tag == 1) (Int (low_32 x)) (Long x))
converted tag (Truth b) = Err IllTyped
converted tag (Text t) = Err IllTyped

-- What an assignment stores: `=` (tag 0) a new value of the old one's type, another what its operator makes of the old one and the new.
abbrev pub assigned : ℕ → Value → Value → Result Value Misfit
assigned tag old new = elim (tag == 0) [
  | true ↦ cond (is_of (carried old) new) (Ok new) (Err IllTyped)
  | false ↦ by_operator (operator (tag - 1)) old new
]
