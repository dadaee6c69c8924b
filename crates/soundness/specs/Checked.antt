-- What the checks of a rule tell about each node, its children and what it names: nothing else is asked of a rule that runs.
--
-- `type` gives the types that the checks found. Every fact is of one node, its children and the declaration that it names.
use Rattle.std.specs.Prelude.{◌≡◌, ℕ, ◌+◌, ◌-◌, ◌<◌, ◌≤◌, Bool, true, false, ◌&&◌, ◌⊎◌, length, take, Some, None, Option, ◌==◌, nat_lt}
use Rattle.std.specs.List.{slice_get}
use Rattle.nodes.specs.Kinds.{between}
use Rattle.nodes.specs.declared.kind.Kind.{Kind}
use Rattle.nodes.specs.declared.kind.Kind.TheVariants as kind
use Rattle.node_rules.specs.Rules.{cells_all}
use Rattle.node_rules.specs.Scopes.{above, body, cells_in, in_force, in_loop, is_variable, lives, meant, method_of, place}
use Rattle.node_rules.specs.Types.{tagged}
use Rattle.node_rules.specs.declared.types.Ty.{Ty}
use Rattle.node_rules.specs.declared.types.Ty.TheVariants as ty
use Rattle.semantics.specs.Rule.{Rule, node, kind_at, end, child, has, children, first_statement, parameters, is_field, main}
use Rattle.semantics.specs.Values.{is_of, literal, operator}
use Rattle.semantics.specs.Acts.{needs}
use Rattle.semantics.specs.declared.value.Operator.{Operator}
use Rattle.semantics.specs.declared.value.Operator.TheVariants.{Add, Subtract, Multiply, Divide, Remainder, Less, Greater, AtMost, AtLeast, Equal, NotEqual, And, Or}

-- ── Words about a rule ──

-- The variable d is in force at node i.
unfoldable pub sees : Rule → ℕ → ℕ → Bool
sees r i d = is_variable (kind_at r d) && (nat_lt d i && lives r.nodes i d)

-- How many cells of the call are in use where node i begins.
unfoldable pub offset : Rule → ℕ → ℕ
offset r i = cells_in (above r.nodes i == 0) (in_force r.nodes i)

-- Node i is inside a for or a while.
abbrev pub looped : Rule → ℕ → Bool
looped r i = in_loop r.nodes i

-- The type of the method that node i is in, none for void.
unfoldable pub result : Rule → ℕ → Option Ty
result r i = tagged (node r (method_of r.nodes i)).tag

-- The variable d is a child of node i, of some type, and its cells stand behind the first ones and those of the children before it.
pub record Declared (r : Rule) (i d first : ℕ) : Type 0 where
  -- its number among the children of i
  pub index : ℕ
  -- d is the child with that number
  pub here : slice_get (children r i) index ≡ Some d
  -- the place of its first cell
  pub cell : place r.nodes d ≡ first + cells_all r.nodes (take index (children r i))
  -- its type
  pub sort : Ty
  -- its tag tells a type
  pub typed : tagged (node r d).tag ≡ Some sort

-- The variable d is declared in block i.
pub record Own (r : Rule) (i d : ℕ) : Type 0 where
  -- only blocks declare such variables
  pub block : kind_at r i ≡ 7
  -- it is no field
  pub local : is_field r d ≡ false
  -- its cells stand behind those in use where the block begins
  pub declared : Declared r i d (offset r i)

-- The type of an operator's result, for operands of one number type t.
abbrev pub number_type : Ty → Operator → Option Ty
number_type t Add = Some t
number_type t Subtract = Some t
number_type t Multiply = Some t
number_type t Divide = Some t
number_type t Remainder = Some t
number_type t Less = Some ty.Bool
number_type t Greater = Some ty.Bool
number_type t AtMost = Some ty.Bool
number_type t AtLeast = Some ty.Bool
number_type t Equal = Some ty.Bool
number_type t NotEqual = Some ty.Bool
number_type t And = None
number_type t Or = None

-- The same for truths.
abbrev pub truth_type : Operator → Option Ty
truth_type Add = None
truth_type Subtract = None
truth_type Multiply = None
truth_type Divide = None
truth_type Remainder = None
truth_type Less = None
truth_type Greater = None
truth_type AtMost = None
truth_type AtLeast = None
truth_type Equal = Some ty.Bool
truth_type NotEqual = Some ty.Bool
truth_type And = Some ty.Bool
truth_type Or = Some ty.Bool

abbrev pub operator_type : Ty → Operator → Option Ty
operator_type ty.Int p = number_type ty.Int p
operator_type ty.Long p = number_type ty.Long p
operator_type ty.Bool p = truth_type p

abbrev pub IsNumber : Ty → Type 0
IsNumber ty.Int = Unit {0}
IsNumber ty.Long = Unit {0}
IsNumber ty.Bool = ⊥

-- ── A node's children ──

-- The child j of node i sees no more than i does, and i's own declarations.
abbrev pub SeesAs : Rule → ℕ → ℕ → Type 0
SeesAs r i j = (d : ℕ) → sees r j d ≡ true → (sees r i d ≡ true) ⊎ Own r i d

-- The child j of node i is an expression of type t.
pub record Expression (r : Rule) (type : ℕ → Option Ty) (i j : ℕ) (t : Ty) : Type 0 where
  -- it sees what i sees
  pub names : SeesAs r i j
  -- the kinds of expressions
  pub is : between 17 24 (kind_at r j) ≡ true
  -- its type
  pub typed : type j ≡ Some t

-- The child j of node i is a location of type t.
pub record Location (r : Rule) (type : ℕ → Option Ty) (i j : ℕ) (t : Ty) : Type 0 where
  -- it sees what i sees
  pub names : SeesAs r i j
  -- the kinds of locations
  pub is : between 17 18 (kind_at r j) ≡ true
  -- its type
  pub typed : type j ≡ Some t

-- The child j of node i is a statement or a block of the same method, and begins where i's own cells end.
pub record Inner (r : Rule) (i j : ℕ) : Type 0 where
  -- it sees what i sees
  pub names : SeesAs r i j
  -- the kinds of blocks and statements
  pub is : between 7 16 (kind_at r j) ≡ true
  -- its method gives what the method of i gives
  pub gives : result r j ≡ result r i
  -- the cells of i are in use where it begins
  pub behind : offset r j ≡ offset r i + needs r i

-- A break or continue in j is one in i.
abbrev pub Breaks : Rule → ℕ → ℕ → Type 0
Breaks r i j = looped r j ≡ true → looped r i ≡ true

-- The name of node i means the declaration d, a scalar or a parameter that is in force there.
pub record NamesScalar (r : Rule) (i d : ℕ) : Type 0 where
  -- what the name means
  pub meant : meant r.nodes i ≡ Some d
  -- a scalar or a parameter
  pub scalar : (kind_at r d ≡ 3) ⊎ (kind_at r d ≡ 6)
  -- in force at i
  pub seen : sees r i d ≡ true

-- ── Each kind ──

pub record GoodBlock (r : Rule) (i : ℕ) : Type 0 where
  -- the first statement is a child, where there is one
  pub first : first_statement r i < end r i → (k : ℕ) × (child r i k ≡ first_statement r i)
  -- every child from the first statement on is a statement
  pub inner : (k : ℕ) → has r i k ≡ true → first_statement r i ≤ child r i k → Inner r i (child r i k)
  -- a block is no loop
  pub breaks : (k : ℕ) → has r i k ≡ true → first_statement r i ≤ child r i k → Breaks r i (child r i k)

pub record GoodAssignment (r : Rule) (type : ℕ → Option Ty) (i : ℕ) : Type 0 where
  -- the type of both children
  pub sort : Ty
  -- the location
  pub left : Location r type i (child r i 0) sort
  -- the expression
  pub right : Expression r type i (child r i 1) sort
  -- `=`, or an operator that keeps that type
  pub op : ((node r i).tag ≡ 0) ⊎ ((p : Operator) × (0 < (node r i).tag) × (operator ((node r i).tag - 1) ≡ Some p) × (operator_type sort p ≡ Some sort))

pub record GoodStep (r : Rule) (type : ℕ → Option Ty) (i : ℕ) : Type 0 where
  -- the type of the location
  pub sort : Ty
  -- the location
  pub left : Location r type i (child r i 0) sort
  -- which is a number
  pub number : IsNumber sort
  -- one more or one less
  pub op : ((node r i).tag ≡ 0) ⊎ ((node r i).tag ≡ 1)

pub record GoodStatement (r : Rule) (i : ℕ) : Type 0 where
  -- its child is a call
  pub call : kind_at r (child r i 0) ≡ 22
  -- that sees what i sees
  pub names : SeesAs r i (child r i 0)

pub record GoodIf (r : Rule) (type : ℕ → Option Ty) (i : ℕ) : Type 0 where
  -- the condition
  pub test : Expression r type i (child r i 0) ty.Bool
  -- the arm
  pub arm : Inner r i (child r i 1)
  -- an if is no loop
  pub breaks : Breaks r i (child r i 1)
  -- the other arm, where there is one
  pub other : has r i 2 ≡ true → Inner r i (child r i 2)
  -- the same of it
  pub breaks_other : has r i 2 ≡ true → Breaks r i (child r i 2)

pub record GoodFor (r : Rule) (type : ℕ → Option Ty) (i : ℕ) : Type 0 where
  -- the index, a variable
  pub declaration : ℕ
  -- that the name means
  pub index : NamesScalar r i declaration
  -- its type
  pub sort : Ty
  -- as its tag tells
  pub typed : tagged (node r declaration).tag ≡ Some sort
  -- the first expression has that type
  pub first : Expression r type i (child r i 0) sort
  -- the condition
  pub test : Expression r type i (child r i 1) ty.Bool
  -- the third child is a statement
  pub third : Inner r i (child r i 2)
  -- an assignment or a step
  pub update : between 8 9 (kind_at r (child r i 2)) ≡ true
  -- the block
  pub block : Inner r i (child r i 3)

pub record GoodWhile (r : Rule) (type : ℕ → Option Ty) (i : ℕ) : Type 0 where
  -- the condition
  pub test : Expression r type i (child r i 0) ty.Bool
  -- the block
  pub block : Inner r i (child r i 1)

-- A return has an expression of the method's type, and none where the method is void.
abbrev pub GoodReturn : Option Ty → Bool → Rule → (ℕ → Option Ty) → ℕ → Type 0
GoodReturn None true r type i = ⊥
GoodReturn None false r type i = Unit {0}
GoodReturn (Some t) true r type i = Expression r type i (child r i 0) t
GoodReturn (Some t) false r type i = ⊥

pub record GoodLocation (r : Rule) (type : ℕ → Option Ty) (i : ℕ) : Type 0 where
  -- a scalar or parameter
  pub declaration : ℕ
  -- that its name means
  pub names : NamesScalar r i declaration
  -- and whose type it has
  pub typed : type i ≡ tagged (node r declaration).tag

pub record GoodElement (r : Rule) (type : ℕ → Option Ty) (i : ℕ) : Type 0 where
  -- the index is an int
  pub index : Expression r type i (child r i 0) ty.Int
  -- an array
  pub declaration : ℕ
  -- that its name means
  pub meant : meant r.nodes i ≡ Some declaration
  -- an array declaration
  pub array : kind_at r declaration ≡ 4
  -- in force there
  pub seen : sees r i declaration ≡ true
  -- whose type it has
  pub typed : type i ≡ tagged (node r declaration).tag

pub record GoodUnary (r : Rule) (type : ℕ → Option Ty) (i : ℕ) : Type 0 where
  -- a type
  pub sort : Ty
  -- its operand's
  pub operand : Expression r type i (child r i 0) sort
  -- and its own
  pub typed : type i ≡ Some sort
  -- minus of a number, or not of a truth
  pub op : (((node r i).tag ≡ 0) × IsNumber sort) ⊎ (((node r i).tag ≡ 1) × (sort ≡ ty.Bool))

pub record GoodCast (r : Rule) (type : ℕ → Option Ty) (i : ℕ) : Type 0 where
  -- the type of its operand
  pub sort : Ty
  -- the operand
  pub operand : Expression r type i (child r i 0) sort
  -- a number
  pub number : IsNumber sort
  -- to int or to long
  pub op : (((node r i).tag ≡ 1) × (type i ≡ Some ty.Int)) ⊎ (((node r i).tag ≡ 2) × (type i ≡ Some ty.Long))

pub record GoodLen (r : Rule) (type : ℕ → Option Ty) (i : ℕ) : Type 0 where
  -- an array
  pub declaration : ℕ
  -- that its name means
  pub meant : meant r.nodes i ≡ Some declaration
  -- an array declaration
  pub array : kind_at r declaration ≡ 4
  -- it is an int
  pub typed : type i ≡ Some ty.Int

pub record GoodBinary (r : Rule) (type : ℕ → Option Ty) (i : ℕ) : Type 0 where
  -- the type of both operands
  pub sort : Ty
  -- the left operand
  pub left : Expression r type i (child r i 0) sort
  -- the right operand
  pub right : Expression r type i (child r i 1) sort
  -- the operator
  pub op : Operator
  -- of its tag
  pub is_op : operator (node r i).tag ≡ Some op
  -- the type of the result
  pub made : Ty
  -- for operands of that type
  pub typed : operator_type sort op ≡ Some made
  -- is the type of the node
  pub type_is : type i ≡ Some made

-- An argument is an expression with a type, or a string.
pub record Argument (r : Rule) (type : ℕ → Option Ty) (i j : ℕ) : Type 0 where
  -- it sees what i sees
  pub names : SeesAs r i j
  -- an expression or a string
  pub is : ((t : Ty) × Expression r type i j t) ⊎ (kind_at r j ≡ 25)

-- A variable e that the body of method d sees: a field, in force at the call i too, or a parameter, whose place is its number.
abbrev pub BodySees : Rule → ℕ → ℕ → ℕ → Type 0
BodySees r i d e = ((is_field r e ≡ true) × (sees r i e ≡ true)) ⊎ ((q : ℕ) × (slice_get (parameters r d) q ≡ Some e) × (is_field r e ≡ false) × (place r.nodes e ≡ q) × (kind_at r e ≡ 6))

-- The call i of method d.
pub record GoodMethodCall (r : Rule) (type : ℕ → Option Ty) (i d : ℕ) : Type 0 where
  -- an argument for each parameter
  pub count : length (children r i) ≡ length (parameters r d)
  -- of its type
  pub arguments : (k p : ℕ) → slice_get (parameters r d) k ≡ Some p → (t : Ty) × (tagged (node r p).tag ≡ Some t) × Expression r type i (child r i k) t
  -- the call has the method's type
  pub typed : type i ≡ tagged (node r d).tag
  -- the body is a block
  pub is_block : kind_at r (body r.nodes d) ≡ 7
  -- outside any loop
  pub unlooped : looped r (body r.nodes d) ≡ false
  -- of that method
  pub gives : result r (body r.nodes d) ≡ tagged (node r d).tag
  -- whose cells come behind the parameters
  pub behind : offset r (body r.nodes d) ≡ length (parameters r d)
  -- it sees fields and the parameters
  pub names : (e : ℕ) → sees r (body r.nodes d) e ≡ true → BodySees r i d e

pub record GoodCall (r : Rule) (type : ℕ → Option Ty) (i : ℕ) : Type 0 where
  -- six arguments at most
  pub few : length (children r i) ≤ 6
  -- a child has a number below their count
  pub inside : (k : ℕ) → has r i k ≡ true → k < length (children r i)
  -- every number below their count is that of a child
  pub all : (k : ℕ) → has r i k ≡ false → length (children r i) ≤ k
  -- each child is an argument
  pub arguments : (k : ℕ) → has r i k ≡ true → Argument r type i (child r i k)
  -- what is called
  pub declaration : ℕ
  -- what its name means
  pub meant : meant r.nodes i ≡ Some declaration
  -- an import, which gives an int, or a method
  pub callee : ((kind_at r declaration ≡ 2) × (type i ≡ Some ty.Int)) ⊎ ((kind_at r declaration ≡ 5) × GoodMethodCall r type i declaration)

abbrev pub GoodBy : Kind → Rule → (ℕ → Option Ty) → ℕ → Type 0
GoodBy kind.Program r type i = Unit {0}
GoodBy kind.Import r type i = Unit {0}
GoodBy kind.ScalarDeclaration r type i = Unit {0}
GoodBy kind.ArrayDeclaration r type i = Unit {0}
GoodBy kind.Method r type i = Unit {0}
GoodBy kind.Parameter r type i = Unit {0}
GoodBy kind.Block r type i = GoodBlock r i
GoodBy kind.Assignment r type i = GoodAssignment r type i
GoodBy kind.Step r type i = GoodStep r type i
GoodBy kind.CallStatement r type i = GoodStatement r i
GoodBy kind.If r type i = GoodIf r type i
GoodBy kind.For r type i = GoodFor r type i
GoodBy kind.While r type i = GoodWhile r type i
GoodBy kind.Return r type i = GoodReturn (result r i) (has r i 0) r type i
GoodBy kind.Break r type i = looped r i ≡ true
GoodBy kind.Continue r type i = looped r i ≡ true
GoodBy kind.ScalarLocation r type i = GoodLocation r type i
GoodBy kind.ArrayLocation r type i = GoodElement r type i
GoodBy kind.Literal r type i = is_of (type i) (literal (node r i)) ≡ true
GoodBy kind.Unary r type i = GoodUnary r type i
GoodBy kind.Cast r type i = GoodCast r type i
GoodBy kind.Call r type i = GoodCall r type i
GoodBy kind.Len r type i = GoodLen r type i
GoodBy kind.Binary r type i = GoodBinary r type i
GoodBy kind.Text r type i = Unit {0}

abbrev pub Good : Rule → (ℕ → Option Ty) → ℕ → Type 0
Good r type i = GoodBy (node r i).kind r type i

-- The body of main.
abbrev pub main_body : Rule → ℕ
main_body r = body r.nodes (main r)

pub record GoodMain (r : Rule) : Type 0 where
  -- it is a block
  pub is_block : kind_at r (main_body r) ≡ 7
  -- outside any loop
  pub unlooped : looped r (main_body r) ≡ false
  -- of a void method
  pub void : result r (main_body r) ≡ None
  -- with no cells before it but the fields
  pub behind : offset r (main_body r) ≡ 0
  -- it sees fields only
  pub names : (d : ℕ) → sees r (main_body r) d ≡ true → (is_field r d ≡ true) × Declared r 0 d 0

-- A rule that was checked, with the types that the checks found.
pub record Checked (r : Rule) (type : ℕ → Option Ty) : Type 0 where
  -- the facts of each node
  pub nodes : (i : ℕ) → i < length r.nodes → Good r type i
  -- the facts of main
  pub main : GoodMain r
