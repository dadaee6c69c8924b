-- The twenty-three rules, each a test of one node; types; the first violation.
--
-- A rule looks at a node's own fields, at what its name means, at its children's types and at a few facts of where it stands
-- (`Facts`). Types come from the children up, which have higher numbers. The violation is that of the lowest node, and of that node
-- the lowest rule; after all rules come the cells of the program's own variables.
use Rattle.std.specs.Prelude.{ℕ, zero, suc, ◌+◌, ◌-◌, Bool, true, false, cond, not, ◌&&◌, ◌||◌, List, [], ◌∷◌, length, pos, is_some, Some, None, Option, ◌==◌, int_le, nat_le, nat_lt}
use Rattle.finding.specs.declared.Finding.{Finding}
use Rattle.std.specs.List.{find}
use Rattle.nodes.specs.Kinds.{number, between}
use Rattle.nodes.specs.declared.kind.Kind.{Kind}
use Rattle.nodes.specs.declared.kind.Kind.TheVariants.{Program, Import, ScalarDeclaration, ArrayDeclaration, Method, Parameter, Assignment, Step, CallStatement, For, Return, ScalarLocation, ArrayLocation, Literal, Unary, Cast, Call, Len, Binary, Text}
use Rattle.nodes.specs.declared.node.Node.{Node}
use Rattle.node_rules.specs.Tables.{Table, node, parts}
use Rattle.node_rules.specs.Scopes.{above, meant, repeated, in_loop, method_of, fits_32, cells_of}
use Rattle.node_rules.specs.Types.{tagged, fits, fits_asked, both_fit, of_one_type, of_one_number_type, has_type}
use Rattle.node_rules.specs.Violations.{rules}
use Rattle.node_rules.specs.declared.facts.Declared.{Declared}
use Rattle.node_rules.specs.declared.facts.Held.{Held}
use Rattle.node_rules.specs.declared.facts.Facts.{Facts}
use Rattle.node_rules.specs.declared.judge.Operation.{Operation}
use Rattle.node_rules.specs.declared.judge.Operation.TheVariants as does
use Rattle.node_rules.specs.declared.types.Ty.{Ty}
use Rattle.node_rules.specs.declared.types.Ty.TheVariants.{Int, Bool as Truth}
use Rattle.node_rules.specs.declared.violation.Violation.{Violation}
use Rattle.node_rules.specs.declared.violation.Violation.TheVariants.{RepeatedName, Undeclared, NoMain, EmptyArray, Arguments, VoidValue, StringArgument, ReturnedValue, MissingResult, NotScalar, NotCallable, NotElement, NotArray, Condition, Arithmetic, Equality, Logic, CastOperand, Assigned, Compound, Index, OutsideLoop, TooLarge, TooManyCells}

abbrev pub same_kind : Kind → Kind → Bool
same_kind a b = number a == number b

abbrev pub is : Kind → Facts → Bool
is k f = same_kind f.node.kind k

-- A name that is not declared counts as one that fits.
abbrev pub names_scalar : Option Declared → Bool
names_scalar None = true
names_scalar (Some d) = same_kind d.kind ScalarDeclaration || same_kind d.kind Parameter

abbrev pub names_array : Option Declared → Bool
names_array None = true
names_array (Some d) = same_kind d.kind ArrayDeclaration

abbrev pub names_callable : Option Declared → Bool
names_callable None = true
names_callable (Some d) = same_kind d.kind Import || same_kind d.kind Method

-- A declared method; one without a result.
abbrev pub names_method : Option Declared → Bool
names_method None = false
names_method (Some d) = same_kind d.kind Method

abbrev pub declared_type : Option Declared → Option Ty
declared_type None = None
declared_type (Some d) = d.ty

abbrev pub names_void : Option Declared → Bool
names_void m = names_method m && not (has_type (declared_type m))

-- Kinds 2 to 6 declare a name; for, locations, call and len use one.
abbrev pub is_declaration : Facts → Bool
is_declaration f = between 2 6 (number f.node.kind)

abbrev pub is_use : Facts → Bool
is_use f = is For f || (between 17 18 (number f.node.kind) || between 22 23 (number f.node.kind))

-- What the operator of a unary or binary expression does.
abbrev pub operation : Facts → Option Operation
operation f =
    cond (is Unary f) (Some (cond (f.node.tag == 0) does.Arithmetic does.Logic))
    (cond (is Binary f)
    (Some
    (cond (nat_le f.node.tag 4) does.Arithmetic
    (cond (nat_le f.node.tag 8) does.Order (cond (nat_le f.node.tag 10) does.Equality does.Logic))))
    None)

-- Minus, arithmetic and orders; equality; logical operators.
abbrev pub is_arithmetic : Facts → Bool
is_arithmetic f = (is Unary f && f.node.tag == 0) || (is Binary f && nat_le f.node.tag 8)

abbrev pub is_equality : Facts → Bool
is_equality f = is Binary f && between 9 10 f.node.tag

abbrev pub is_logical : Facts → Bool
is_logical f = (is Unary f && not (f.node.tag == 0)) || (is Binary f && nat_le 11 f.node.tag)

abbrev pub is_compound : Facts → Bool
is_compound f = is Step f || (is Assignment f && not (f.node.tag == 0))

-- The condition stands first, but in a for second.
abbrev pub condition : Facts → Option Ty
condition f = cond (is For f) f.held.second f.held.first

-- A value that must be an int: an int literal's, or an array's length.
abbrev pub is_int_constant : Facts → Bool
is_int_constant f = (is Literal f && f.node.tag == 1) || is ArrayDeclaration f

-- A for's index is an int or long scalar, and the first expression is of its type.
abbrev pub has_index : Facts → Bool
has_index f = names_scalar f.means && of_one_number_type (declared_type f.means) f.held.first

abbrev pub of_one : Facts → Bool
of_one f = of_one_type f.held.first f.held.second

abbrev pub of_one_number : Facts → Bool
of_one_number f = of_one_number_type f.held.first f.held.second

-- Rule v is broken at a node of which these are the facts.
abbrev pub broken_by : Violation → Facts → Bool
broken_by RepeatedName f = is_declaration f && f.repeats
broken_by Undeclared f = is_use f && not (is_some f.means)
broken_by NoMain f = is Program f && not f.main
broken_by EmptyArray f = is ArrayDeclaration f && int_le f.node.value (pos 0)
broken_by Arguments f = is Call f && (names_method f.means && not f.matching)
broken_by VoidValue f = is Call f && (names_void f.means && not (same_kind f.parent CallStatement))
broken_by StringArgument f = is Text f && names_method f.callee
broken_by ReturnedValue f = is Return f && (not (has_type f.result) && nat_lt 0 f.held.count)
broken_by MissingResult f =
    is Return f && (has_type f.result && not (nat_lt 0 f.held.count && fits_asked f.result f.held.first))
broken_by NotScalar f = is ScalarLocation f && not (names_scalar f.means)
broken_by NotCallable f = is Call f && not (names_callable f.means)
broken_by NotElement f = is ArrayLocation f && not (names_array f.means && fits Int f.held.first)
broken_by NotArray f = is Len f && not (names_array f.means)
broken_by Condition f = between 11 13 (number f.node.kind) && not (fits Truth (condition f))
broken_by Arithmetic f = is_arithmetic f && not (of_one_number f)
broken_by Equality f = is_equality f && not (of_one f)
broken_by Logic f = is_logical f && not (both_fit Truth f.held.first f.held.second)
broken_by CastOperand f = is Cast f && not (of_one_number f)
broken_by Assigned f = (is Assignment f && f.node.tag == 0) && not (of_one f)
broken_by Compound f = is_compound f && not (of_one_number f)
broken_by Index f = is For f && not (has_index f)
broken_by OutsideLoop f = between 15 16 (number f.node.kind) && not f.looped
broken_by TooLarge f = is_int_constant f && not (fits_32 f.node.value)
broken_by TooManyCells f = false

abbrev pub first_broken : List Violation → Facts → Option Violation
first_broken vs f = find (λ v. broken_by v f) vs

-- A call of an import gives an int.
abbrev pub call_type : Option Declared → Option Ty
call_type None = None
call_type (Some d) = cond (same_kind d.kind Import) (Some Int) d.ty

-- The type of an expression that breaks no rule and holds none without a type.
abbrev pub sound_type : Kind → Facts → Option Ty
sound_type k f =
    cond (between 17 18 (number k)) (declared_type f.means)
    (cond (same_kind k Literal) (tagged f.node.tag)
    (cond (same_kind k Unary) (cond (f.node.tag == 0) f.held.first (Some Truth))
    (cond (same_kind k Cast) (tagged f.node.tag)
    (cond (same_kind k Call) (call_type f.means)
    (cond (same_kind k Len) (Some Int)
    (cond (same_kind k Binary) (cond (nat_le f.node.tag 4) f.held.first (Some Truth)) None))))))

abbrev pub typed_unless : Option Violation → Facts → Option Ty
typed_unless broken f = cond (not (is_some broken) && f.held.typed) (sound_type f.node.kind f) None

abbrev pub typed : Facts → Option Ty
typed f = typed_unless (first_broken rules f) f

-- What a declaration is, for the nodes that mean it.
abbrev pub declared : List Node → Option ℕ → Option Declared
declared ns None = None
declared ns (Some d) = Some (record { kind = (node ns d).kind; ty = tagged (node ns d).tag })

-- A child of such a kind and type, and those after it. A string has no type, and needs none.
abbrev pub with_child : Kind → Option Ty → Held → Held
with_child k ty later = record {
  count = later.count + 1;
  first = ty;
  second = later.first;
  typed = (same_kind k Text || has_type ty) && later.typed;
}

-- What some children are, where τ gives the types.
abbrev pub held : List Node → (ℕ → Option Ty) → List ℕ → Held
held ns τ [] = record { count = 0; first = None; second = None; typed = true }
held ns τ (c ∷ cs) = with_child (node ns c).kind (τ c) (held ns τ cs)

-- A child of a method is a parameter, and the argument's type fits it.
abbrev pub takes : Node → Option Ty → Bool
takes p ty = same_kind p.kind Parameter && fits_asked (tagged p.tag) ty

-- The children of a method and a call's arguments: each argument fits a parameter, and none is left over.
abbrev pub matches : List Node → (ℕ → Option Ty) → List ℕ → List ℕ → Bool
matches ns τ [] [] = true
matches ns τ [] (c ∷ cs) = false
matches ns τ (p ∷ ps) [] = not (same_kind (node ns p).kind Parameter)
matches ns τ (p ∷ ps) (c ∷ cs) =
    takes (node ns p) (τ c) && matches ns τ ps cs

abbrev pub matching : List Node → (ℕ → Option Ty) → List ℕ → Option ℕ → Bool
matching ns τ cs None = true
matching ns τ cs (Some d) = matches ns τ (parts ns d) cs

abbrev pub facts : Table → (ℕ → Option Ty) → ℕ → Facts
facts t τ i = record {
  node = node t.nodes i;
  repeats = repeated t.nodes i;
  main = t.main;
  means = declared t.nodes (meant t.nodes i);
  held = held t.nodes τ (parts t.nodes i);
  matching = matching t.nodes τ (parts t.nodes i) (meant t.nodes i);
  parent = (node t.nodes (above t.nodes i)).kind;
  callee = declared t.nodes (meant t.nodes (above t.nodes i));
  result = tagged (node t.nodes (method_of t.nodes i)).tag;
  looped = in_loop t.nodes i;
}

abbrev pub typing : ℕ → Table → ℕ → Option Ty
typing zero t i = None
typing (suc n) t i = typed (facts t (typing n t) i)

-- The type of node i, if it has one.
unfoldable pub type_of : Table → ℕ → Option Ty
type_of t i = typing (length t.nodes - i) t i

abbrev pub facts_at : Table → ℕ → Facts
facts_at t i = facts t (type_of t) i

-- Rule v is broken at node i.
unfoldable pub broken : Table → ℕ → Violation → Bool
broken t i v = broken_by v (facts_at t i)

abbrev pub found : ℕ → Option Violation → Option (Finding Violation) → Option (Finding Violation)
found i None later = later
found i (Some v) later = Some (record { place = i; cause = v })

-- The first among the n nodes from i on.
abbrev pub first_from : Table → ℕ → ℕ → Option (Finding Violation)
first_from t i zero = None
first_from t i (suc n) = found i (first_broken rules (facts_at t i)) (first_from t (i + 1) n)

-- Cells of the program's own variables.
abbrev pub cells_all : List Node → List ℕ → ℕ
cells_all ns [] = 0
cells_all ns (d ∷ ds) = cells_of (node ns d) + cells_all ns ds

unfoldable pub field_cells : List Node → ℕ
field_cells ns = cells_all ns (parts ns 0)

abbrev pub or_cells : ℕ → Option (Finding Violation) → Option (Finding Violation)
or_cells cells (Some v) = Some v
or_cells cells None = cond (nat_lt 2048 cells) (Some (record { place = 0; cause = TooManyCells })) None

-- The first violation: the lowest node and of it the lowest rule, and then the cells.
unfoldable pub first_violation : Table → Option (Finding Violation)
first_violation t = or_cells (field_cells t.nodes) (first_from t 0 (length t.nodes))
