-- The twenty-three rules, each a test of one node; types; the first violation.
--
-- A rule looks at a node's own fields, at what its name means, at the kinds and types of its children and at a few facts of
-- where it stands (`Facts`). Types come from the children up, which have higher numbers. The violation is that of the lowest
-- node, and of that node the lowest rule; after all rules come the cells of the program's own variables.
use Rattle.std.specs.Prelude.{ℕ, zero, suc, ◌+◌, ◌-◌, Bool, true, false, cond, not, ◌&&◌, ◌||◌, List, [], ◌∷◌, map, length, ℤ, pos, negsuc, is_some, Some, None, codes, Option, ◌==◌, int_le, nat_le, nat_lt, slice_index_or}
use Rattle.std.specs.Str.{bytes_eq}
use Rattle.finding.specs.declared.Finding.{Finding}
use Rattle.nodes.specs.Kinds.{between}
use Rattle.nodes.specs.Tree.{parent, children}
use Rattle.rules.specs.Tables.{Table, node, kind_at, end, any}
use Rattle.rules.specs.Scopes.{meant, repeated, in_loop, method_of}
use Rattle.rules.specs.Types.{tagged, fits, all_fit, of_one_type, of_one_number_type, fit_each, has_type}
use Rattle.rules.specs.Violations.{rules}
use Rattle.node_rules.specs.declared.types.Ty.{Ty}
use Rattle.node_rules.specs.declared.types.Ty.TheVariants.{Int, Bool as Truth}
use Rattle.node_rules.specs.declared.violation.Violation.{Violation}
use Rattle.node_rules.specs.declared.violation.Violation.TheVariants.{RepeatedName, Undeclared, NoMain, EmptyArray, Arguments, VoidValue, StringArgument, ReturnedValue, MissingResult, NotScalar, NotCallable, NotElement, NotArray, Condition, Arithmetic, Equality, Logic, CastOperand, Assigned, Compound, Index, OutsideLoop, TooLarge, TooManyCells}

-- What a name means: nothing that is declared, or a declaration of this kind and type, with the types of its parameters.
pub record Meaning : Type 0 where
  pub declared : Bool
  pub kind : ℕ
  pub type : Option Ty
  pub parameters : List (Option Ty)

-- What the rules look at.
pub record Facts : Type 0 where
  pub kind : ℕ
  pub tag : ℕ
  pub value : ℤ
  pub repeats : Bool
  pub main : Bool
  pub means : Meaning
  pub kinds : List ℕ
  pub types : List (Option Ty)
  pub parent_kind : ℕ
  pub parent_means : Meaning
  pub result : Option Ty
  pub looped : Bool

abbrev pub is : ℕ → Facts → Bool
is k f = f.kind == k

-- The name is not declared, or means a declaration of a kind from a to b.
abbrev pub means_between : ℕ → ℕ → Meaning → Bool
means_between a b m = not m.declared || between a b m.kind

-- It names a scalar: a scalar declaration or a parameter.
abbrev pub means_scalar : Meaning → Bool
means_scalar m = means_between 3 3 m || means_between 6 6 m

abbrev pub names_method : Meaning → Bool
names_method m = m.declared && m.kind == 5

abbrev pub fits_32 : ℤ → Bool
fits_32 v = int_le (negsuc 2147483647) v && int_le v (pos 2147483647)

abbrev pub nth : List (Option Ty) → ℕ → Option Ty
nth ts k = slice_index_or ts k None

-- The condition stands first, but in a for second.
abbrev pub condition : Facts → Option Ty
condition f = nth f.types (cond (is 12 f) 1 0)

-- Minus, arithmetic and orders; equality; logical operators.
abbrev pub is_arithmetic : Facts → Bool
is_arithmetic f = (is 20 f && f.tag == 0) || (is 24 f && nat_le f.tag 8)

abbrev pub is_equality : Facts → Bool
is_equality f = is 24 f && between 9 10 f.tag

abbrev pub is_logical : Facts → Bool
is_logical f = (is 20 f && f.tag == 1) || (is 24 f && nat_le 11 f.tag)

abbrev pub broken_by : Violation → Facts → Bool
broken_by RepeatedName f = between 2 6 f.kind && f.repeats
broken_by Undeclared f =
    (is 12 f || (between 17 18 f.kind || between 22 23 f.kind)) && not f.means.declared
broken_by NoMain f = is 1 f && not f.main
broken_by EmptyArray f = is 4 f && int_le f.value (pos 0)
broken_by Arguments f = is 22 f && (names_method f.means && not (fit_each f.means.parameters f.types))
broken_by VoidValue f =
    is 22 f && (names_method f.means && (not (has_type f.means.type) && not (f.parent_kind == 10)))
broken_by StringArgument f = is 25 f && names_method f.parent_means
broken_by ReturnedValue f = is 14 f && (not (has_type f.result) && nat_le 1 (length f.kinds))
broken_by MissingResult f = is 14 f && (has_type f.result && not (fit_each (f.result ∷ []) f.types))
broken_by NotScalar f = is 17 f && not (means_scalar f.means)
broken_by NotCallable f = is 22 f && not (means_between 2 2 f.means || means_between 5 5 f.means)
broken_by NotElement f = is 18 f && not (means_between 4 4 f.means && fits Int (nth f.types 0))
broken_by NotArray f = is 23 f && not (means_between 4 4 f.means)
broken_by Condition f = between 11 13 f.kind && not (fits Truth (condition f))
broken_by Arithmetic f = is_arithmetic f && not (of_one_number_type f.types)
broken_by Equality f = is_equality f && not (of_one_type f.types)
broken_by Logic f = is_logical f && not (all_fit Truth f.types)
broken_by CastOperand f = is 21 f && not (of_one_number_type f.types)
broken_by Assigned f = (is 8 f && f.tag == 0) && not (of_one_type f.types)
broken_by Compound f = (is 9 f || (is 8 f && nat_le 1 f.tag)) && not (of_one_number_type f.types)
broken_by Index f =
    is 12 f && not (means_scalar f.means && of_one_number_type (f.means.type ∷ nth f.types 0 ∷ []))
broken_by OutsideLoop f = between 15 16 f.kind && not f.looped
broken_by TooLarge f = ((is 19 f && f.tag == 1) || is 4 f) && not (fits_32 f.value)
broken_by TooManyCells f = false

abbrev pub first_broken : List Violation → Facts → Option Violation
first_broken [] f = None
first_broken (v ∷ vs) f = cond (broken_by v f) (Some v) (first_broken vs f)

-- The type of an expression that breaks no rule and holds none without a type.
abbrev pub operand : Facts → Option Ty
operand f = nth f.types 0

abbrev pub sound_type : Facts → Option Ty
sound_type f =
    cond (between 17 18 f.kind) f.means.type
    (cond (is 19 f) (tagged f.tag)
    (cond (is 20 f) (cond (f.tag == 0) (operand f) (Some Truth))
    (cond (is 21 f) (tagged f.tag)
    (cond (is 22 f) (cond (f.means.kind == 2) (Some Int) f.means.type)
    (cond (is 23 f) (Some Int)
    (cond (is 24 f) (cond (nat_le f.tag 4) (operand f) (Some Truth)) None))))))

-- Every child that is an expression has a type; a string is none.
abbrev pub all_typed : List ℕ → List (Option Ty) → Bool
all_typed [] ts = true
all_typed (k ∷ ks) [] = true
all_typed (k ∷ ks) (t ∷ ts) = (k == 25 || has_type t) && all_typed ks ts

abbrev pub typed : Facts → Option Ty
typed f = cond (is_some (first_broken rules f) || not (all_typed f.kinds f.types)) None (sound_type f)

-- What a declaration is, for the nodes that mean it.
abbrev pub parameter_types : Table → List ℕ → List (Option Ty)
parameter_types t [] = []
parameter_types t (c ∷ cs) = cond (kind_at t c == 6) (tagged (node t c).tag ∷ parameter_types t cs) (parameter_types t cs)

abbrev pub meaning_of : Table → Option ℕ → Meaning
meaning_of t None = record { declared = false; kind = 0; type = None; parameters = [] }
meaning_of t (Some d) = record {
  declared = true;
  kind = kind_at t d;
  type = tagged (node t d).tag;
  parameters = parameter_types t (children (end t) d);
}

-- A void method main without parameters is among the program's children.
abbrev pub is_main : Table → ℕ → Bool
is_main t m =
    (kind_at t m == 5)
    && ((node t m).tag == 0
    && (bytes_eq (slice_index_or t.names (node t m).name []) (codes "main") && not (kind_at t (m + 1) == 6)))

abbrev pub has_main : Table → Bool
has_main t = any (is_main t) (children (end t) 0)

abbrev pub facts : Table → ℕ → List (Option Ty) → Facts
facts t i ts = record {
  kind = kind_at t i;
  tag = (node t i).tag;
  value = (node t i).value;
  repeats = repeated t i;
  main = has_main t;
  means = meaning_of t (meant t i);
  kinds = map (kind_at t) (children (end t) i);
  types = ts;
  parent_kind = kind_at t (parent (end t) i);
  parent_means = meaning_of t (meant t (parent (end t) i));
  result = tagged (node t (method_of t i)).tag;
  looped = in_loop t i;
}

abbrev pub typing : ℕ → Table → ℕ → Option Ty
typing zero t i = None
typing (suc n) t i = typed (facts t i (map (typing n t) (children (end t) i)))

-- The type of node i, if it has one.
unfoldable pub type_of : Table → ℕ → Option Ty
type_of t i = typing (length t.nodes - i) t i

abbrev pub facts_at : Table → ℕ → Facts
facts_at t i = facts t i (map (type_of t) (children (end t) i))

-- Rule v is broken at node i.
unfoldable pub broken : Table → ℕ → Violation → Bool
broken t i v = broken_by v (facts_at t i)

abbrev pub found : ℕ → Option Violation → Option (Finding Violation) → Option (Finding Violation)
found i None later = later
found i (Some v) later = Some (record { place = i; cause = v })

-- The first among the n nodes from i on.
abbrev pub first_from : Table → ℕ → ℕ → Option (Finding Violation)
first_from t i zero = None
first_from t i (suc n) = found i (first_broken rules (facts_at t i)) (first_from t (i + 1) n)

-- Cells of the program's own variables: one for a scalar, the length for an array.
abbrev pub natural : ℤ → ℕ
natural (pos n) = n
natural (negsuc n) = 0

abbrev pub cells_of : Table → ℕ → ℕ
cells_of t d = cond (kind_at t d == 3) 1 (cond (kind_at t d == 4) (natural (node t d).value) 0)

abbrev pub cells_in : Table → List ℕ → ℕ
cells_in t [] = 0
cells_in t (d ∷ ds) = cells_of t d + cells_in t ds

abbrev pub field_cells : Table → ℕ
field_cells t = cells_in t (children (end t) 0)

abbrev pub or_cells : Table → Option (Finding Violation) → Option (Finding Violation)
or_cells t (Some v) = Some v
or_cells t None = cond (nat_lt 2048 (field_cells t)) (Some (record { place = 0; cause = TooManyCells })) None

-- The first violation: the lowest node and of it the lowest rule, and then the cells.
unfoldable pub first_violation : Table → Option (Finding Violation)
first_violation t = or_cells t (first_from t 0 (length t.nodes))
