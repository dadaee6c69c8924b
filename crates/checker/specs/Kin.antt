-- Types that are known: inner contracts of the pass over the nodes.
use Rattle.std.specs.Prelude.{◌≡◌, ℕ, ◌<◌, ◌≤◌, Bool, ◌||◌, List, length, Some, None, Option, slice_index_or}
use Rattle.nodes.specs.declared.node.Node.{Node}
use Rattle.nodes.specs.declared.kind.Kind.TheVariants.{Text}
use Rattle.node_rules.specs.Tables.{Table, node}
use Rattle.node_rules.specs.Scopes.{above, scope, method_of, in_loop, meant, context}
use Rattle.node_rules.specs.Types.{has_type}
use Rattle.node_rules.specs.Rules.{same_kind, type_of}
use Rattle.node_rules.specs.declared.context.Context.{Context}
use Rattle.node_rules.specs.declared.types.Ty.{Ty}

-- The types that a table gives.
abbrev pub told : List (Option Ty) → ℕ → Option Ty
told types k = slice_index_or types k None

-- The type of a node, if there is one.
abbrev pub told_of : List (Option Ty) → Option ℕ → Option Ty
told_of types None = None
told_of types (Some j) = told types j

-- Node j has a type, or is a string, which needs none.
abbrev pub is_typed : List Node → List (Option Ty) → ℕ → Bool
is_typed ns types j = same_kind (node ns j).kind Text || has_type (told types j)

abbrev pub table : List Node → Bool → Table
table ns main = record { nodes = ns; main = main }

-- The types of the nodes from i on are told.
abbrev pub TypedFrom : Table → List (Option Ty) → ℕ → Type 0
TypedFrom t types i = (k : ℕ) → i ≤ k → k < length t.nodes → told types k ≡ type_of t k

-- What is known of node i, with the nodes that it names within the table.
pub record Placed (ns : List Node) (i : ℕ) (c : Context) : Type 0 where
  pub is : c ≡ context ns i
  pub parent : c.parent ≡ above ns i
  pub scope : c.scope ≡ scope ns i
  pub method : c.method ≡ method_of ns i
  pub looped : c.looped ≡ in_loop ns i
  pub means : c.means ≡ meant ns i
  pub parent_inside : c.parent < length ns
  pub method_inside : c.method < length ns
  pub means_inside : (d : ℕ) → c.means ≡ Some d → d < length ns
