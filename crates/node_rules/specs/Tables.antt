-- A rule as a table: its nodes in order, and whether it has a method main to begin with.
--
-- The table of a file that keeps the layout has every node of it; what stands past the end, or for a kind that is unknown, is a
-- node that spans nothing.
use Rattle.std.specs.Prelude.{ℕ, zero, suc, ◌+◌, Bool, false, not, ◌&&◌, ◌||◌, List, [], ◌∷◌, ◌++◌, pos, Some, None, codes, Option, ◌==◌, slice_index_or}
use Rattle.std.specs.Option.{unwrap_or}
use Rattle.std.specs.Str.{bytes_eq}
use Rattle.nodes.specs.Kinds.{number}
use Rattle.nodes.specs.Nodes.{count, node_at}
use Rattle.nodes.specs.Tree.{children}
use Rattle.nodes.specs.declared.kind.Kind.TheVariants.{Program}
use Rattle.nodes.specs.declared.node.Node.{Node}
use Rattle.layout.specs.Head.{node_body}
use Rattle.layout.specs.Items.{text_at}
use Rattle.layout.specs.Items as items

pub record Table : Type 0 where
  pub nodes : List Node
  pub main : Bool

abbrev pub blank : Node
blank = record { kind = Program; tag = 0; name = 0; size = 0; value = pos 0 }

abbrev pub node : List Node → ℕ → Node
node ns i = slice_index_or ns i blank

-- The number of node i's kind.
abbrev pub kind_at : List Node → ℕ → ℕ
kind_at ns i = number (node ns i).kind

abbrev pub end : List Node → ℕ → ℕ
end ns i = i + (node ns i).size

-- The children of node i, in order.
abbrev pub parts : List Node → ℕ → List ℕ
parts ns i = children (end ns) i

abbrev pub any : (ℕ → Bool) → List ℕ → Bool
any test [] = false
any test (x ∷ xs) = test x || any test xs

-- f 0, f 1 and so on, n in all
abbrev pub tabulate : {X : Type 0} → (ℕ → X) → ℕ → List X
tabulate f zero = []
tabulate f (suc n) = tabulate f n ++ f n ∷ []

unfoldable pub nodes_of : List ℕ → List Node
nodes_of file = tabulate (λ i. unwrap_or (node_at (node_body file) i) blank) (count (node_body file))

abbrev pub spells : List ℕ → Option (List ℕ) → Bool
spells word None = false
spells word (Some name) = bytes_eq name word

-- Node m is a void method main without parameters, where these are the names.
abbrev pub is_main : List Node → List (List ℕ) → ℕ → Bool
is_main ns names m =
    (kind_at ns m == 5)
    && ((node ns m).tag == 0
    && (not (kind_at ns (m + 1) == 6) && spells (codes "main") (text_at names (node ns m).name)))

-- One is among the program's children.
abbrev pub has_main : List Node → List (List ℕ) → Bool
has_main ns names = any (is_main ns names) (parts ns 0)

unfoldable pub table_of : List ℕ → Table
table_of file = record { nodes = nodes_of file; main = has_main (nodes_of file) (items.names file) }
