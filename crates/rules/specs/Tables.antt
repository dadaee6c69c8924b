-- A rule as a table: its nodes in order, and the texts of its names and strings.
--
-- The table of a file that keeps the layout has every node of it; what stands past the end, or for a kind that is unknown, is a
-- node that spans nothing.
use Rattle.std.specs.Prelude.{ℕ, zero, suc, ◌+◌, Bool, false, ◌||◌, List, [], ◌∷◌, ◌++◌, map, pos, slice_index_or}
use Rattle.std.specs.Option.{unwrap_or}
use Rattle.nodes.specs.Kinds.{number}
use Rattle.nodes.specs.Nodes.{count, node_at}
use Rattle.nodes.specs.declared.kind.Kind.TheVariants.{Program}
use Rattle.nodes.specs.declared.node.Node.{Node}
use Rattle.layout.specs.Head.{node_body}
use Rattle.layout.specs.Items.{text}
use Rattle.layout.specs.Items as items

pub record Table : Type 0 where
  pub nodes : List Node
  pub names : List (List ℕ)
  pub strings : List (List ℕ)

abbrev pub blank : Node
blank = record { kind = Program; tag = 0; name = 0; size = 0; value = pos 0 }

-- f 0, f 1 and so on, n in all
abbrev pub tabulate : {X : Type 0} → (ℕ → X) → ℕ → List X
tabulate f zero = []
tabulate f (suc n) = tabulate f n ++ f n ∷ []

unfoldable pub table_of : List ℕ → Table
table_of file = record {
  nodes = tabulate (λ i. unwrap_or (node_at (node_body file) i) blank) (count (node_body file));
  names = map text (items.names file);
  strings = map text (items.strings file);
}

abbrev pub node : Table → ℕ → Node
node t i = slice_index_or t.nodes i blank

-- The number of node i's kind.
abbrev pub kind_at : Table → ℕ → ℕ
kind_at t i = number (node t i).kind

abbrev pub end : Table → ℕ → ℕ
end t i = i + (node t i).size

abbrev pub any : (ℕ → Bool) → List ℕ → Bool
any test [] = false
any test (x ∷ xs) = test x || any test xs
