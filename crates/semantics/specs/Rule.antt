-- A rule as it runs: its nodes with their children, its names and strings, and where the cells of its variables are.
--
-- What a name means, where a variable stands among the cells of its call and which block is a method's body are the definitions of the
-- crate `rules`; they are used here and not said again. Names and strings are kept as the file has them, each behind its length byte.
-- The functions are total: what they give for a node that is not there is of no account, since no node of an accepted rule leads there.
use Rattle.std.specs.Prelude.{ℕ, zero, suc, ◌+◌, Bool, true, false, cond, List, [], ◌∷◌, Option, ◌==◌, nat_lt}
use Rattle.nodes.specs.Kinds.{between}
use Rattle.nodes.specs.declared.node.Node.{Node}
use Rattle.layout.specs.Items.{text_at}
use Rattle.layout.specs.Items as items
use Rattle.node_rules.specs.Tables.{nodes_of, parts, is_main}
use Rattle.node_rules.specs.Tables as table
use Rattle.node_rules.specs.Scopes.{above, place}

pub record Rule : Type 0 where
  pub nodes : List Node
  pub names : List (List ℕ)
  pub strings : List (List ℕ)

-- The rule of a file.
abbrev pub rule_of : List ℕ → Rule
rule_of file = record { nodes = nodes_of file; names = items.names file; strings = items.strings file }

abbrev pub node : Rule → ℕ → Node
node r i = table.node r.nodes i

-- The number of node i's kind.
abbrev pub kind_at : Rule → ℕ → ℕ
kind_at r i = table.kind_at r.nodes i

-- Node i and all below it are the nodes from i up to here.
abbrev pub end : Rule → ℕ → ℕ
end r i = table.end r.nodes i

-- Child k of node i, counted from 0: the first stands next to its parent, each further one where the one before ends.
abbrev pub child : Rule → ℕ → ℕ → ℕ
child r i zero = i + 1
child r i (suc k) = end r (child r i k)

-- Whether node i has a child k.
abbrev pub has : Rule → ℕ → ℕ → Bool
has r i k = nat_lt (child r i k) (end r i)

abbrev pub children : Rule → ℕ → List ℕ
children r i = parts r.nodes i

-- The first of these nodes that is no declaration, or `otherwise`.
abbrev pub past_declarations : Rule → ℕ → List ℕ → ℕ
past_declarations r otherwise [] = otherwise
past_declarations r otherwise (c ∷ cs) =
    elim (between 3 4 (kind_at r c)) [ true ↦ past_declarations r otherwise cs | false ↦ c ]

-- The first statement of block i, or the block's end where it has none.
abbrev pub first_statement : Rule → ℕ → ℕ
first_statement r i = past_declarations r (end r i) (children r i)

-- Those nodes at the front that are parameters.
abbrev pub leading : Rule → List ℕ → List ℕ
leading r [] = []
leading r (c ∷ cs) = elim (kind_at r c == 6) [ true ↦ c ∷ leading r cs | false ↦ [] ]

-- The parameters of method m.
abbrev pub parameters : Rule → ℕ → List ℕ
parameters r m = leading r (children r m)

-- The fields are the variables of the program itself.
abbrev pub is_field : Rule → ℕ → Bool
is_field r d = above r.nodes d == 0

-- The first cell of variable d, where the cells of the call begin at f. The cells of the fields begin at 0.
unfoldable pub address : Rule → ℕ → ℕ → ℕ
address r f d = cond (is_field r d) 0 f + place r.nodes d

-- The bytes of node i's name, and of string t.
abbrev pub name_of : Rule → ℕ → Option (List ℕ)
name_of r i = text_at r.names (node r i).name

abbrev pub string_of : Rule → ℕ → Option (List ℕ)
string_of r t = text_at r.strings t

-- The first of these nodes that is a void method main without parameters.
abbrev pub first_main : Rule → List ℕ → ℕ
first_main r [] = 0
first_main r (m ∷ ms) = elim (is_main r.nodes r.names m) [ true ↦ m | false ↦ first_main r ms ]

-- The method with which a run begins.
unfoldable pub main : Rule → ℕ
main r = first_main r (children r 0)
