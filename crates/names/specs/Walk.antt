-- Nodes within nodes, and what the walk over the names promises: inner contracts, over the definitions of scopes.
use Rattle.std.specs.Prelude.{◌≡◌, ℕ, ◌+◌, ◌-◌, ◌<◌, ◌≤◌, false, cond, ◌||◌, List, [], ◌∷◌, ◌++◌, length, take, None, Option, ◌==◌, slice_index_or}
use Rattle.nodes.specs.Kinds.{between}
use Rattle.nodes.specs.Tree.{children_from}
use Rattle.nodes.specs.declared.node.Node.{Node}
use Rattle.tree.specs.Spans.{Spanned}
use Rattle.node_rules.specs.Tables.{kind_at, end}
use Rattle.node_rules.specs.Scopes.{declares, binding, in_force, context}
use Rattle.node_rules.specs.declared.binding.Binding.{Binding}
use Rattle.node_rules.specs.declared.context.Context.{Context}

-- A rule's nodes: a program, at most 1,024 nodes, each within its parent.
pub record Nested (ns : List Node) : Type 0 where
  pub some : 0 < length ns
  pub few : length ns ≤ 1024
  pub program : kind_at ns 0 ≡ 1
  pub spans : Spanned (end ns) (length ns)

-- The children from j on, of a node that ends at stop.
unfoldable pub kin : List Node → ℕ → ℕ → List ℕ
kin ns j stop = children_from (stop - j) (end ns) j stop

-- Node i spans j, and no node between them does: j is a child of i.
pub record Child (e : ℕ → ℕ) (i j : ℕ) : Type 0 where
  pub lower : i < j
  pub spans : j < e i
  pub past : (p : ℕ) → i < p → p < j → e p ≤ j

-- what stands where nothing was written
abbrev pub vacant : Context
vacant = record { parent = 0; scope = 0; method = 0; looped = false; means = None; place = 0 }

-- The context of a node whose parent has this kind and context, and that is within this scope.
abbrev pub inherited : ℕ → Context → ℕ → ℕ → Option ℕ → ℕ → Context
inherited kind outer p within means cell = record {
  parent = p;
  scope = within;
  method = cond (kind == 5) p outer.method;
  looped = between 12 13 kind || outer.looped;
  means = means;
  place = cell;
}

-- The contexts of all nodes below m are written.
abbrev pub Known : List Node → List Context → ℕ → Type 0
Known ns contexts m = (k : ℕ) → k < m → slice_index_or contexts k vacant ≡ context ns k

-- The name that a node itself brings into force.
abbrev pub own : List Node → ℕ → List Binding
own ns i = cond (declares ns i) (binding ns i ∷ []) []

-- The walk stands before node i: the bindings in use are the names in force there.
pub record Ready (ns : List Node) (bindings : List Binding) (contexts : List Context) (used i : ℕ) : Type 0 where
  pub room : (length bindings ≡ 1024) × (length contexts ≡ 1024)
  pub fits : used ≤ i
  pub names : take used bindings ≡ in_force ns i
  pub known : Known ns contexts i

-- Node i is entered: it is known, and its own name is in force.
pub record Entered (ns : List Node) (bindings : List Binding) (contexts : List Context) (used i : ℕ) : Type 0 where
  pub room : (length bindings ≡ 1024) × (length contexts ≡ 1024)
  pub fits : used ≤ i + 1
  pub names : i + 1 < end ns i → take used bindings ≡ in_force ns (i + 1)
  pub known : Known ns contexts (i + 1)

-- All nodes below m are known, and the bindings in use are as they were, with some more.
pub record Walked (ns : List Node) (m : ℕ) (more : List Binding) (bindings : List Binding) (used : ℕ) (bindings' : List Binding) (contexts' : List Context) (used' : ℕ) : Type 0 where
  pub room : (length bindings' ≡ 1024) × (length contexts' ≡ 1024)
  pub count : used' ≡ used + length more
  pub names : take used' bindings' ≡ take used bindings ++ more
  pub known : Known ns contexts' m
