-- What a name means at a node, and where a variable's cells are.
--
-- The program is one scope, a method's parameters with the declarations of its body block are one, and every other block is one. A
-- declaration is in force at higher nodes of its scope, and so up to the end of its parent: a body block ends with its method. A name
-- means the declaration in force in the innermost scope, the lowest node there. Nothing here goes over the tree: what is in force at a
-- node is picked out of the numbers below it.
use Rattle.std.specs.Prelude.{ℕ, zero, suc, ◌+◌, Bool, false, cond, not, ◌&&◌, ◌||◌, List, [], ◌∷◌, ◌++◌, ℤ, pos, negsuc, Some, None, Option, ◌==◌, int_le, nat_lt}
use Rattle.nodes.specs.Kinds.{number, between}
use Rattle.nodes.specs.Tree.{parent, ancestors}
use Rattle.nodes.specs.declared.node.Node.{Node}
use Rattle.node_rules.specs.Tables.{node, kind_at, end, parts, any}
use Rattle.node_rules.specs.declared.binding.Binding.{Binding}
use Rattle.node_rules.specs.declared.context.Context.{Context}

-- The parent of node i.
abbrev pub above : List Node → ℕ → ℕ
above ns i = parent (end ns) i

-- Imports, declarations, methods and parameters declare their names.
abbrev pub declares : List Node → ℕ → Bool
declares ns d = between 2 6 (kind_at ns d)

-- For, scalar and array location, call and len use a name.
abbrev pub uses : List Node → ℕ → Bool
uses ns i = kind_at ns i == 12 || (between 17 18 (kind_at ns i) || between 22 23 (kind_at ns i))

-- A declaration's scope: its parent, but of a method's body block the method.
abbrev pub scope_in : List Node → ℕ → ℕ → ℕ
scope_in ns p q = cond (kind_at ns p == 7 && kind_at ns q == 5) q p

unfoldable pub scope : List Node → ℕ → ℕ
scope ns d = scope_in ns (above ns d) (above ns (above ns d))

-- A scalar has one cell, an array of N has N. (An array whose length does not fit 32 signed bits breaks a rule, and counts as none.)
abbrev pub fits_32 : ℤ → Bool
fits_32 v = int_le (negsuc 2147483647) v && int_le v (pos 2147483647)

abbrev pub natural : ℤ → ℕ
natural (pos n) = n
natural (negsuc n) = 0

abbrev pub is_variable : ℕ → Bool
is_variable k = between 3 4 k || k == 6

abbrev pub cells_of : Node → ℕ
cells_of n =
    cond (number n.kind == 4) (cond (fits_32 n.value) (natural n.value) 0) (cond (is_variable (number n.kind)) 1 0)

-- What is looked at of a declaration in force.
abbrev pub binding : List Node → ℕ → Binding
binding ns d = record { name = (node ns d).name; scope = scope ns d; node = d; cells = cells_of (node ns d) }

-- The declaration d, below i, is in force at i.
unfoldable pub lives : List Node → ℕ → ℕ → Bool
lives ns i d = declares ns d && nat_lt i (end ns (above ns d))

-- f of the numbers below n that pass a test, in ascending order
abbrev pub picked : {X : Type 0} → (ℕ → Bool) → (ℕ → X) → ℕ → List X
picked test f zero = []
picked test f (suc n) = picked test f n ++ cond (test n) (f n ∷ []) []

-- The declarations in force at node i.
unfoldable pub in_force : List Node → ℕ → List Binding
in_force ns i = picked (lives ns i) (binding ns) i

-- Of two declarations in force the one of the inner scope, and of one scope the lower.
abbrev pub inner : Option Binding → Binding → Option Binding
inner None b = Some b
inner (Some a) b = Some (cond (nat_lt a.scope b.scope) b a)

abbrev pub chosen : ℕ → Option Binding → List Binding → Option Binding
chosen name best [] = best
chosen name best (b ∷ bs) = chosen name (cond (b.name == name) (inner best b) best) bs

abbrev pub node_of : Option Binding → Option ℕ
node_of None = None
node_of (Some b) = Some b.node

-- The declaration that node i's name means there, where its kind has one. (At a declaration: what the name means before it.)
unfoldable pub meant : List Node → ℕ → Option ℕ
meant ns i =
    cond (declares ns i || uses ns i) (node_of (chosen (node ns i).name None (in_force ns i))) None

-- A lower declaration of the same scope has the same name: no scope lies further in, so the name means that one.
abbrev pub of_scope : List Node → ℕ → Option ℕ → Bool
of_scope ns s None = false
of_scope ns s (Some d) = scope ns d == s

unfoldable pub repeated : List Node → ℕ → Bool
repeated ns d = of_scope ns (scope ns d) (meant ns d)

-- Node i lies in a for or a while.
unfoldable pub in_loop : List Node → ℕ → Bool
in_loop ns i = any (λ a. between 12 13 (kind_at ns a)) (ancestors (end ns) i)

-- The method that node i lies in.
abbrev pub first_method : List Node → List ℕ → ℕ
first_method ns [] = 0
first_method ns (a ∷ rest) = cond (kind_at ns a == 5) a (first_method ns rest)

unfoldable pub method_of : List Node → ℕ → ℕ
method_of ns i = first_method ns (ancestors (end ns) i)

-- Cells of declarations in force: of all of them, or of those that are no fields.
abbrev pub cells_in : Bool → List Binding → ℕ
cells_in all [] = 0
cells_in all (b ∷ bs) = cond (all || not (b.scope == 0)) b.cells 0 + cells_in all bs

-- The place of a variable's first cell: a field's among the fields, any other's among the cells of its call. The cells of the variables
-- in force come before it.
unfoldable pub place : List Node → ℕ → ℕ
place ns d = cond (is_variable (kind_at ns d)) (cells_in (above ns d == 0) (in_force ns d)) 0

-- A method's body: its child that is a block.
abbrev pub first_block : List Node → List ℕ → ℕ
first_block ns [] = 0
first_block ns (c ∷ cs) = cond (kind_at ns c == 7) c (first_block ns cs)

unfoldable pub body : List Node → ℕ → ℕ
body ns m = cond (kind_at ns m == 5) (first_block ns (parts ns m)) 0

-- Where node i stands, and what its name means there.
unfoldable pub context : List Node → ℕ → Context
context ns i = record {
  parent = above ns i;
  scope = scope ns i;
  method = method_of ns i;
  looped = in_loop ns i;
  means = meant ns i;
  place = place ns i;
}
