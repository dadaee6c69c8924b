-- What a name means at a node.
--
-- The program is one scope, a method's parameters with the declarations of its body block are one, and every other block is one. A
-- declaration is in force at higher nodes of its scope. A name means the declaration in force in the innermost scope, the lowest
-- node there. Nothing here goes over the tree: a scope is told by its node, and what it spans by that node's end.
use Rattle.std.specs.Prelude.{ℕ, zero, suc, Bool, false, cond, ◌&&◌, ◌||◌, List, [], ◌∷◌, Some, None, Option, ◌==◌, nat_lt}
use Rattle.nodes.specs.Kinds.{between}
use Rattle.nodes.specs.Tree.{parent, ancestors}
use Rattle.rules.specs.Tables.{Table, node, kind_at, end, any}

-- Imports, declarations, methods and parameters declare their names.
abbrev pub declares : Table → ℕ → Bool
declares t d = between 2 6 (kind_at t d)

-- A declaration's scope: its parent, but of a method's body block the method.
abbrev pub scope_in : Table → ℕ → ℕ → ℕ
scope_in t p q = cond (kind_at t p == 7 && kind_at t q == 5) q p

unfoldable pub scope : Table → ℕ → ℕ
scope t d = scope_in t (parent (end t) d) (parent (end t) (parent (end t) d))

-- Node d declares the name with this number, and is in force at node i.
abbrev pub in_force : Table → ℕ → ℕ → ℕ → Bool
in_force t name i d =
    declares t d && ((node t d).name == name && (nat_lt d i && nat_lt i (end t (scope t d))))

-- Of two declarations in force the one of the inner scope, and of one scope the lower.
abbrev pub inner : Table → Option ℕ → ℕ → Option ℕ
inner t None d = Some d
inner t (Some b) d = cond (nat_lt (scope t b) (scope t d)) (Some d) (Some b)

abbrev pub meant_below : Table → ℕ → ℕ → ℕ → Option ℕ
meant_below t name i zero = None
meant_below t name i (suc d) = cond (in_force t name i d) (inner t (meant_below t name i d) d) (meant_below t name i d)

-- The declaration that node i's name means there.
unfoldable pub meant : Table → ℕ → Option ℕ
meant t i = meant_below t (node t i).name i i

abbrev pub repeats_below : Table → ℕ → ℕ → Bool
repeats_below t d zero = false
repeats_below t d (suc j) =
    (declares t j && ((node t j).name == (node t d).name && scope t j == scope t d)) || repeats_below t d j

-- A lower declaration of the same scope has the same name.
unfoldable pub repeated : Table → ℕ → Bool
repeated t d = repeats_below t d d

-- Node i lies in a for or a while.
unfoldable pub in_loop : Table → ℕ → Bool
in_loop t i = any (λ a. between 12 13 (kind_at t a)) (ancestors (end t) i)

-- The method that node i lies in.
abbrev pub first_method : Table → List ℕ → ℕ
first_method t [] = 0
first_method t (a ∷ rest) = cond (kind_at t a == 5) a (first_method t rest)

unfoldable pub method_of : Table → ℕ → ℕ
method_of t i = first_method t (ancestors (end t) i)
