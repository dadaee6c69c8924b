-- The tree of nodes in one row: each node stands before all that is below it, and its size counts both.
--
-- Everything is said of `e`, where `e i` is the end of node i: one past the last node that it spans. So the laws of the
-- tree need nothing of records and bytes.
use Rattle.std.specs.Prelude.{ℕ, zero, suc, ◌+◌, ◌-◌, Bool, cond, not, ◌||◌, List, [], ◌∷◌, length, ◌==◌, nat_le, nat_lt}

-- the highest node below n that spans i
abbrev pub holder : (ℕ → ℕ) → ℕ → ℕ → ℕ
holder e i zero = 0
holder e i (suc n) = cond (nat_lt i (e n)) n (holder e i n)

-- The parent of i: the innermost lower node that spans it.
unfoldable pub parent : (ℕ → ℕ) → ℕ → ℕ
parent e i = holder e i i

-- the nodes below n that span i, the innermost first
abbrev pub around : (ℕ → ℕ) → ℕ → ℕ → List ℕ
around e i zero = []
around e i (suc n) = cond (nat_lt i (e n)) (n ∷ around e i n) (around e i n)

unfoldable pub ancestors : (ℕ → ℕ) → ℕ → List ℕ
ancestors e i = around e i i

-- How many nodes up to i span it: node 0 has depth 1.
unfoldable pub depth : (ℕ → ℕ) → ℕ → ℕ
depth e i = length (around e i (suc i))

-- the children from j on, up to the end of their parent
abbrev pub children_from : ℕ → (ℕ → ℕ) → ℕ → ℕ → List ℕ
children_from zero e j end = []
children_from (suc n) e j end = cond (nat_lt j end) (j ∷ children_from n e (e j) end) []

-- The first child stands next to its parent, each further one where the one before ends.
unfoldable pub children : (ℕ → ℕ) → ℕ → List ℕ
children e i = children_from (e i - (i + 1)) e (i + 1) (e i)

-- Node 0 spans all n nodes; any other spans itself, and ends no further than its parent.
unfoldable pub bad_size : (ℕ → ℕ) → ℕ → ℕ → Bool
bad_size e n i = cond (i == 0) (not (e i == n)) (nat_le (e i) i || nat_lt (e (parent e i)) (e i))

-- No node lies deeper than 64, and so none has depth 65.
unfoldable pub too_deep : (ℕ → ℕ) → ℕ → Bool
too_deep e i = depth e i == 65
