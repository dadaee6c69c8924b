-- What follows of every node where no size is at fault, and where no node lies too deep.
use Rattle.std.specs.Prelude.{◌≡◌, ℕ, ◌+◌, ◌<◌, ◌≤◌, Bool, true, false, ◌||◌, List, [], ◌∷◌, ◌==◌}
use Rattle.nodes.specs.Tree.{parent, ancestors, depth, children}

-- `e i` is the end of node i, and there are n nodes.
pub record Spanned (e : ℕ → ℕ) (n : ℕ) : Type 0 where
  pub whole : e 0 ≡ n
  pub sized : (i : ℕ) → i < n → i < e i
  pub within : (i : ℕ) → i < n → e i ≤ n
  -- what begins in a node ends in it
  pub nested : (i j : ℕ) → i < n → i < j → j < e i → e j ≤ e i
  pub upward : (i : ℕ) → 0 < i → i < n → ancestors e i ≡ parent e i ∷ ancestors e (parent e i)
  pub lower : (i : ℕ) → 0 < i → i < n → parent e i < i
  pub top : depth e 0 ≡ 1
  pub deeper : (i : ℕ) → 0 < i → i < n → depth e i ≡ depth e (parent e i) + 1

abbrev pub Shallow : (ℕ → ℕ) → ℕ → Type 0
Shallow e n = (i : ℕ) → i < n → depth e i ≤ 64

abbrev pub elem : ℕ → List ℕ → Bool
elem j [] = false
elem j (x ∷ xs) = j == x || elem j xs

-- The nodes follow one another from j on: each begins where the one before ends, and the last ends at the given end.
abbrev pub Chain : (ℕ → ℕ) → ℕ → ℕ → List ℕ → Type 0
Chain e j end [] = j ≡ end
Chain e j end (c ∷ cs) = (c ≡ j) × ((j < end) × Chain e (e j) end cs)

-- Children and parents.
pub record Family (e : ℕ → ℕ) (n : ℕ) : Type 0 where
  -- the first child is next to its parent, and the last ends with it
  pub ordered : (i : ℕ) → i < n → Chain e (i + 1) (e i) (children e i)
  pub parent_of : (i j : ℕ) → i < n → elem j (children e i) ≡ true → parent e j ≡ i
  pub child_of : (j : ℕ) → 0 < j → j < n → elem j (children e (parent e j)) ≡ true
