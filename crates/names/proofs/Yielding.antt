-- What an iterator over children yields.
use Rattle.std.proofs.Common.{◌≡◌, ℕ, zero, suc, ◌+◌, ◌-◌, ◌≤◌, true, false, cond, ltb, List, [], ◌∷◌, length, inl, inr, arith}
use Rattle.std.proofs.lemmas.Bool.{cases_lt}
use Rattle.std.specs.Iterator.{YieldsFirstBy}
use Rattle.std.proofs.lemmas.Iterator.{YieldsList}
use Rattle.std.proofs.lemmas.Iterator.Consumers.{YieldsList-from_first}
use Rattle.nodes.specs.Tree.{children, children_from}
use Rattle.nodes.specs.declared.node.Node.{Node}
use Rattle.node_rules.specs.Tables.{end, parts}
use Rattle.names.specs.Walk.{Nested, kin}
use Rattle.names.specs.declared.nested.Children.{Children}
use Rattle.names.proofs.Nesting.{end_past}

abbrev pub left : Children → List ℕ
left s = kin s.nodes.list.now s.next s.stop

-- the children that are left
pub children_yield : {s : Children} (xs : List ℕ) → left s ≡ xs → YieldsList (YieldsFirstBy (λ (x : ℕ). x) left) (λ (x : ℕ). x) s xs
children_yield xs e = YieldsList-from_first (λ (x : ℕ). x) left xs e

from_few : (n : ℕ) (e : ℕ → ℕ) (j stop : ℕ) → length (children_from n e j stop) ≤ n
from_few zero e j stop = omega arith
from_few (suc n) e j stop =
    elim (ltb j stop) as (λ t. length (cond t (j ∷ children_from n e (e j) stop) []) ≤ suc n) [
      | true ↦ let r = from_few n e (e j) stop in omega arith
      | false ↦ omega arith
    ]

-- a node has no more children than there are nodes
pub parts_few : (ns : List Node) → Nested ns → (i : ℕ) → length (parts ns i) ≤ 1024
unfolding children
parts_few ns n i =
    let few = n.few in
    let f = from_few (end ns i - (i + 1)) (end ns) (i + 1) (end ns i) in
    elim (cases_lt i (length ns)) [
      | inl lt ↦ let w = n.spans.within i lt in omega arith
      | inr le ↦ let p = end_past ns i le in omega arith
    ]
