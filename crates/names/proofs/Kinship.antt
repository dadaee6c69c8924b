-- Children one by one: how much of a node is left does not matter, if it is enough.
use Rattle.std.proofs.Common.{◌≡◌, ℕ, zero, suc, ◌+◌, ◌-◌, ◌<◌, ◌≤◌, List, [], ◌∷◌, length, min, sym, refl, ap, ◌∙◌, inl, inr, arith, le-ltb, lt-ltb}
use Rattle.std.proofs.lemmas.Bool.{cases_lt}
use Rattle.nodes.specs.Tree.{children, children_from}
use Rattle.nodes.specs.declared.node.Node.{Node}
use Rattle.names.specs.Walk.{Nested, kin}
use Rattle.names.proofs.Nesting.{end_past}
use Rattle.node_rules.specs.Tables.{end, parts}

enough : (e : ℕ → ℕ) (stop m k j : ℕ) → ((i : ℕ) → i < stop → i < e i) → stop - j ≤ m → stop - j ≤ k → children_from m e j stop ≡ children_from k e j stop
enough e stop zero zero j s a b = refl
enough e stop zero (suc k) j s a b = rw (le-ltb j stop (omega arith)) refl
enough e stop (suc m) zero j s a b = rw (le-ltb j stop (omega arith)) refl
enough e stop (suc m) (suc k) j s a b =
    elim (cases_lt j stop) [
      | inl lt ↦ let z = s j lt in rw (lt-ltb j stop lt) (ap (λ xs. j ∷ xs) (enough e stop m k (e j) s (omega arith) (omega arith)))
      | inr le ↦ rw (le-ltb j stop le) refl
    ]

pub kin_none : (ns : List Node) (j stop : ℕ) → stop ≤ j → kin ns j stop ≡ []
unfolding kin
kin_none ns j stop h = let q : stop - j ≡ 0 = omega arith in rw q refl

pub kin_more : (ns : List Node) (j stop : ℕ) → Nested ns → stop ≤ length ns → j < stop → kin ns j stop ≡ j ∷ kin ns (end ns j) stop
unfolding kin
kin_more ns j stop n l h =
    let s : (i : ℕ) → i < stop → i < end ns i = λ i k. n.spans.sized i (omega arith) in
    let q : stop - j ≡ suc (stop - j - 1) = omega arith in
    let z = s j h in
    rw q (rw (lt-ltb j stop h) (ap (λ xs. j ∷ xs) (enough (end ns) stop (stop - j - 1) (stop - end ns j) (end ns j) s (omega arith) (omega arith))))

pub kin_parts : (ns : List Node) (i : ℕ) → kin ns (i + 1) (end ns i) ≡ parts ns i
unfolding kin children
kin_parts ns i = refl

-- past the last node there are none
parts_past : (ns : List Node) (i : ℕ) → length ns ≤ i → parts ns i ≡ []
unfolding children
parts_past ns i l = let e = end_past ns i l in let q : end ns i - (i + 1) ≡ 0 = omega arith in rw q refl

-- from the node next to a parent up to where it ends, as far as numbers and nodes go
pub kin_all : (ns : List Node) → Nested ns → (i next stop : ℕ) → next ≡ min (i + 1) 18446744073709551615 → stop ≡ min (end ns i) (length ns) → kin ns next stop ≡ parts ns i
kin_all ns n i next stop a b =
    let few = n.few in
    elim (cases_lt i (length ns)) [
      | inl lt ↦ let within = n.spans.within i lt in
          let p : next ≡ i + 1 = omega arith in
          let q : stop ≡ end ns i = omega arith in
          ap (λ x. kin ns x stop) p ∙ ap (kin ns (i + 1)) q ∙ kin_parts ns i
      | inr le ↦ kin_none ns next stop (omega arith) ∙ sym (parts_past ns i le)
    ]
