-- Children by number: child k is the k-th of the list of children.
use Rattle.std.proofs.Common.{◌≡◌, ℕ, zero, suc, ◌+◌, ◌<◌, ◌≤◌, true, false, eqb, List, [], ◌∷◌, length, Some, sym, refl, ap, ◌∙◌, inl, inr, arith, ltb-false, ltb-true, lt-ltb, eqb-true}
use borrow.Author.Tests.{clash}
use Rattle.std.proofs.lemmas.Option.{slice_get_past}
use Rattle.std.proofs.lemmas.Bool.{cases_lt, or_cases}
use Rattle.std.specs.List.{slice_get}
use Rattle.tree.specs.Spans.{Spanned, Family, Chain, elem}
use Rattle.names.specs.Walk.{Child}
use Rattle.names.proofs.Nesting.{child_first, child_next, parent_child}
use Rattle.node_rules.specs.Scopes.{above}
use Rattle.node_rules.specs.Tables as table
use Rattle.semantics.specs.Rule.{Rule, end, child, has, children}

-- The k-th place from j on, each where the one before ends.
abbrev pub along : (ℕ → ℕ) → ℕ → ℕ → ℕ
along e j zero = j
along e j (suc k) = along e (e j) k

along_last : (e : ℕ → ℕ) (j k : ℕ) → along e j (suc k) ≡ e (along e j k)
along_last e j zero = refl
along_last e j (suc k) = along_last e (e j) k

pub child_along : (r : Rule) (i k : ℕ) → child r i k ≡ along (table.end r.nodes) (i + 1) k
child_along r i zero = refl
child_along r i (suc k) = ap (end r) (child_along r i k) ∙ sym (along_last (table.end r.nodes) (i + 1) k)

module _ (e : ℕ → ℕ) (up : (j : ℕ) → j ≤ e j) where
  along_up : (j k : ℕ) → j ≤ along e j k
  along_up j zero = omega arith
  along_up j (suc k) = omega (arith, up j, along_up (e j) k)

  chain_nth : (j stop : ℕ) (cs : List ℕ) (k : ℕ) → Chain e j stop cs → along e j k < stop → slice_get cs k ≡ Some (along e j k)
  chain_nth j stop [] k h l = absurd (omega (arith, along_up j k, h))
  chain_nth j stop (c ∷ cs) zero h l = ap Some h.0
  chain_nth j stop (c ∷ cs) (suc k) h l = chain_nth (e j) stop cs k h.1.1 l

  chain_count : (j stop : ℕ) (cs : List ℕ) (k : ℕ) → Chain e j stop cs → along e j k < stop → k < length cs
  chain_count j stop [] k h l = absurd (omega (arith, along_up j k, h))
  chain_count j stop (c ∷ cs) zero h l = omega arith
  chain_count j stop (c ∷ cs) (suc k) h l = let q = chain_count (e j) stop cs k h.1.1 l in omega arith

  chain_inside : (j stop : ℕ) (cs : List ℕ) (k : ℕ) → Chain e j stop cs → k < length cs → along e j k < stop
  chain_inside j stop [] k h l = absurd (omega arith)
  chain_inside j stop (c ∷ cs) zero h l = h.1.0
  chain_inside j stop (c ∷ cs) (suc k) h l = chain_inside (e j) stop cs k h.1.1 (omega arith)

-- A member has a number.
pub elem_nth : (c : ℕ) (cs : List ℕ) → elem c cs ≡ true → (k : ℕ) × ((k < length cs) × (slice_get cs k ≡ Some c))
elem_nth c [] h = absurd (clash h)
elem_nth c (x ∷ xs) h =
    elim (or_cases (eqb c x) (elem c xs) h) [
      | inl e ↦ (0, (omega arith, ap Some (sym (eqb-true c x e))))
      | inr t ↦ let q = elem_nth c xs t in (suc q.0, (omega (arith, q.1.0), q.1.1))
    ]

module _ (r : Rule) (spans : Spanned (table.end r.nodes) (length r.nodes)) (families : Family (table.end r.nodes) (length r.nodes)) (i : ℕ) (l : i < length r.nodes) where
  up : (j : ℕ) → j ≤ table.end r.nodes j
  up j = omega arith

  -- which children there are
  pub has_count : (k : ℕ) → has r i k ≡ true → k < length (children r i)
  has_count k h =
      chain_count (table.end r.nodes) up (i + 1) (end r i) (children r i) k (families.ordered i l)
      (rw (child_along r i k) at (ltb-true (child r i k) (end r i) h))

  pub count_has : (k : ℕ) → k < length (children r i) → has r i k ≡ true
  count_has k h =
      lt-ltb (child r i k) (end r i) (rw (child_along r i k) (chain_inside (table.end r.nodes) up (i + 1) (end r i) (children r i) k (families.ordered i l) h))

  pub has_not : (k : ℕ) → has r i k ≡ false → length (children r i) ≤ k
  has_not k h =
      elim (cases_lt k (length (children r i))) [
        | inl lt ↦ absurd (let a = ltb-true (child r i k) (end r i) (count_has k lt) in let b = ltb-false (child r i k) (end r i) h in omega arith)
        | inr le ↦ le
      ]

  pub child_nth : (k : ℕ) → has r i k ≡ true → slice_get (children r i) k ≡ Some (child r i k)
  child_nth k h =
      rw (child_along r i k)
      (chain_nth (table.end r.nodes) up (i + 1) (end r i) (children r i) k (families.ordered i l) (rw (child_along r i k) at (ltb-true (child r i k) (end r i) h)))

  pub nth_child : (k c : ℕ) → slice_get (children r i) k ≡ Some c → (has r i k ≡ true) × (c ≡ child r i k)
  nth_child k c h =
      elim (cases_lt k (length (children r i))) [
        | inl lt ↦ let a = count_has k lt in let b = child_nth k a in (a, cc)
        | inr le ↦ let b = slice_get_past (children r i) k le in absurd (grind arith)
      ]

  pub elem_child : (c : ℕ) → elem c (children r i) ≡ true → (k : ℕ) × ((has r i k ≡ true) × (c ≡ child r i k))
  elem_child c h = let q = elem_nth c (children r i) h in (q.0, nth_child q.0 c q.1.1)

  -- each is a child, and a node
  pub child_inside : (k : ℕ) → has r i k ≡ true → child r i k < length r.nodes
  child_inside k h = let a = ltb-true (child r i k) (end r i) h in omega (arith, spans.within i l)

  pub child_is : (k : ℕ) → has r i k ≡ true → Child (table.end r.nodes) i (child r i k)
  child_is zero h = child_first r.nodes spans i (ltb-true (i + 1) (end r i) h)
  child_is (suc k) h =
      let a = ltb-true (child r i (suc k)) (end r i) h in
      let b : has r i k ≡ true = lt-ltb (child r i k) (end r i) (omega arith) in
      child_next r.nodes spans i (child r i k) (child_is k b) (spans.sized (child r i k) (child_inside k b)) a

  pub child_above : (k : ℕ) → has r i k ≡ true → above r.nodes (child r i k) ≡ i
  child_above k h = parent_child (table.end r.nodes) i (child r i k) (child_is k h)
