-- The walk over the nodes: what its stack says of the next node.
use Rattle.std.proofs.Common.{◌≡◌, ℕ, zero, suc, ◌+◌, ◌-◌, ◌<◌, ◌≤◌, Bool, true, false, Some, None, Option, length, ◌∷◌, List, map, slice_index, sym, refl, ap, ◌∙◌, inl, inr, arith, eq-eqb, ne_eqb}
use Rattle.std.specs.List.{range_with_len, AllWithin, HoldsAt}
use Rattle.std.specs.Option.{MatchOption, option_map}
use Rattle.std.proofs.lemmas.List.FromFn.{get_or-map-range_with_len, length-map-range_with_len}
use Rattle.finding.specs.Search.{lowest}
use Rattle.finding.proofs.Lowest.{lowest_at, lowest_none}
use Rattle.std.proofs.lemmas.Bool.{cases_lt}
use Rattle.nodes.specs.Tree.{parent, depth}
use Rattle.tree.specs.Spans.{Spanned}
use Rattle.tree.specs.Walk.{levels_by, levels, met_at}
use Rattle.tree.specs.declared.walk.Met.{Met}
use Rattle.tree.proofs.Nesting.{parent_lower}

levels_first : (e : ℕ → ℕ) (f i : ℕ) → i ≡ 0 → levels_by f e i ≡ 1
levels_first e zero i z = refl
levels_first e (suc f) i z = rw (eq-eqb i 0 z) refl

levels_more : (e : ℕ → ℕ) (f i : ℕ) → 0 < i → levels_by (suc f) e i ≡ levels_by f e (parent e i) + 1
levels_more e f i l = rw (ne_eqb i 0 (λ q. omega arith)) refl

-- any bound that is no lower than the node serves
levels_enough : (e : ℕ → ℕ) (f g i : ℕ) → i ≤ f → i ≤ g → levels_by f e i ≡ levels_by g e i
levels_enough e zero g i a b = sym (levels_first e g i (omega arith))
levels_enough e (suc f) zero i a b = levels_first e (suc f) i (omega arith)
levels_enough e (suc f) (suc g) i a b =
    elim (cases_lt 0 i) [
      | inl lt ↦
          let p = parent_lower e i lt in
          levels_more e f i lt ∙ ap (λ n. n + 1) (levels_enough e f g (parent e i) (omega arith) (omega arith)) ∙ sym (levels_more e g i lt)
      | inr le ↦ levels_first e (suc f) i (omega arith) ∙ sym (levels_first e (suc g) i (omega arith))
    ]

levels_root : (e : ℕ → ℕ) (i : ℕ) → i ≡ 0 → levels e i ≡ 1
unfolding levels
levels_root e i z = levels_first e i i z

levels_up : (e : ℕ → ℕ) (i : ℕ) → 0 < i → levels e i ≡ levels e (parent e i) + 1
unfolding levels
levels_up e i l =
    let p = parent_lower e i l in
    levels_enough e i (suc i) i (omega arith) (omega arith)
    ∙ levels_more e i i l
    ∙ ap (λ n. n + 1) (levels_enough e i (parent e i) (parent e i) (omega arith) (omega arith))

levels_top : (e : ℕ → ℕ) (n i : ℕ) → Spanned e n → i ≡ 0 → levels e i ≡ depth e i
levels_top e n i s z = levels_root e i z ∙ sym (ap (depth e) z ∙ s.top)

levels_depth_by : (e : ℕ → ℕ) (n f i : ℕ) → Spanned e n → i ≤ f → i < n → levels e i ≡ depth e i
levels_depth_by e n zero i s a l = levels_top e n i s (omega arith)
levels_depth_by e n (suc f) i s a l =
    elim (cases_lt 0 i) [
      | inl lt ↦
          let p = parent_lower e i lt in
          levels_up e i lt ∙ ap (λ n. n + 1) (levels_depth_by e n f (parent e i) s (omega arith) (omega arith)) ∙ sym (s.deeper i lt l)
      | inr le ↦ levels_top e n i s (omega arith)
    ]

pub levels_depth : (e : ℕ → ℕ) (n i : ℕ) → Spanned e n → i < n → levels e i ≡ depth e i
levels_depth e n i s l = levels_depth_by e n i i s (omega arith) l

-- above node 0 each node on the stack has the one below for its parent
stack_levels : (e : ℕ → ℕ) (xs : List ℕ) (top : ℕ) → slice_index xs 0 ≡ 0 → ((k : ℕ) → k < top → slice_index xs k < slice_index xs (k + 1)) → ((k : ℕ) → k < top → slice_index xs k ≡ parent e (slice_index xs (k + 1))) → (k : ℕ) → k ≤ top → levels e (slice_index xs k) ≡ k + 1
stack_levels e xs top z r u zero l = levels_root e _ z
stack_levels e xs top z r u (suc k) l =
    let q : k + 1 ≡ suc k = omega arith in
    let up = rw q at (u k (omega arith)) in
    let below = rw q at (r k (omega arith)) in
    levels_up e (slice_index xs (suc k)) (omega arith)
    ∙ ap (λ p. levels e p + 1) (sym up)
    ∙ ap (λ n. n + 1) (stack_levels e xs top z r u k (omega arith))
    ∙ omega arith

pub levels_next : (e : ℕ → ℕ) (xs : List ℕ) (top i : ℕ) → slice_index xs 0 ≡ 0 → ((k : ℕ) → k < top → slice_index xs k < slice_index xs (k + 1)) → ((k : ℕ) → k < top → slice_index xs k ≡ parent e (slice_index xs (k + 1))) → slice_index xs top < i → slice_index xs top ≡ parent e i → top + 1 + 1 ≡ levels e i
levels_next e xs top i z r u l p =
    sym (levels_up e i (omega arith) ∙ ap (λ n. levels e n + 1) (sym p) ∙ ap (λ n. n + 1) (stack_levels e xs top z r u top (omega arith)))

pub met_first : (e : ℕ → ℕ) (i n : ℕ) → i < n → map (met_at e) (range_with_len i (n - i)) ≡ met_at e i ∷ map (met_at e) (range_with_len (i + 1) (n - (i + 1)))
met_first e i n l = let q : n - i ≡ suc (n - (i + 1)) = omega arith in rw q refl

-- The first node of the walk at which a test is true, where the test is that of a fault, is the lowest at fault.
module _ (e : ℕ → ℕ) (n : ℕ) (test : Met → Bool) (fault : ℕ → Bool) (few : 0 < n) (root : fault 0 ≡ false) (told : (i : ℕ) → 0 < i → i < n → test (met_at e i) ≡ fault i) where
  abbrev all_met : List Met
  all_met = map (met_at e) (range_with_len 1 (n - 1))

  fine_below : (i : ℕ) → i ≤ n - 1 → AllWithin (λ m. test m ≡ false) all_met 0 i → (k : ℕ) → k < i + 1 → fault k ≡ false
  fine_below i b fine k l =
      elim (cases_lt 0 k) [
        | inl lt ↦
            let h = fine (k - 1) (met_at e 0) (omega arith) (omega arith) in
            let q = get_or-map-range_with_len (met_at e) 1 (n - 1) (k - 1) k (met_at e 0) (omega arith) (omega arith) in
            sym (told k lt (omega arith)) ∙ rw q at h
        | inr le ↦ let z : k ≡ 0 = omega arith in rw z root
      ]

  pub lowest_met : (r : Option Met) → MatchOption r (AllWithin (λ m. test m ≡ false) all_met 0 (length all_met)) (λ x. (test x ≡ true) × (i : ℕ) × (i < length all_met) × HoldsAt (λ y. y ≡ x) all_met i × AllWithin (λ m. test m ≡ false) all_met 0 i) → option_map (λ m. m.node) r ≡ lowest fault n
  lowest_met None h =
      let q = length-map-range_with_len (met_at e) 1 (n - 1) in
      sym (lowest_none fault n (λ k l. fine_below (n - 1) (omega arith) (rw q at h) k (omega arith)))
  lowest_met (Some x) h =
      let q = length-map-range_with_len (met_at e) 1 (n - 1) in
      let i = h.1 in
      let l : i < n - 1 = omega (arith, h.2, q) in
      let g : x ≡ met_at e (i + 1) = sym (h.3 (met_at e 0)) ∙ get_or-map-range_with_len (met_at e) 1 (n - 1) i (i + 1) (met_at e 0) l (omega arith) in
      let t : test (met_at e (i + 1)) ≡ true = rw g at h.0 in
      rw g (sym (lowest_at fault n (i + 1) (omega arith) (fine_below i (omega arith) h.4) (sym (told (i + 1) (omega arith) (omega arith)) ∙ t)))
