-- Nodes within nodes: from a node to its first child and to the next, what is in force stays, but for the node's own name.
use Rattle.std.proofs.Common.{◌≡◌, ℕ, zero, suc, ◌+◌, ◌<◌, ◌≤◌, Bool, true, false, cond, ◌&&◌, ltb, List, [], ◌∷◌, ◌++◌, length, sym, refl, ap, ◌∙◌, inl, inr, append-nil, add-one, arith, length-append, le-ltb, lt-ltb}
use Rattle.std.proofs.lemmas.List.{get_or_past}
use Rattle.std.proofs.lemmas.Bool.{cases_lt, cond_both}
use Rattle.nodes.specs.Tree.{holder, parent}
use Rattle.nodes.specs.declared.node.Node.{Node}
use Rattle.tree.specs.Spans.{Spanned}
use Rattle.node_rules.specs.Tables.{node, blank, end}
use Rattle.node_rules.specs.Scopes.{declares, lives, picked, in_force, binding}
use Rattle.names.specs.Walk.{Child, own}

and_no : (b : Bool) → (b && false) ≡ false
and_no true = refl
and_no false = refl

and_yes : (b : Bool) → (b && true) ≡ b
and_yes true = refl
and_yes false = refl

-- two tests of one number, each true where the other is
same_test : (a b c d : ℕ) → (a < b → c < d) → (c < d → a < b) → ltb a b ≡ ltb c d
same_test a b c d f g =
    elim (cases_lt a b) [
      | inl x ↦ lt-ltb a b x ∙ sym (lt-ltb c d (f x))
      | inr y ↦ elim (cases_lt c d) [ inl x ↦ absurd (let z = g x in omega arith) | inr z ↦ le-ltb a b y ∙ sym (le-ltb c d z) ]
    ]

-- the holder is the highest that spans
holder_at : (e : ℕ → ℕ) (i j n : ℕ) → i < n → j < e i → ((p : ℕ) → i < p → p < n → e p ≤ j) → holder e j n ≡ i
holder_at e i j zero l s h = absurd (omega arith)
holder_at e i j (suc n) l s h =
    elim (cases_lt i n) [
      | inl lt ↦ rw (le-ltb j (e n) (h n lt (omega arith))) (holder_at e i j n lt s (λ p a b. h p a (omega arith)))
      | inr le ↦ let q : i ≡ n = omega arith in rw (lt-ltb j (e n) (rw q at s)) (sym q)
    ]

-- what a node spans is held by it or by a node in it
holder_in : (e : ℕ → ℕ) (j d n : ℕ) → j < n → d < e j → (j ≤ holder e d n) × (holder e d n < n)
holder_in e j d zero l s = absurd (omega arith)
holder_in e j d (suc n) l s =
    elim (cases_lt d (e n)) [
      | inl lt ↦ rw (lt-ltb d (e n) lt) (omega arith, omega arith)
      | inr le ↦ let m : j < n = (elim (cases_lt j n) [ inl x ↦ x | inr y ↦ let q : j ≡ n = omega arith in absurd (let z = rw q at s in omega arith) ]) in
          let r = holder_in e j d n m s in
          rw (le-ltb d (e n) le) (r.0, omega arith)
    ]

pub holder_le : (e : ℕ → ℕ) (d n : ℕ) → holder e d n ≤ n
holder_le e d zero = omega arith
holder_le e d (suc n) =
    elim (cases_lt d (e n)) [
      | inl lt ↦ rw (lt-ltb d (e n) lt) (omega arith)
      | inr le ↦ let r = holder_le e d n in rw (le-ltb d (e n) le) (omega arith)
    ]

pub parent_child : (e : ℕ → ℕ) (i j : ℕ) → Child e i j → parent e j ≡ i
unfolding parent
parent_child e i j c = holder_at e i j j c.lower c.spans c.past

-- lists of picked numbers
picked_same : {X : Type 0} (t u : ℕ → Bool) (f : ℕ → X) (n : ℕ) → ((k : ℕ) → k < n → t k ≡ u k) → picked t f n ≡ picked u f n
picked_same t u f zero h = refl
picked_same t u f (suc n) h =
    ap (λ xs. xs ++ cond (t n) (f n ∷ []) []) (picked_same t u f n (λ k l. h k (omega arith))) ∙ ap (λ b. picked u f n ++ cond b (f n ∷ []) []) (h n (omega arith))

picked_still : {X : Type 0} (t : ℕ → Bool) (f : ℕ → X) (m n : ℕ) → m ≤ n → ((k : ℕ) → m ≤ k → k < n → t k ≡ false) → picked t f n ≡ picked t f m
picked_still t f m zero l h = let e : m ≡ 0 = omega arith in rw e refl
picked_still t f m (suc n) l h =
    elim (cases_lt n m) [
      | inl lt ↦ let e : m ≡ suc n = omega arith in rw e refl
      | inr le ↦ rw (h n le (omega arith)) (append-nil (picked t f n) ∙ picked_still t f m n le (λ k a b. h k a (omega arith)))
    ]

-- past the last node nothing is spanned
pub end_past : (ns : List Node) (i : ℕ) → length ns ≤ i → end ns i ≡ i
end_past ns i h = let b : node ns i ≡ blank = get_or_past ns i blank h in ap (λ n. i + n.size) b ∙ omega arith

module _ (ns : List Node) (s : Spanned (end ns) (length ns)) where
  pub within : (i j : ℕ) → i < j → j < end ns i → end ns j ≤ end ns i
  within i j l h =
      elim (cases_lt i (length ns)) [
        | inl lt ↦ s.nested i j lt l h
        | inr le ↦ absurd (omega (arith, end_past ns i le))
      ]

  pub child_first : (i : ℕ) → i + 1 < end ns i → Child (end ns) i (i + 1)
  child_first i h = record { lower = omega arith; spans = h; past = λ p a b. absurd (omega arith) }

  pub child_next : (i j : ℕ) → Child (end ns) i j → j < end ns j → end ns j < end ns i → Child (end ns) i (end ns j)
  child_next i j c z h = record {
    lower = (let l = c.lower in omega arith);
    spans = h;
    past = λ p a b. elim (cases_lt p j) [
      | inl lt ↦ (let w = c.past p a lt in omega arith)
      | inr le ↦ elim (cases_lt j p) [ inl x ↦ within j p x b | inr y ↦ let q : p ≡ j = omega arith in rw q (omega arith) ]
    ];
  }

  -- a node below the child j that spans it spans what follows it too
  spans_next : (i j p : ℕ) → Child (end ns) i j → end ns j < end ns i → p < j → j < end ns p → end ns j < end ns p
  spans_next i j p c h l z =
      elim (cases_lt i p) [
        | inl lt ↦ absurd (let w = c.past p lt l in omega arith)
        | inr le ↦ elim (cases_lt p i) [
          | inl x ↦ (let w = within p i x (let v = c.lower in omega arith) in omega arith)
          | inr y ↦ let q : p ≡ i = omega arith in rw q h
        ]
      ]

  spans_first : (i p : ℕ) → i + 1 < end ns i → p < i → i < end ns p → i + 1 < end ns p
  spans_first i p h l z = let w = within p i l z in omega arith

  -- nothing in j spans what follows it
  inside_ends : (j p : ℕ) → j < end ns j → j ≤ p → p < end ns j → ltb (end ns j) (end ns p) ≡ false
  inside_ends j p z a b =
      elim (cases_lt j p) [
        | inl lt ↦ le-ltb _ _ (within j p lt b)
        | inr le ↦ let q : p ≡ j = omega arith in rw q (le-ltb _ _ (omega arith))
      ]

  -- the names in force
  lives_next : (i j d : ℕ) → Child (end ns) i j → j < end ns j → end ns j < end ns i → d < j → lives ns (end ns j) d ≡ lives ns j d
  unfolding lives parent
  lives_next i j d c z h l =
      ap (λ b. declares ns d && b)
      (same_test _ _ _ _ (λ x. omega arith) (spans_next i j (holder (end ns) d d) c h (let w = holder_le (end ns) d d in omega arith)))

  lives_first : (i d : ℕ) → i + 1 < end ns i → d < i → lives ns (i + 1) d ≡ lives ns i d
  unfolding lives parent
  lives_first i d h l =
      ap (λ b. declares ns d && b)
      (same_test _ _ _ _ (λ x. omega arith) (spans_first i (holder (end ns) d d) h (let w = holder_le (end ns) d d in omega arith)))

  lives_inside : (j d : ℕ) → j < d → d < end ns j → lives ns (end ns j) d ≡ false
  unfolding lives parent
  lives_inside j d l z =
      let r = holder_in (end ns) j d d l z in
      simp (inside_ends j (holder (end ns) d d) (omega arith) r.0 (omega arith)) (and_no (declares ns d))

  -- a child is in force, if it declares, to the end of its parent
  lives_own : (i j m : ℕ) → Child (end ns) i j → m < end ns i → lives ns m j ≡ declares ns j
  unfolding lives
  lives_own i j m c h =
      rw (parent_child (end ns) i j c) (rw (lt-ltb m (end ns i) h) (and_yes (declares ns j)))

  pub in_force_next : (i j : ℕ) → Child (end ns) i j → j < end ns j → end ns j < end ns i → in_force ns (end ns j) ≡ in_force ns j ++ own ns j
  unfolding in_force
  in_force_next i j c z h =
      picked_still (lives ns (end ns j)) (binding ns) (suc j) (end ns j) (omega arith) (λ k a b. lives_inside j k (omega arith) b)
      ∙ ap (λ xs. xs ++ cond (lives ns (end ns j) j) (binding ns j ∷ []) []) (picked_same (lives ns (end ns j)) (lives ns j) (binding ns) j (λ k l. lives_next i j k c z h l))
      ∙ ap (λ b. picked (lives ns j) (binding ns) j ++ cond b (binding ns j ∷ []) []) (lives_own i j (end ns j) c h)

  -- from a node to its first child
  in_force_down : (i : ℕ) → i + 1 < end ns i → in_force ns (i + 1) ≡ in_force ns i ++ cond (lives ns (i + 1) i) (binding ns i ∷ []) []
  unfolding in_force
  in_force_down i h =
      ap (picked (lives ns (i + 1)) (binding ns)) (add-one i)
      ∙ ap (λ xs. xs ++ cond (lives ns (i + 1) i) (binding ns i ∷ []) []) (picked_same (lives ns (i + 1)) (lives ns i) (binding ns) i (λ k l. lives_first i k h l))

  pub in_force_first : (p i : ℕ) → Child (end ns) p i → i + 1 < end ns i → in_force ns (i + 1) ≡ in_force ns i ++ own ns i
  in_force_first p i c h =
      let l = c.lower in
      let w = within p i l c.spans in
      in_force_down i h ∙ ap (λ b. in_force ns i ++ cond b (binding ns i ∷ []) []) (lives_own p i (i + 1) c (omega arith))

  -- into the program, which declares nothing
  pub in_force_program : 1 < end ns 0 → declares ns 0 ≡ false → in_force ns 1 ≡ []
  unfolding in_force lives
  in_force_program h d = rw d refl

pub in_force_none : (ns : List Node) → in_force ns 0 ≡ []
unfolding in_force
in_force_none ns = refl

picked_few : {X : Type 0} (t : ℕ → Bool) (f : ℕ → X) (n : ℕ) → length (picked t f n) ≤ n
picked_few t f zero = omega arith
picked_few t f (suc n) =
    let r = picked_few t f n in
    let l : length (cond (t n) (f n ∷ []) []) ≤ 1 = cond_both (t n) (f n ∷ []) [] (λ xs. length xs ≤ 1) (λ _. omega arith) (λ _. omega arith) in
    simp length-append (omega arith)
