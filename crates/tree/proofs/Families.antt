-- Children and parents, where no size is at fault.
use Rattle.std.proofs.Common.{◌≡◌, ℕ, zero, suc, ◌+◌, ◌-◌, ◌<◌, ◌≤◌, Bool, true, false, ◌||◌, eqb, refl, ap, ◌∙◌, inl, inr, arith, le-ltb, lt-ltb, eq-eqb, eqb-true}
use Rattle.std.proofs.lemmas.Bool.{cases_lt, or_cases}
use Rattle.nodes.specs.Tree.{parent, children, children_from}
use Rattle.tree.specs.Spans.{Spanned, Family, Chain, elem}
use Rattle.tree.proofs.Nesting.{Holds, parent_at, parent_holds}

second_true : (a b : Bool) → b ≡ true → (a || b) ≡ true
second_true true b h = refl
second_true false b h = h

module _ (e : ℕ → ℕ) (n : ℕ) (s : Spanned e n) (i : ℕ) (l : i < n) where
  -- A place from which children are taken: no node between i and it reaches past it.
  pub record From (j : ℕ) : Type 0 where
    pub past_parent : i < j
    pub inside : j ≤ e i
    pub clear : (p : ℕ) → i < p → p < j → e p ≤ j

  from_first : From (i + 1)
  from_first = record { past_parent = omega arith; inside = omega (arith, s.sized i l); clear = λ p a b. absurd (omega arith) }

  from_next : (j : ℕ) → From j → j < e i → From (e j)
  from_next j f h =
      let w = s.within i l in
      let a = f.past_parent in
      let z = s.sized j (omega arith) in
      record {
        past_parent = omega arith;
        inside = s.nested i j l f.past_parent h;
        clear = λ p x y. elim (cases_lt p j) [
          | inl lt ↦ (let q = f.clear p x lt in omega arith)
          | inr le ↦ elim (cases_lt j p) [
            | inl gt ↦ s.nested j p (omega arith) gt y
            | inr ge ↦ let r : p ≡ j = omega arith in rw r (omega arith)
          ]
        ];
      }

  -- a node where a child begins is a child
  from_parent : (j : ℕ) → From j → j < e i → parent e j ≡ i
  from_parent j f h = parent_at e j i (record { lower = f.past_parent; spans = h; past = f.clear })

  chain : (m j : ℕ) → From j → e i - j ≤ m → Chain e j (e i) (children_from m e j (e i))
  chain zero j f b = let a = f.inside in omega arith
  chain (suc m) j f b =
      elim (cases_lt j (e i)) [
        | inl lt ↦
            let w = s.within i l in
            let z = s.sized j (omega arith) in
            rw (lt-ltb j (e i) lt) (refl, (lt, chain m (e j) (from_next j f lt) (omega arith)))
        | inr le ↦ rw (le-ltb j (e i) le) (let a = f.inside in omega arith)
      ]

  listed : (m j k : ℕ) → From j → elem k (children_from m e j (e i)) ≡ true → parent e k ≡ i
  listed zero j k f h = let z : ◌≡◌ {A = ℕ} 0 1 = cc in absurd (omega arith)
  listed (suc m) j k f h =
      elim (cases_lt j (e i)) [
        | inl lt ↦
            elim (or_cases (eqb k j) (elem k (children_from m e (e j) (e i))) (rw (lt-ltb j (e i) lt) at h)) [
              | inl q ↦ ap (parent e) (eqb-true k j q) ∙ from_parent j f lt
              | inr q ↦ listed m (e j) k (from_next j f lt) q
            ]
        | inr le ↦ let g = rw (le-ltb j (e i) le) at h in let z : ◌≡◌ {A = ℕ} 0 1 = cc in absurd (omega arith)
      ]

  -- a node that i holds is met on the way
  met : (m j k : ℕ) → From j → e i - j ≤ m → j ≤ k → Holds e k k i → elem k (children_from m e j (e i)) ≡ true
  met zero j k f b a h = absurd (omega (arith, h.spans))
  met (suc m) j k f b a h =
      let lt : j < e i = omega (arith, h.spans) in
      let w = s.within i l in
      let z = s.sized j (omega arith) in
      rw (lt-ltb j (e i) lt)
      (elim (cases_lt j k) [
        | inl gt ↦ second_true (eqb k j) _ (met m (e j) k (from_next j f lt) (omega arith) (h.past j f.past_parent gt) h)
        | inr ge ↦ let q : k ≡ j = omega arith in rw (eq-eqb k j q) refl
      ])

  pub ordered_at : Chain e (i + 1) (e i) (children e i)
  unfolding children
  ordered_at = chain (e i - (i + 1)) (i + 1) from_first (omega arith)

  pub parent_at_child : (j : ℕ) → elem j (children e i) ≡ true → parent e j ≡ i
  unfolding children
  parent_at_child j h = listed (e i - (i + 1)) (i + 1) j from_first h

  pub child_at : (k : ℕ) → Holds e k k i → elem k (children e i) ≡ true
  unfolding children
  child_at k h = met (e i - (i + 1)) (i + 1) k from_first (omega arith) (omega (arith, h.lower)) h

pub family : (e : ℕ → ℕ) (n : ℕ) → Spanned e n → Family e n
family e n s =
    record {
      ordered = λ i l. ordered_at e n s i l;
      parent_of = λ i j l h. parent_at_child e n s i l j h;
      child_of = λ j z l.
          let h = parent_holds e j z (omega (arith, s.whole)) in
          child_at e n s (parent e j) (omega (arith, h.lower)) j h;
    }
