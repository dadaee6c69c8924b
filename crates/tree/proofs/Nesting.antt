-- Ancestors: the parent, and the parent's ancestors.
use Rattle.std.proofs.Common.{◌≡◌, ℕ, zero, suc, ◌<◌, ◌≤◌, true, false, cond, ◌||◌, eqb, ltb, leb, [], ◌∷◌, length, None, sym, refl, ap, ◌∙◌, ◌⊎◌, inl, inr, add-one, arith, ltb-false, le-ltb, lt-ltb, eq-eqb, ne_eqb, eqb-true, leb-false}
use borrow.Author.Tests.{eqb-false, not-false}
use Rattle.std.proofs.lemmas.Bool.{cases_lt}
use Rattle.nodes.specs.Tree.{holder, parent, around, ancestors, depth, bad_size, too_deep}
use Rattle.finding.specs.Search.{lowest}
use Rattle.finding.proofs.Bools.{neither}
use Rattle.finding.proofs.Lowest.{none_lowest}
use Rattle.tree.specs.Spans.{Spanned, Shallow}

-- No size below i is at fault.
abbrev pub Sound : (ℕ → ℕ) → ℕ → ℕ → Type 0
Sound e n i = (k : ℕ) → k < i → bad_size e n k ≡ false

-- the highest that spans, and no node between
pub record Holds (e : ℕ → ℕ) (i n p : ℕ) : Type 0 where
  pub lower : p < n
  pub spans : i < e p
  pub past : (k : ℕ) → p < k → k < n → e k ≤ i

holder_at : (e : ℕ → ℕ) (i n p : ℕ) → Holds e i n p → holder e i n ≡ p
holder_at e i zero p h = absurd (omega arith)
holder_at e i (suc n) p h =
    elim (cases_lt p n) [
      | inl lt ↦ rw (le-ltb i (e n) (h.past n lt (omega arith))) (holder_at e i n p (record { lower = lt; spans = h.spans; past = λ k a b. h.past k a (omega arith) }))
      | inr le ↦ let q : p ≡ n = omega arith in let s = h.spans in rw (lt-ltb i (e n) (rw q at s)) (sym q)
    ]

-- where 0 spans i, some node is the highest that does
holder_holds : (e : ℕ → ℕ) (i n : ℕ) → 0 < n → i < e 0 → Holds e i n (holder e i n)
holder_holds e i zero l s = absurd (omega arith)
holder_holds e i (suc n) l s =
    elim (cases_lt i (e n)) [
      | inl lt ↦ rw (lt-ltb i (e n) lt) (record { lower = omega arith; spans = lt; past = λ k a b. absurd (omega arith) })
      | inr le ↦
          let m : 0 < n = (elim (cases_lt 0 n) [ inl x ↦ x | inr y ↦ let q : n ≡ 0 = omega arith in absurd (let z = rw q at le in omega arith) ]) in
          let r = holder_holds e i n m s in
          rw (le-ltb i (e n) le)
          (record {
            lower = omega (arith, r.lower);
            spans = r.spans;
            past = λ k a b. elim (cases_lt k n) [ inl x ↦ r.past k a x | inr y ↦ let q : k ≡ n = omega arith in rw q le ];
          })
    ]

pub parent_holds : (e : ℕ → ℕ) (i : ℕ) → 0 < i → i < e 0 → Holds e i i (parent e i)
unfolding parent
parent_holds e i l s = holder_holds e i i l s

pub parent_at : (e : ℕ → ℕ) (i p : ℕ) → Holds e i i p → parent e i ≡ p
unfolding parent
parent_at e i p h = holder_at e i i p h

-- No node between a parent and its child spans the child, and the highest lower node of which that is so is the parent, where it spans the
-- child or is node 0.
holder_past : (e : ℕ → ℕ) (i n k : ℕ) → holder e i n < k → k < n → e k ≤ i
holder_past e i zero k a b = absurd (omega arith)
holder_past e i (suc n) k a b =
    elim (cases_lt i (e n)) [
      | inl lt ↦ let h = rw (lt-ltb i (e n) lt) at a in absurd (omega arith)
      | inr le ↦
          let h = rw (le-ltb i (e n) le) at a in
          elim (cases_lt k n) [ inl x ↦ holder_past e i n k h x | inr y ↦ let q : k ≡ n = omega arith in rw q le ]
    ]

holder_none : (e : ℕ → ℕ) (i n : ℕ) → ((k : ℕ) → 0 < k → k < n → e k ≤ i) → holder e i n ≡ 0
holder_none e i zero h = refl
holder_none e i (suc n) h =
    let below = holder_none e i n (λ k a b. h k a (omega arith)) in
    elim (cases_lt 0 n) [
      | inl lt ↦ rw (le-ltb i (e n) (h n lt (omega arith))) below
      | inr le ↦ let q : n ≡ 0 = omega arith in elim (cases_lt i (e n)) [ inl x ↦ rw (lt-ltb i (e n) x) q | inr y ↦ rw (le-ltb i (e n) y) below ]
    ]

pub past_up : (e : ℕ → ℕ) (next p q : ℕ) → q ≡ parent e p → p < next → e p ≤ next → ((k : ℕ) → p < k → k < next → e k ≤ next) → (k : ℕ) → q < k → k < next → e k ≤ next
unfolding parent
past_up e next p q is l s past k a b =
    elim (cases_lt k p) [
      | inl lt ↦ let h = holder_past e p p k (omega arith) lt in omega arith
      | inr le ↦ elim (cases_lt p k) [ inl gt ↦ past k gt b | inr ge ↦ let r : k ≡ p = omega arith in rw r s ]
    ]

holder_lower : (e : ℕ → ℕ) (i n : ℕ) → 0 < n → holder e i n < n
holder_lower e i zero l = absurd (omega arith)
holder_lower e i (suc n) l =
    elim (cases_lt i (e n)) [
      | inl lt ↦ rw (lt-ltb i (e n) lt) (omega arith)
      | inr le ↦ rw (le-ltb i (e n) le) (elim (cases_lt 0 n) [
        | inl x ↦ let h = holder_lower e i n x in omega arith
        | inr y ↦ let q : n ≡ 0 = omega arith in rw q (omega arith)
      ])
    ]

pub parent_lower : (e : ℕ → ℕ) (i : ℕ) → 0 < i → parent e i < i
unfolding parent
parent_lower e i l = holder_lower e i i l

parent_none : (e : ℕ → ℕ) (i : ℕ) → ((k : ℕ) → 0 < k → k < i → e k ≤ i) → parent e i ≡ 0
unfolding parent
parent_none e i h = holder_none e i i h

pub parent_is : (e : ℕ → ℕ) (i p : ℕ) → p < i → ((k : ℕ) → p < k → k < i → e k ≤ i) → (p ≡ 0) ⊎ (i < e p) → parent e i ≡ p
parent_is e i p l past (inr s) = parent_at e i p (record { lower = l; spans = s; past = past })
parent_is e i p l past (inl z) = parent_none e i (λ k a b. past k (omega arith) b) ∙ sym z

-- what no fault says of one node
sound_root : (e : ℕ → ℕ) (n : ℕ) → bad_size e n 0 ≡ false → e 0 ≡ n
unfolding bad_size
sound_root e n h = eqb-true (e 0) n (not-false (eqb (e 0) n) h)

pub fault_root : (e : ℕ → ℕ) (n : ℕ) → (e 0 ≡ n → ⊥) → bad_size e n 0 ≡ true
unfolding bad_size
fault_root e n h = rw (ne_eqb (e 0) n h) refl

pub fine_root : (e : ℕ → ℕ) (n : ℕ) → e 0 ≡ n → bad_size e n 0 ≡ false
unfolding bad_size
fine_root e n h = rw (eq-eqb (e 0) n h) refl

pub fault_later : (e : ℕ → ℕ) (n i : ℕ) → 0 < i → bad_size e n i ≡ (leb (e i) i || ltb (e (parent e i)) (e i))
unfolding bad_size
fault_later e n i l = rw (ne_eqb i 0 (λ q. omega arith)) refl

pub sound_later : (e : ℕ → ℕ) (n i : ℕ) → 0 < i → bad_size e n i ≡ false → (i < e i) × (e i ≤ e (parent e i))
sound_later e n i l h =
    let p = neither (leb (e i) i) (ltb (e (parent e i)) (e i)) (sym (fault_later e n i l) ∙ h) in
    (leb-false (e i) i p.0, ltb-false (e (parent e i)) (e i) p.1)

-- Where no size below m is at fault, what begins in a node ends in it.
module _ (e : ℕ → ℕ) (n : ℕ) where
  nested_by : (f m : ℕ) → Sound e n m → m ≤ n → e 0 ≡ n → (i j : ℕ) → j < f → j < m → i < j → j < e i → e j ≤ e i
  nested_by zero m s b w i j a l x y = absurd (omega arith)
  nested_by (suc f) m s b w i j a l x y =
      let p = parent_holds e j (omega arith) (omega arith) in
      let q = sound_later e n j (omega arith) (s j l) in
      elim (cases_lt (parent e j) i) [
        | inl lt ↦ absurd (let z = p.past i lt x in omega arith)
        | inr le ↦ elim (cases_lt i (parent e j)) [
          | inl lt ↦ (let z = nested_by f m s b w i (parent e j) (omega (arith, p.lower)) (omega (arith, p.lower)) lt (omega (arith, p.lower)) in omega (arith, q.1))
          | inr ge ↦ let r : parent e j ≡ i = omega arith in rw r at q.1
        ]
      ]

  pub nested_below : (m : ℕ) → Sound e n m → m ≤ n → e 0 ≡ n → (i j : ℕ) → j < m → i < j → j < e i → e j ≤ e i
  nested_below m s b w i j l x y = nested_by (suc j) m s b w i j (omega arith) l x y

  sized_below : (m : ℕ) → Sound e n m → 0 < n → e 0 ≡ n → (i : ℕ) → i < m → i < e i
  sized_below m s z w i l =
      elim (cases_lt 0 i) [
        | inl lt ↦ (sound_later e n i lt (s i l)).0
        | inr le ↦ let q : i ≡ 0 = omega arith in rw q (omega arith)
      ]

  within_below : (m : ℕ) → Sound e n m → m ≤ n → e 0 ≡ n → (i : ℕ) → i < m → e i ≤ n
  within_below m s b w i l =
      elim (cases_lt 0 i) [
        | inl lt ↦ (let z = nested_below m s b w 0 i l lt (omega arith) in omega arith)
        | inr le ↦ let q : i ≡ 0 = omega arith in rw q (omega arith)
      ]

-- ancestors
around_same : (e : ℕ → ℕ) (i j n : ℕ) → ((k : ℕ) → k < n → ltb i (e k) ≡ ltb j (e k)) → around e i n ≡ around e j n
around_same e i j zero h = refl
around_same e i j (suc n) h =
    rw (h n (omega arith)) (ap (λ xs. cond (ltb j (e n)) (n ∷ xs) xs) (around_same e i j n (λ k l. h k (omega arith))))

around_at : (e : ℕ → ℕ) (i n p : ℕ) → Holds e i n p → around e i n ≡ p ∷ around e i p
around_at e i zero p h = absurd (omega arith)
around_at e i (suc n) p h =
    elim (cases_lt p n) [
      | inl lt ↦ rw (le-ltb i (e n) (h.past n lt (omega arith))) (around_at e i n p (record { lower = lt; spans = h.spans; past = λ k a b. h.past k a (omega arith) }))
      | inr le ↦ let q : p ≡ n = omega arith in let s = h.spans in rw (lt-ltb i (e n) (rw q at s)) (ap (λ k. k ∷ around e i k) (sym q))
    ]

-- below i's parent p, the same nodes span i and p
pub ancestors_at : (e : ℕ → ℕ) (i p : ℕ) → Holds e i i p → ((k : ℕ) → k < p → p < e k → e p ≤ e k) → ancestors e i ≡ p ∷ ancestors e p
unfolding ancestors
ancestors_at e i p h nest =
    around_at e i i p h
    ∙ ap (λ xs. p ∷ xs)
    (around_same e i p p
    (λ k l. elim (cases_lt p (e k)) [
      | inl lt ↦ lt-ltb i (e k) (let z = nest k l lt in omega (arith, h.spans)) ∙ sym (lt-ltb p (e k) lt)
      | inr le ↦ le-ltb i (e k) (omega (arith, h.lower)) ∙ sym (le-ltb p (e k) le)
    ]))

ancestors_root : (e : ℕ → ℕ) → ancestors e 0 ≡ []
unfolding ancestors
ancestors_root e = refl

-- A node's depth is one more than the number of its ancestors.
pub depth_is : (e : ℕ → ℕ) (i : ℕ) → i < e i → depth e i ≡ suc (length (ancestors e i))
unfolding depth ancestors
depth_is e i s = rw (lt-ltb i (e i) s) refl

pub depth_root : (e : ℕ → ℕ) → 0 < e 0 → too_deep e 0 ≡ false
unfolding too_deep
depth_root e s = rw (depth_is e 0 s ∙ ap (λ xs. suc (length xs)) (ancestors_root e)) refl

pub told_deep : (e : ℕ → ℕ) (i : ℕ) → eqb (depth e i) 65 ≡ too_deep e i
unfolding too_deep
told_deep e i = refl

-- what is so of every node where no size is at fault
up_child : (e : ℕ → ℕ) (n i : ℕ) → e 0 ≡ n → Sound e n n → 0 < i → i < n → ancestors e i ≡ parent e i ∷ ancestors e (parent e i)
up_child e n i w s z l =
    let h = parent_holds e i z (omega arith) in
    ancestors_at e i (parent e i) h (λ k x y. nested_below e n n s (omega arith) w k (parent e i) (omega (arith, h.lower)) x y)

pub spanned : (e : ℕ → ℕ) (n : ℕ) → 0 < n → Sound e n n → Spanned e n
spanned e n z s =
    let w = sound_root e n (s 0 z) in
    record {
      whole = w;
      sized = λ i l. sized_below e n n s z w i l;
      within = λ i l. within_below e n n s (omega arith) w i l;
      nested = λ i j l x y. nested_below e n n s (omega arith) w i j (omega (arith, within_below e n n s (omega arith) w i l)) x y;
      upward = λ i a l. up_child e n i w s a l;
      lower = λ i a l. (parent_holds e i a (omega arith)).lower;
      top = depth_is e 0 (omega arith) ∙ ap (λ xs. suc (length xs)) (ancestors_root e);
      deeper = λ i a l.
          depth_is e i (sized_below e n n s z w i l)
          ∙ ap (λ xs. suc (length xs)) (up_child e n i w s a l)
          ∙ ap suc (sym (depth_is e (parent e i) (sized_below e n n s z w (parent e i) (omega (arith, (parent_holds e i a (omega arith)).lower)))))
          ∙ sym (add-one (depth e (parent e i)));
    }

pub no_fault : (e : ℕ → ℕ) (n : ℕ) → lowest (bad_size e n) n ≡ None → Sound e n n
no_fault e n h k l = none_lowest (bad_size e n) n h k l

depth_other : (e : ℕ → ℕ) (i : ℕ) → too_deep e i ≡ false → depth e i ≡ 65 → ⊥
unfolding too_deep
depth_other e i h q = eqb-false (depth e i) 65 h q

shallow_by : (e : ℕ → ℕ) (n f : ℕ) → Spanned e n → ((k : ℕ) → k < n → too_deep e k ≡ false) → (i : ℕ) → i < f → i < n → depth e i ≤ 64
shallow_by e n zero s h i a l = absurd (omega arith)
shallow_by e n (suc f) s h i a l =
    elim (cases_lt 0 i) [
      | inl lt ↦
          let p = s.lower i lt l in
          let d = s.deeper i lt l in
          let b = shallow_by e n f s h (parent e i) (omega arith) (omega arith) in
          let o = depth_other e i (h i l) in
          omega arith
      | inr le ↦ let q : i ≡ 0 = omega arith in rw q (omega (arith, s.top))
    ]

pub shallow : (e : ℕ → ℕ) (n : ℕ) → Spanned e n → ((k : ℕ) → k < n → too_deep e k ≡ false) → Shallow e n
shallow e n s h i l = shallow_by e n (suc i) s h i (omega arith) l
