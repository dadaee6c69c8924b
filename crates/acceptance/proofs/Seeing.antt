-- What a child sees: what its parent does, and its parent's own declarations.
use Rattle.std.proofs.Common.{◌≡◌, ℕ, zero, suc, ◌<◌, true, false, ◌&&◌, eqb, ltb, ◌⊎◌, [], ◌∷◌, length, Some, sym, refl, ap, ◌∙◌, inl, inr, arith, ltb-true, lt-ltb}
use Rattle.std.proofs.lemmas.Bool.{cases_lt, and_parts, and_from}
use Rattle.std.proofs.lemmas.Bool.Decides.{nat_tests}
use Rattle.nodes.specs.Kinds.{number, between}
use Rattle.nodes.specs.Fields.{fields}
use Rattle.nodes.specs.declared.kind.Kind.{Kind}
use Rattle.nodes.specs.declared.kind.Kind.TheVariants.{ScalarDeclaration, ArrayDeclaration, Parameter}
use Rattle.rule_laws.proofs.Numbers.{among, one_of}
use Rattle.node_rules.specs.Scopes.{above, declares, is_variable, lives, place}
use Rattle.node_rules.specs.Types.{tagged}
use Rattle.node_rules.specs.declared.types.Ty.{Ty}
use Rattle.node_rules.specs.declared.types.Ty.TheVariants as ty
use Rattle.semantics.specs.Rule.{Rule, node, kind_at, end, child, has}
use Rattle.soundness.specs.Checked.{sees, Declared, SeesAs}
use Rattle.acceptance.proofs.Children.{child_is, child_inside, child_nth}
use Rattle.acceptance.proofs.Forces.{above_child}
use Rattle.acceptance.proofs.Kin.{Accepted, kin, kin_child, kin_above, numbered, no_program, inner_above}
use Rattle.acceptance.proofs.Cells.{local, local_child, place_child, offset_own, own_inner}

-- A variable that is in force somewhere.
pub record Seen (r : Rule) (i d : ℕ) : Type 0 where
  pub variable : is_variable (kind_at r d) ≡ true
  pub lower : d < i
  pub spanned : i < end r (above r.nodes d)

pub seen_from : (r : Rule) (i d : ℕ) → sees r i d ≡ true → Seen r i d
unfolding sees lives
seen_from r i d h =
    let v = is_variable (kind_at r d) in
    let e = ltb i (end r (above r.nodes d)) in
    let p = and_parts v (ltb d i && (declares r.nodes d && e)) h in
    let q = and_parts (ltb d i) (declares r.nodes d && e) p.1 in
    record { variable = p.0; lower = ltb-true d i q.0; spanned = ltb-true i (end r (above r.nodes d)) (and_parts (declares r.nodes d) e q.1).1 }

pub seen_to : (r : Rule) (i d : ℕ) → Seen r i d → sees r i d ≡ true
unfolding sees lives
seen_to r i d s =
    let v = is_variable (kind_at r d) in
    let e = ltb i (end r (above r.nodes d)) in
    let w = s.variable in
    let c : declares r.nodes d ≡ true = grind (arith, nat_tests) in
    and_from v (ltb d i && (declares r.nodes d && e)) w
    (and_from (ltb d i) (declares r.nodes d && e) (lt-ltb d i s.lower)
    (and_from (declares r.nodes d) e c (lt-ltb i (end r (above r.nodes d)) s.spanned)))

-- A declaration in force that is a variable is seen.
pub lives_seen : (r : Rule) (i d : ℕ) → d < i → lives r.nodes i d ≡ true → is_variable (kind_at r d) ≡ true → sees r i d ≡ true
unfolding sees
lives_seen r i d l h v = and_from (is_variable (kind_at r d)) (ltb d i && lives r.nodes i d) v (and_from (ltb d i) (lives r.nodes i d) (lt-ltb d i l) h)

-- Tags of variables tell types.
pub tagged_some : (n : ℕ) → between 1 3 n ≡ true → (t : Ty) × (tagged n ≡ Some t)
tagged_some zero h = absurd (grind (arith, nat_tests))
tagged_some (suc zero) h = (ty.Int, refl)
tagged_some (suc (suc zero)) h = (ty.Long, refl)
tagged_some (suc (suc (suc zero))) h = (ty.Bool, refl)
tagged_some (suc (suc (suc (suc n)))) h = absurd (grind (arith, nat_tests))

variable_tag : (k : Kind) (n : ℕ) → is_variable (number k) ≡ true → between (fields k).first (fields k).last n ≡ true → between 1 3 n ≡ true
variable_tag k n h =
    let e : among k (ScalarDeclaration ∷ ArrayDeclaration ∷ Parameter ∷ []) ≡ true = grind (arith, nat_tests) in
    one_of (λ k. between (fields k).first (fields k).last n ≡ true → between 1 3 n ≡ true) (ScalarDeclaration ∷ ArrayDeclaration ∷ Parameter ∷ [])
    (λ x. x, (λ x. x, (λ x. x, tt))) k e

module _ (r : Rule) (a : Accepted r) where
  pub variable_sort : (d : ℕ) → d < length r.nodes → is_variable (kind_at r d) ≡ true → (t : Ty) × (tagged (node r d).tag ≡ Some t)
  variable_sort d l v = tagged_some (node r d).tag (variable_tag (node r d).kind (node r d).tag v (a.shaped.nodes_fit d l).tag)

  -- a variable has no children
  childless : (i : ℕ) → i < length r.nodes → (k : ℕ) → has r i k ≡ true → is_variable (kind_at r i) ≡ true → ⊥
  childless i l k h v = let x = kin_child r a i l k h in grind (arith, nat_tests)

  -- what a child sees is seen by its parent, or a child too
  pub seen_child : (i : ℕ) → i < length r.nodes → (k : ℕ) → has r i k ≡ true → (d : ℕ) → Seen r (child r i k) d → Seen r i d ⊎ ((above r.nodes d ≡ i) × (0 < d) × (d < child r i k))
  seen_child i l k h d s =
      let j = child r i k in
      let c = child_is r a.shaped.spans a.shaped.families i l k h in
      let cl = c.lower in
      let cs = c.spans in
      let sl = s.lower in
      let ss = s.spanned in
      elim (cases_lt d i) [
        | inl lt ↦ inl (record { variable = s.variable; lower = lt; spanned = omega arith })
        | inr ge ↦ elim (cases_lt i d) [
          | inl gt ↦
              let ji = child_inside r a.shaped.spans a.shaped.families i l k h in
              let p = above_child r a.names a.strings a.shaped d (omega arith) (omega arith) in
              let pl = p.lower in
              inr (
                elim (cases_lt (above r.nodes d) i) [
                  | inl x ↦ absurd (let w = p.past i x gt in omega arith)
                  | inr y ↦ elim (cases_lt i (above r.nodes d)) [
                    | inl x ↦ absurd (let w = c.past (above r.nodes d) x (omega arith) in omega arith)
                    | inr z ↦ omega arith
                  ]
                ],
                omega arith,
                sl,
              )
          | inr le ↦ let e : d ≡ i = omega arith in absurd (childless i l k h (rw e at s.variable))
        ]
      ]

  -- a variable that is a child of node i, but not of the program
  pub declared_child : (i : ℕ) → i < length r.nodes → eqb i 0 ≡ false → between 7 25 (kind_at r i) ≡ true → (d : ℕ) → 0 < d → d < length r.nodes → above r.nodes d ≡ i → is_variable (kind_at r d) ≡ true → Declared r i d (local r a i)
  declared_child i l z b d dz dl e v =
      let n = numbered r a d dz dl in
      let k = n.index in
      let t : has r i k ≡ true = rw e at n.there in
      let q : d ≡ child r i k = n.is ∙ ap (λ x. child r x k) e in
      let w : is_variable (kind_at r (child r i k)) ≡ true = rw q at v in
      let p = place_child r a i l z k t w in
      let m = local_child r a i l z k t in
      let o = own_inner r a i b in
      let g : place r.nodes d ≡ place r.nodes (child r i k) = ap (place r.nodes) q in
      let y = variable_sort d dl v in
      record {
        index = k;
        here = child_nth r a.shaped.spans a.shaped.families i l k t ∙ ap Some (sym q);
        cell = omega arith;
        sort = y.0;
        typed = y.1;
      }

  -- the children of a block
  pub block_sees : (i : ℕ) → i < length r.nodes → kind_at r i ≡ 7 → (k : ℕ) → has r i k ≡ true → SeesAs r i (child r i k)
  block_sees i l b k h d s =
      let f = seen_from r (child r i k) d s in
      let u : between 7 25 (kind_at r i) ≡ true = rw b refl in
      let v : between 6 25 (kind_at r i) ≡ true = rw b refl in
      let w : eqb (kind_at r i) 1 ≡ false = rw b refl in
      elim (seen_child i l k h d f) [
        | inl x ↦ inl (seen_to r i d x)
        | inr y ↦
            let e = y.0 in
            let z : eqb i 0 ≡ false = (let p = no_program r a i w in grind (arith, nat_tests)) in
            let ji = child_inside r a.shaped.spans a.shaped.families i l k h in
            let dl : d < length r.nodes = omega (arith, y.2) in
            let c = declared_child i l z u d y.1 dl e f.variable in
            let o = offset_own r a i l (inner_above r a i l v) in
            inr (record {
              block = b;
              local = (rw e z);
              declared = record { index = c.index; here = c.here; cell = (let g = c.cell in omega arith); sort = c.sort; typed = c.typed };
            })
      ]

  -- the children of statements and expressions
  pub plain_sees : (i : ℕ) → i < length r.nodes → between 8 24 (kind_at r i) ≡ true → (k : ℕ) → has r i k ≡ true → SeesAs r i (child r i k)
  plain_sees i l b k h d s =
      let f = seen_from r (child r i k) d s in
      elim (seen_child i l k h d f) [
        | inl x ↦ inl (seen_to r i d x)
        | inr y ↦
            let e = y.0 in
            let ji = child_inside r a.shaped.spans a.shaped.families i l k h in
            let dl : d < length r.nodes = omega (arith, y.2) in
            let v = f.variable in
            let n : kin (kind_at r i) (kind_at r d) ≡ true = rw e at (kin_above r a d y.1 dl) in
            absurd (grind (arith, nat_tests))
      ]
