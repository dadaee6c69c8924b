-- Types in an accepted rule, and what the rules say of types that are there.
use Rattle.std.proofs.Common.{◌≡◌, ℕ, ◌+◌, ◌<◌, ◌≤◌, Bool, true, false, cond, not, ◌&&◌, eqb, ltb, ◌⊎◌, List, [], ◌∷◌, length, is_some, Some, None, Option, sym, refl, ap, ◌∙◌, subst, inl, inr, arith, lt-ltb, eqb-true}
use borrow.Author.Tests.{clash, eqb-false}
use Rattle.std.proofs.lemmas.Bool.{or_cases}
use Rattle.std.proofs.lemmas.Bool.Decides.{nat_tests}
use Rattle.std.specs.List.{slice_get}
use Rattle.nodes.specs.Kinds.{between}
use Rattle.nodes.specs.declared.node.Node.{Node}
use Rattle.rule_laws.proofs.Accepting.{kept_at}
use Rattle.rule_laws.proofs.Expressions.{accepted_typed}
use Rattle.rule_laws.proofs.Meaning.{meant_below}
use Rattle.rule_laws.proofs.Typing.{type_is}
use Rattle.node_rules.specs.Rules.{broken_by, first_broken, names_scalar, names_array, names_callable, declared, held, facts_at, sound_type, type_of}
use Rattle.node_rules.specs.Scopes.{meant, is_variable}
use Rattle.node_rules.specs.Tables as table
use Rattle.node_rules.specs.Types.{tagged, fits, fits_asked, both_fit, of_one_type, of_one_number_type, has_type}
use Rattle.node_rules.specs.Violations.{rules}
use Rattle.node_rules.specs.declared.types.Ty.{Ty}
use Rattle.node_rules.specs.declared.types.Ty.TheVariants as ty
use Rattle.node_rules.specs.declared.violation.Violation.{Violation}
use Rattle.semantics.specs.Rule.{Rule, node, kind_at, child, has, children}
use Rattle.soundness.specs.Checked.{sees, IsNumber, Expression, Location, NamesScalar}
use Rattle.acceptance.proofs.Children.{child_nth, child_inside, has_not}
use Rattle.acceptance.proofs.Kin.{Accepted, as_table}
use Rattle.acceptance.proofs.Naming.{meant_lives}
use Rattle.acceptance.proofs.Cells.{above_is}
use Rattle.acceptance.proofs.Seeing.{plain_sees, lives_seen, variable_sort}

pub has_some : (o : Option Ty) → has_type o ≡ true → (t : Ty) × (o ≡ Some t)
has_some None h = absurd (clash h)
has_some (Some t) h = (t, refl)

-- What the rules ask of types, where they are there.
same_is : (t u : Ty) → fits t (Some u) ≡ true → t ≡ u
same_is ty.Int ty.Int h = refl
same_is ty.Int ty.Long h = absurd (clash h)
same_is ty.Int ty.Bool h = absurd (clash h)
same_is ty.Long ty.Int h = absurd (clash h)
same_is ty.Long ty.Long h = refl
same_is ty.Long ty.Bool h = absurd (clash h)
same_is ty.Bool ty.Int h = absurd (clash h)
same_is ty.Bool ty.Long h = absurd (clash h)
same_is ty.Bool ty.Bool h = refl

both_one : (t u : Ty) → of_one_type (Some t) (Some u) ≡ true → t ≡ u
both_one ty.Int ty.Int h = refl
both_one ty.Int ty.Long h = absurd (clash h)
both_one ty.Int ty.Bool h = absurd (clash h)
both_one ty.Long ty.Int h = absurd (clash h)
both_one ty.Long ty.Long h = refl
both_one ty.Long ty.Bool h = absurd (clash h)
both_one ty.Bool ty.Int h = absurd (clash h)
both_one ty.Bool ty.Long h = absurd (clash h)
both_one ty.Bool ty.Bool h = refl

both_number : (t u : Ty) → of_one_number_type (Some t) (Some u) ≡ true → (t ≡ u) × IsNumber t
both_number ty.Int ty.Int h = (refl, tt)
both_number ty.Int ty.Long h = absurd (clash h)
both_number ty.Int ty.Bool h = absurd (clash h)
both_number ty.Long ty.Int h = absurd (clash h)
both_number ty.Long ty.Long h = (refl, tt)
both_number ty.Long ty.Bool h = absurd (clash h)
both_number ty.Bool ty.Int h = absurd (clash h)
both_number ty.Bool ty.Long h = absurd (clash h)
both_number ty.Bool ty.Bool h = absurd (clash h)

one_number : (t : Ty) → of_one_number_type (Some t) None ≡ true → IsNumber t
one_number ty.Int h = tt
one_number ty.Long h = tt
one_number ty.Bool h = absurd (clash h)

both_truth : (t u : Ty) → both_fit ty.Bool (Some t) (Some u) ≡ true → (t ≡ ty.Bool) × (u ≡ ty.Bool)
both_truth ty.Int u h = absurd (clash h)
both_truth ty.Long u h = absurd (clash h)
both_truth ty.Bool u h = (refl, sym (same_is ty.Bool u h))

one_truth : (t : Ty) → both_fit ty.Bool (Some t) None ≡ true → t ≡ ty.Bool
one_truth ty.Int h = absurd (clash h)
one_truth ty.Long h = absurd (clash h)
one_truth ty.Bool h = refl

module _ (x y : Option Ty) (t : Ty) (p : x ≡ Some t) where
  pub asked_type : (u : Ty) → fits u x ≡ true → u ≡ t
  asked_type u h = same_is u t (rw p at h)

  pub asked_of : (o : Option Ty) (u : Ty) → o ≡ Some u → fits_asked o x ≡ true → u ≡ t
  asked_of o u q h = same_is u t (subst (λ v. fits u v ≡ true) p (subst (λ w. fits_asked w x ≡ true) q h))

  pub one_type : (u : Ty) → y ≡ Some u → of_one_type x y ≡ true → t ≡ u
  one_type u q h = both_one t u (subst (λ v. of_one_type (Some t) v ≡ true) q (subst (λ v. of_one_type v y ≡ true) p h))

  pub number_type : (u : Ty) → y ≡ Some u → of_one_number_type x y ≡ true → (t ≡ u) × IsNumber t
  number_type u q h = both_number t u (subst (λ v. of_one_number_type (Some t) v ≡ true) q (subst (λ v. of_one_number_type v y ≡ true) p h))

  pub number_alone : y ≡ None → of_one_number_type x y ≡ true → IsNumber t
  number_alone q h = one_number t (subst (λ v. of_one_number_type (Some t) v ≡ true) q (subst (λ v. of_one_number_type v y ≡ true) p h))

  pub truth_type : (u : Ty) → y ≡ Some u → both_fit ty.Bool x y ≡ true → (t ≡ ty.Bool) × (u ≡ ty.Bool)
  truth_type u q h = both_truth t u (subst (λ v. both_fit ty.Bool (Some t) v ≡ true) q (subst (λ v. both_fit ty.Bool v y ≡ true) p h))

  pub truth_alone : y ≡ None → both_fit ty.Bool x y ≡ true → t ≡ ty.Bool
  truth_alone q h = one_truth t (subst (λ v. both_fit ty.Bool (Some t) v ≡ true) q (subst (λ v. both_fit ty.Bool v y ≡ true) p h))

-- The types of the first two children.
module _ (ns : List Node) (τ : ℕ → Option Ty) where
  pub held_first : (cs : List ℕ) (c : ℕ) → slice_get cs 0 ≡ Some c → (held ns τ cs).first ≡ τ c
  held_first [] c h = absurd (grind arith)
  held_first (x ∷ xs) c h = let q : x ≡ c = cc in ap τ q

  pub held_second : (cs : List ℕ) (c : ℕ) → slice_get cs 1 ≡ Some c → (held ns τ cs).second ≡ τ c
  held_second [] c h = absurd (grind arith)
  held_second (x ∷ xs) c h = held_first xs c h

  pub held_alone : (cs : List ℕ) → length cs ≤ 1 → (held ns τ cs).second ≡ None
  held_alone [] h = refl
  held_alone (x ∷ []) h = refl
  held_alone (x ∷ y ∷ xs) h = absurd (omega arith)

  pub held_some : (cs : List ℕ) (c : ℕ) → slice_get cs 0 ≡ Some c → ltb 0 (held ns τ cs).count ≡ true
  held_some [] c h = absurd (grind arith)
  held_some (x ∷ xs) c h = lt-ltb 0 ((held ns τ xs).count + 1) (omega arith)

  pub held_none : (cs : List ℕ) → length cs ≤ 0 → (held ns τ cs).count ≡ 0
  held_none [] h = refl
  held_none (x ∷ xs) h = absurd (omega arith)

-- What is declared where a use asks for it.
module _ (ns : List Node) where
  pub scalar_meant : (m : Option ℕ) → is_some (declared ns m) ≡ true → names_scalar (declared ns m) ≡ true → (d : ℕ) × (m ≡ Some d) × ((table.kind_at ns d ≡ 3) ⊎ (table.kind_at ns d ≡ 6))
  scalar_meant None s h = absurd (clash s)
  scalar_meant (Some d) s h = (
    d,
    refl,
    elim (or_cases (eqb (table.kind_at ns d) 3) (eqb (table.kind_at ns d) 6) h) [
      | inl x ↦ inl (eqb-true (table.kind_at ns d) 3 x)
      | inr y ↦ inr (eqb-true (table.kind_at ns d) 6 y)
    ],
  )

  pub array_meant : (m : Option ℕ) → is_some (declared ns m) ≡ true → names_array (declared ns m) ≡ true → (d : ℕ) × (m ≡ Some d) × (table.kind_at ns d ≡ 4)
  array_meant None s h = absurd (clash s)
  array_meant (Some d) s h = (d, refl, eqb-true (table.kind_at ns d) 4 h)

  pub callable_meant : (m : Option ℕ) → is_some (declared ns m) ≡ true → names_callable (declared ns m) ≡ true → (d : ℕ) × (m ≡ Some d) × ((table.kind_at ns d ≡ 2) ⊎ (table.kind_at ns d ≡ 5))
  callable_meant None s h = absurd (clash s)
  callable_meant (Some d) s h = (
    d,
    refl,
    elim (or_cases (eqb (table.kind_at ns d) 2) (eqb (table.kind_at ns d) 5) h) [
      | inl x ↦ inl (eqb-true (table.kind_at ns d) 2 x)
      | inr y ↦ inr (eqb-true (table.kind_at ns d) 5 y)
    ],
  )

pub scalar_variable : (k : ℕ) → (k ≡ 3) ⊎ (k ≡ 6) → is_variable k ≡ true
scalar_variable k (inl e) = rw e refl
scalar_variable k (inr e) = rw e refl

-- a type that is there came from the one way that gives it
whole : (b : Bool) (o x : Option Ty) → o ≡ cond b x None → has_type o ≡ true → o ≡ x
whole true o x e h = e
whole false o x e h = absurd (clash (rw e at h))

nothing : (b : Bool) (o x : Option Ty) → o ≡ cond b x None → x ≡ None → o ≡ None
nothing true o x e h = e ∙ h
nothing false o x e h = e

module _ (r : Rule) (a : Accepted r) where
  abbrev pub type : ℕ → Option Ty
  type = type_of (as_table r)

  module _ (i : ℕ) (l : i < length r.nodes) where
    pub rule_kept : (v : Violation) → broken_by v (facts_at (as_table r) i) ≡ false
    rule_kept v = kept_at (as_table r) a.none i l v

    pub type_sound : has_type (type i) ≡ true → type i ≡ sound_type (node r i).kind (facts_at (as_table r) i)
    type_sound h =
        let f = facts_at (as_table r) i in
        whole (not (is_some (first_broken rules f)) && f.held.typed) (type i) (sound_type (node r i).kind f) (type_is (as_table r) i l) h

    pub type_none : sound_type (node r i).kind (facts_at (as_table r) i) ≡ None → type i ≡ None
    type_none h =
        let f = facts_at (as_table r) i in
        nothing (not (is_some (first_broken rules f)) && f.held.typed) (type i) (sound_type (node r i).kind f) (type_is (as_table r) i l) h

    -- an expression that is no call
    pub own_sort : between 17 24 (kind_at r i) ≡ true → eqb (kind_at r i) 22 ≡ false → has_type (type i) ≡ true
    own_sort b n =
        elim (accepted_typed (as_table r) a.names a.strings a.shaped a.none i l b) [
          | inl x ↦ x
          | inr v ↦ absurd (eqb-false (kind_at r i) 22 n v.call)
        ]

    -- a child that is an expression, unless it is a statement's call
    pub child_sort : (k : ℕ) → has r i k ≡ true → eqb (kind_at r i) 10 ≡ false → between 17 24 (kind_at r (child r i k)) ≡ true → (t : Ty) × (type (child r i k) ≡ Some t)
    child_sort k h n b =
        let j = child r i k in
        elim (accepted_typed (as_table r) a.names a.strings a.shaped a.none j (child_inside r a.shaped.spans a.shaped.families i l k h) b) [
          | inl x ↦ has_some (type j) x
          | inr v ↦ absurd (eqb-false (kind_at r i) 10 n (ap (kind_at r) (sym (above_is r a i l k h)) ∙ v.statement))
        ]

    pub expression_at : between 8 24 (kind_at r i) ≡ true → eqb (kind_at r i) 10 ≡ false → (k : ℕ) → has r i k ≡ true → between 17 24 (kind_at r (child r i k)) ≡ true → (t : Ty) × Expression r type i (child r i k) t
    expression_at b n k h e =
        let s = child_sort k h n e in
        (s.0, record { names = plain_sees r a i l b k h; is = e; typed = s.1 })

    pub location_at : between 8 24 (kind_at r i) ≡ true → eqb (kind_at r i) 10 ≡ false → (k : ℕ) → has r i k ≡ true → between 17 18 (kind_at r (child r i k)) ≡ true → (t : Ty) × Location r type i (child r i k) t
    location_at b n k h e =
        let f : between 17 24 (kind_at r (child r i k)) ≡ true = grind (arith, nat_tests) in
        let s = child_sort k h n f in
        (s.0, record { names = plain_sees r a i l b k h; is = e; typed = s.1 })

    -- the facts of the first two children
    pub first_type : has r i 0 ≡ true → (o : Option Ty) → type (child r i 0) ≡ o → (held r.nodes type (children r i)).first ≡ o
    first_type h o e = ◌∙◌ {c = o} (held_first r.nodes type (children r i) (child r i 0) (child_nth r a.shaped.spans a.shaped.families i l 0 h)) e

    pub second_type : has r i 1 ≡ true → (o : Option Ty) → type (child r i 1) ≡ o → (held r.nodes type (children r i)).second ≡ o
    second_type h o e = ◌∙◌ {c = o} (held_second r.nodes type (children r i) (child r i 1) (child_nth r a.shaped.spans a.shaped.families i l 1 h)) e

    pub no_second : has r i 1 ≡ false → (held r.nodes type (children r i)).second ≡ None
    no_second h = held_alone r.nodes type (children r i) (has_not r a.shaped.spans a.shaped.families i l 1 h)

    -- what is meant is seen
    pub meant_seen : (d : ℕ) → meant r.nodes i ≡ Some d → is_variable (kind_at r d) ≡ true → sees r i d ≡ true
    meant_seen d m v = lives_seen r i d (meant_below r.nodes i d m) (meant_lives r.nodes i d m) v

    pub names_one : is_some (declared r.nodes (meant r.nodes i)) ≡ true → names_scalar (declared r.nodes (meant r.nodes i)) ≡ true → (d : ℕ) × NamesScalar r i d
    names_one s n =
        let q = scalar_meant r.nodes (meant r.nodes i) s n in
        (q.0, record { meant = q.1; scalar = q.2; seen = meant_seen q.0 q.1 (scalar_variable (kind_at r q.0) q.2) })

    -- and tells its type
    pub scalar_sort : (d : ℕ) → NamesScalar r i d → (t : Ty) × (tagged (node r d).tag ≡ Some t)
    scalar_sort d n = variable_sort r a d (let m = meant_below r.nodes i d n.meant in omega arith) (scalar_variable (kind_at r d) n.scalar)
