-- What acceptance gives of a call: its arguments fit, and the body of its method is as a call needs it.
use Rattle.std.proofs.Common.{◌≡◌, ℕ, zero, suc, ◌<◌, ◌≤◌, Bool, true, false, cond, not, ◌&&◌, eqb, List, [], ◌∷◌, map, length, is_some, Some, None, Option, sym, refl, ap, ◌∙◌, subst, inl, inr, arith, eq-eqb, eqb-true}
use borrow.Author.Tests.{clash, both_ways, not-false, not-true}
use Rattle.std.proofs.lemmas.List.{length-map}
use Rattle.std.proofs.lemmas.Bool.{cases_Bool, and_parts}
use Rattle.std.proofs.lemmas.Bool.Decides.{nat_tests}
use Rattle.std.specs.List.{slice_get}
use Rattle.nodes.specs.Kinds.{number, between}
use Rattle.nodes.specs.Shapes.{shape, Arranged}
use Rattle.nodes.specs.declared.kind.Kind.TheVariants as kind
use Rattle.nodes.specs.declared.shape.Class.TheVariants as class
use Rattle.rule_laws.proofs.Expressions.{accepted_typed}
use Rattle.rule_laws.proofs.Meaning.{meant_below}
use Rattle.rule_laws.proofs.Numbers.{same_number}
use Rattle.node_rules.specs.Rules.{names_method, names_void, names_callable, declared, call_type, facts_at, sound_type, takes, matches, matching}
use Rattle.node_rules.specs.Scopes.{above, meant, body, place}
use Rattle.node_rules.specs.Tables as table
use Rattle.node_rules.specs.Types.{tagged, fits_asked, has_type}
use Rattle.node_rules.specs.declared.facts.Declared.{Declared}
use Rattle.node_rules.specs.declared.types.Ty.{Ty}
use Rattle.node_rules.specs.declared.types.Ty.TheVariants as ty
use Rattle.node_rules.specs.declared.violation.Violation.TheVariants.{Undeclared, Arguments, StringArgument, NotCallable}
use Rattle.semantics.specs.Rule.{Rule, node, kind_at, end, child, has, children, leading, parameters}
use Rattle.soundness.specs.Checked.{sees, Expression, Argument, BodySees, GoodMethodCall, GoodCall}
use Rattle.acceptance.proofs.Children.{has_count, has_not, child_nth, nth_child, child_inside}
use Rattle.acceptance.proofs.Slots.{arranged_all, arranged_few}
use Rattle.acceptance.proofs.Kin.{Accepted, as_table, all_nth}
use Rattle.acceptance.proofs.Cells.{above_is}
use Rattle.acceptance.proofs.Seeing.{seen_from, seen_to, plain_sees, variable_sort}
use Rattle.acceptance.proofs.Bodies.{parameter_kind, parameter_inside, parameter_nth, nth_parameter, parameter_place, body_kind, body_unlooped, body_result, body_offset, body_sees}
use Rattle.acceptance.proofs.Sorts.{type, rule_kept, type_sound, type_none, expression_at, callable_meant, asked_of}

-- Arguments that match: as many as parameters, each of a type that fits.
module _ (r : Rule) (τ : ℕ → Option Ty) where
  matches_count : (ps cs : List ℕ) → matches r.nodes τ ps cs ≡ true → length (leading r ps) ≡ length cs
  matches_count [] [] h = refl
  matches_count [] (c ∷ cs) h = absurd (clash h)
  matches_count (p ∷ ps) [] h = let n = not-true (eqb (kind_at r p) 6) h in rw (n, leading) refl
  matches_count (p ∷ ps) (c ∷ cs) h =
      let b = and_parts (takes (node r p) (τ c)) (matches r.nodes τ ps cs) h in
      let y = (and_parts (eqb (kind_at r p) 6) (fits_asked (tagged (node r p).tag) (τ c)) b.0).0 in
      rw (y, leading) (ap suc (matches_count ps cs b.1))

  matches_nth : (ps cs : List ℕ) (k p : ℕ) → matches r.nodes τ ps cs ≡ true → slice_get (leading r ps) k ≡ Some p → (c : ℕ) × (slice_get cs k ≡ Some c) × (fits_asked (tagged (node r p).tag) (τ c) ≡ true)
  matches_nth [] cs k p h n = absurd (grind arith)
  matches_nth (x ∷ ps) [] k p h n =
      let y = not-true (eqb (kind_at r x) 6) h in
      let m : slice_get {X = ℕ} [] k ≡ Some p = rw (y, leading) at n in
      absurd (grind arith)
  matches_nth (x ∷ ps) (c ∷ cs) k p h n =
      let b = and_parts (takes (node r x) (τ c)) (matches r.nodes τ ps cs) h in
      let y = and_parts (eqb (kind_at r x) 6) (fits_asked (tagged (node r x).tag) (τ c)) b.0 in
      let w = y.0 in
      let m : slice_get (x ∷ leading r ps) k ≡ Some p = rw (w, leading) at n in
      step k m y.1 (λ k m. matches_nth ps cs k p b.1 m)
    where
      step : (k : ℕ) → slice_get (x ∷ leading r ps) k ≡ Some p → fits_asked (tagged (node r x).tag) (τ c) ≡ true → ((k : ℕ) → slice_get (leading r ps) k ≡ Some p → (c : ℕ) × (slice_get cs k ≡ Some c) × (fits_asked (tagged (node r p).tag) (τ c) ≡ true)) → (d : ℕ) × (slice_get (c ∷ cs) k ≡ Some d) × (fits_asked (tagged (node r p).tag) (τ d) ≡ true)
      step zero m f more = let q : x ≡ p = cc in (c, refl, subst (λ v. fits_asked (tagged (node r v).tag) (τ c) ≡ true) q f)
      step (suc k) m f more = more k m

module _ (r : Rule) (a : Accepted r) (i : ℕ) (l : i < length r.nodes) (e : (node r i).kind ≡ kind.Call) where
  abbrev τ : ℕ → Option Ty
  τ = type r a

  abbrev name_at : Option Declared
  name_at = declared r.nodes (meant r.nodes i)

  call_kind : kind_at r i ≡ 22
  call_kind = ap number e

  arranged : Arranged (shape kind.Call) (map (table.kind_at r.nodes) (children r i))
  arranged = subst (λ k. Arranged (shape k) (map (table.kind_at r.nodes) (children r i))) e (a.shaped.nodes_fit i l).children_arranged

  few : length (children r i) ≤ 6
  few =
      let h = arranged_few (class.Argument ∷ class.Argument ∷ class.Argument ∷ class.Argument ∷ class.Argument ∷ class.Argument ∷ []) (map (table.kind_at r.nodes) (children r i)) arranged in
      let q = length-map (children r i) (table.kind_at r.nodes) in omega arith

  argument_kind : (k : ℕ) → has r i k ≡ true → between 17 25 (kind_at r (child r i k)) ≡ true
  argument_kind k h =
      let s : (n : ℕ) → between 17 25 n ≡ true → between 17 25 n ≡ true = λ n x. x in
      all_nth (λ n. between 17 25 n ≡ true) (table.kind_at r.nodes) (children r i) k (child r i k)
      (arranged_all (λ n. between 17 25 n ≡ true) (shape kind.Call) (map (table.kind_at r.nodes) (children r i)) (s, (s, (s, (s, (s, (s, tt)))))) arranged)
      (child_nth r a.shaped.spans a.shaped.families i l k h)

  plain : between 8 24 (kind_at r i) ≡ true
  plain = let k = call_kind in rw k refl

  no_statement : eqb (kind_at r i) 10 ≡ false
  no_statement = let k = call_kind in rw k refl

  expression_there : (k : ℕ) → has r i k ≡ true → eqb (kind_at r (child r i k)) 25 ≡ false → (t : Ty) × Expression r τ i (child r i k) t
  expression_there k h n = let b = argument_kind k h in expression_at r a i l plain no_statement k h (grind (arith, nat_tests))

  retyped : (j : ℕ) (t u : Ty) → t ≡ u → Expression r τ i j u → Expression r τ i j t
  retyped j t u q x = subst (Expression r τ i j) (sym q) x

  argument : (k : ℕ) → has r i k ≡ true → Argument r τ i (child r i k)
  argument k h = record {
    names = plain_sees r a i l plain k h;
    is = elim (cases_Bool (eqb (kind_at r (child r i k)) 25)) [
      | inl y ↦ inr (eqb-true (kind_at r (child r i k)) 25 y)
      | inr n ↦ inl (expression_there k h n)
    ];
  }

  -- the type of the call, by what it means
  sound : (d : ℕ) → meant r.nodes i ≡ Some d → sound_type (node r i).kind (facts_at (as_table r) i) ≡ call_type (declared r.nodes (Some d))
  sound d m = ap (λ k. sound_type k (facts_at (as_table r) i)) e ∙ ap (λ o. call_type (declared r.nodes o)) m

  import_type : (d : ℕ) → meant r.nodes i ≡ Some d → kind_at r d ≡ 2 → τ i ≡ Some ty.Int
  import_type d m k =
      let b : between 17 24 (kind_at r i) ≡ true = (let q = call_kind in rw q refl) in
      elim (accepted_typed (as_table r) a.names a.strings a.shaped a.none i l b) [
        | inl x ↦ type_sound r a i l x ∙ sound d m ∙ ap (λ n. cond (eqb n 2) (Some ty.Int) (tagged (node r d).tag)) k
        | inr v ↦
            let w : names_void (declared r.nodes (Some d)) ≡ true = subst (λ o. names_void (declared r.nodes o) ≡ true) m v.void in
            let y = (and_parts (eqb (kind_at r d) 5) (not (has_type (tagged (node r d).tag))) w).0 in
            absurd (grind (arith, nat_tests))
      ]

  method_type : (d : ℕ) → meant r.nodes i ≡ Some d → kind_at r d ≡ 5 → τ i ≡ tagged (node r d).tag
  method_type d m k =
      let b : between 17 24 (kind_at r i) ≡ true = (let q = call_kind in rw q refl) in
      let s = sound d m ∙ ap (λ n. cond (eqb n 2) (Some ty.Int) (tagged (node r d).tag)) k in
      elim (accepted_typed (as_table r) a.names a.strings a.shaped a.none i l b) [
        | inl x ↦ type_sound r a i l x ∙ s
        | inr v ↦
            let w : names_void (declared r.nodes (Some d)) ≡ true = subst (λ o. names_void (declared r.nodes o) ≡ true) m v.void in
            let y = (and_parts (eqb (kind_at r d) 5) (not (has_type (tagged (node r d).tag))) w).1 in
            let z = untyped (tagged (node r d).tag) y in
            type_none r a i l (s ∙ z) ∙ sym z
      ]
    where
      untyped : (o : Option Ty) → not (has_type o) ≡ true → o ≡ None
      untyped None h = refl
      untyped (Some t) h = absurd (clash h)

  -- a call of a method
  module _ (d : ℕ) (m : meant r.nodes i ≡ Some d) (k : kind_at r d ≡ 5) where
    low : d < i
    low = meant_below r.nodes i d m

    inside : d < length r.nodes
    inside = let h = low in omega arith

    is_method : (node r d).kind ≡ kind.Method
    is_method = same_number (node r d).kind kind.Method k

    method_named : names_method (declared r.nodes (Some d)) ≡ true
    method_named = eq-eqb (kind_at r d) 5 k

    matched : matches r.nodes τ (children r d) (children r i) ≡ true
    matched =
        let g : (names_method name_at && not (matching r.nodes τ (children r i) (meant r.nodes i))) ≡ false = rw e at (rule_kept r a i l Arguments) in
        let g2 : (names_method (declared r.nodes (Some d)) && not (matches r.nodes τ (children r d) (children r i))) ≡ false =
        subst (λ o. (names_method (declared r.nodes o) && not (matching r.nodes τ (children r i) o)) ≡ false) m g
        in
        let n = method_named in
        let g3 : not (matches r.nodes τ (children r d) (children r i)) ≡ false = rw n at g2 in
        not-false (matches r.nodes τ (children r d) (children r i)) g3

    -- no string is an argument of it
    no_string : (q : ℕ) → has r i q ≡ true → eqb (kind_at r (child r i q)) 25 ≡ false
    no_string q h =
        let c = child r i q in
        let g : (eqb (kind_at r c) 25 && names_method (declared r.nodes (meant r.nodes (above r.nodes c)))) ≡ false =
        rule_kept r a c (child_inside r a.shaped.spans a.shaped.families i l q h) StringArgument
        in
        let u : names_method (declared r.nodes (meant r.nodes (above r.nodes c))) ≡ true =
        ap (λ p. names_method (declared r.nodes (meant r.nodes p))) (above_is r a i l q h) ∙ ap (λ o. names_method (declared r.nodes o)) m ∙ method_named
        in
        only (eqb (kind_at r c) 25) (names_method (declared r.nodes (meant r.nodes (above r.nodes c)))) g u
      where
        only : (x y : Bool) → (x && y) ≡ false → y ≡ true → x ≡ false
        only true y g u = absurd (both_ways y g u)
        only false y g u = refl

    fitting : (q p : ℕ) → slice_get (parameters r d) q ≡ Some p → (t : Ty) × (tagged (node r p).tag ≡ Some t) × Expression r τ i (child r i q) t
    fitting q p n =
        let w = matches_nth r τ (children r d) (children r i) q p matched n in
        let c = w.0 in
        let j = nth_child r a.shaped.spans a.shaped.families i l q c w.1 in
        let x = expression_there q j.0 (no_string q j.0) in
        let o = parameter_nth r a d inside is_method q p n in
        let six = ap (kind_at r) o.1 ∙ parameter_kind r a d inside is_method q o.0 in
        let pl : p < length r.nodes = (let u = parameter_inside r a d inside is_method q o.0 in omega (arith, o.1)) in
        let s = variable_sort r a p pl (rw six refl) in
        let f : τ c ≡ Some x.0 = ap τ j.1 ∙ x.1.typed in
        (s.0, s.1, retyped (child r i q) s.0 x.0 (asked_of (τ c) None x.0 f (tagged (node r p).tag) s.0 s.1 w.2) x.1)

    seen_there : (x : ℕ) → sees r (body r.nodes d) x ≡ true → BodySees r i d x
    seen_there x s =
        let v = (seen_from r (body r.nodes d) x s).variable in
        elim (body_sees r a d inside is_method x s) [
          | inl f ↦
              let z : above r.nodes x ≡ 0 = eqb-true (above r.nodes x) 0 f.0 in
              let w = a.shaped.spans.whole in
              let h = low in
              let g = f.1 in
              let y : end r (above r.nodes x) ≡ length r.nodes = ap (end r) z ∙ w in
              inl (f.0, seen_to r i x (record { variable = v; lower = omega arith; spanned = omega arith }))
          | inr p ↦
              let q = p.0 in
              let o = p.2 in
              inr (
                q,
                nth_parameter r a d inside is_method q p.1 ∙ ap Some (sym o),
                p.3,
                ap (place r.nodes) o ∙ parameter_place r a d inside is_method q p.1,
                ap (kind_at r) o ∙ parameter_kind r a d inside is_method q p.1,
              )
        ]

    method_call : GoodMethodCall r τ i d
    method_call = record {
      count = sym (matches_count r τ (children r d) (children r i) matched);
      arguments = fitting;
      typed = method_type d m k;
      is_block = body_kind r a d inside is_method;
      unlooped = body_unlooped r a d inside is_method;
      gives = body_result r a d inside is_method;
      behind = body_offset r a d inside is_method;
      names = seen_there;
    }

  pub call : GoodCall r τ i
  call =
      let g1 : not (is_some name_at) ≡ false = rw e at (rule_kept r a i l Undeclared) in
      let g2 : not (names_callable name_at) ≡ false = rw e at (rule_kept r a i l NotCallable) in
      let n = callable_meant r.nodes (meant r.nodes i) (not-false (is_some name_at) g1) (not-false (names_callable name_at) g2) in
      record {
        few = few;
        inside = λ k h. has_count r a.shaped.spans a.shaped.families i l k h;
        all = λ k h. has_not r a.shaped.spans a.shaped.families i l k h;
        arguments = argument;
        declaration = n.0;
        meant = n.1;
        callee = elim n.2 [
          | inl x ↦ inl (x, import_type n.0 n.1 x)
          | inr y ↦ inr (y, method_call n.0 n.1 y)
        ];
      }
