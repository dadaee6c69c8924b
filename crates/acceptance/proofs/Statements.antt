-- What acceptance gives of each statement.
use Rattle.std.proofs.Common.{◌≡◌, ℕ, zero, suc, ◌-◌, ◌<◌, Bool, true, false, not, ◌&&◌, eqb, ltb, ◌⊎◌, List, [], ◌∷◌, length, is_some, Some, None, Option, sym, refl, ap, ◌∙◌, subst, inl, inr, arith, eqb-true}
use borrow.Author.Tests.{clash, both_ways, not-false}
use Rattle.std.proofs.lemmas.Bool.{cases_Bool, and_parts}
use Rattle.std.proofs.lemmas.Bool.Decides.{nat_tests}
use Rattle.nodes.specs.Kinds.{number, between}
use Rattle.nodes.specs.Shapes.{one, perhaps}
use Rattle.nodes.specs.declared.kind.Kind.TheVariants as kind
use Rattle.nodes.specs.declared.shape.Class.TheVariants as class
use Rattle.node_rules.specs.Rules.{names_scalar, declared, declared_type, held}
use Rattle.node_rules.specs.Scopes.{meant, in_loop}
use Rattle.node_rules.specs.Types.{tagged, fits, fits_asked, of_one_type, of_one_number_type, has_type}
use Rattle.node_rules.specs.declared.types.Ty.{Ty}
use Rattle.node_rules.specs.declared.types.Ty.TheVariants as ty
use Rattle.node_rules.specs.declared.violation.Violation.TheVariants.{Undeclared, ReturnedValue, MissingResult, Condition, Assigned, Compound, Index, OutsideLoop}
use Rattle.semantics.specs.Rule.{Rule, node, kind_at, child, has, children}
use Rattle.semantics.specs.Values.{operator}
use Rattle.semantics.specs.declared.value.Operator.{Operator}
use Rattle.semantics.specs.declared.value.Operator.TheVariants.{Add, Subtract, Multiply, Divide, Remainder}
use Rattle.soundness.specs.Checked.{result, looped, operator_type, IsNumber, Expression, Location, GoodAssignment, GoodStep, GoodStatement, GoodIf, GoodFor, GoodWhile, GoodReturn}
use Rattle.acceptance.proofs.Children.{child_nth, has_not}
use Rattle.acceptance.proofs.Kin.{Accepted}
use Rattle.acceptance.proofs.Slots.{rest_as, take_one, take_perhaps, take_none}
use Rattle.acceptance.proofs.Seeing.{plain_sees}
use Rattle.acceptance.proofs.Inside.{plain_inner, breaks_child}
use Rattle.acceptance.proofs.Sorts.{type, rule_kept, expression_at, location_at, first_type, second_type, no_second, held_some, held_none, names_one, scalar_sort, one_type, number_type, number_alone, asked_type}

-- An operator that is joined with `=` keeps the type of numbers.
on_number : (p : Operator) → operator_type ty.Int p ≡ Some ty.Int → operator_type ty.Long p ≡ Some ty.Long → (t : Ty) → IsNumber t → operator_type t p ≡ Some t
on_number p x y ty.Int k = x
on_number p x y ty.Long k = y
on_number p x y ty.Bool k = absurd k

compound_op : (n : ℕ) → between 0 5 n ≡ true → eqb n 0 ≡ false → (t : Ty) → IsNumber t → (p : Operator) × (0 < n) × (operator (n - 1) ≡ Some p) × (operator_type t p ≡ Some t)
compound_op zero b z t k = absurd (clash (sym z))
compound_op (suc zero) b z t k = (Add, omega arith, refl, on_number Add refl refl t k)
compound_op (suc (suc zero)) b z t k = (Subtract, omega arith, refl, on_number Subtract refl refl t k)
compound_op (suc (suc (suc zero))) b z t k = (Multiply, omega arith, refl, on_number Multiply refl refl t k)
compound_op (suc (suc (suc (suc zero)))) b z t k = (Divide, omega arith, refl, on_number Divide refl refl t k)
compound_op (suc (suc (suc (suc (suc zero))))) b z t k = (Remainder, omega arith, refl, on_number Remainder refl refl t k)
compound_op (suc (suc (suc (suc (suc (suc n)))))) b z t k = absurd (grind (arith, nat_tests))

pub two_tags : (n : ℕ) → between 0 1 n ≡ true → (n ≡ 0) ⊎ (n ≡ 1)
two_tags zero h = inl refl
two_tags (suc zero) h = inr refl
two_tags (suc (suc n)) h = absurd (grind (arith, nat_tests))

module _ (r : Rule) (a : Accepted r) (i : ℕ) (l : i < length r.nodes) where
  abbrev kids : List ℕ
  kids = children r i

  pub assignment : (node r i).kind ≡ kind.Assignment → GoodAssignment r (type r a) i
  assignment e =
      let k : kind_at r i ≡ 8 = ap number e in
      let b1 : between 8 24 (kind_at r i) ≡ true = rw k refl in
      let b2 : eqb (kind_at r i) 10 ≡ false = rw k refl in
      let p = take_one r i 0 class.Location (one class.Expression ∷ []) (rest_as r a.names a.strings a.shaped i l kind.Assignment e) in
      let q = take_one r i 1 class.Expression [] p.1 in
      let x = location_at r a i l b1 b2 0 p.0.there p.0.kind in
      let y = expression_at r a i l b1 b2 1 q.0.there q.0.kind in
      let f = first_type r a i l p.0.there (Some x.0) x.1.typed in
      let s = second_type r a i l q.0.there (Some y.0) y.1.typed in
      let h = held r.nodes (type r a) kids in
      let tag : between 0 5 (node r i).tag ≡ true = rw e at (a.shaped.nodes_fit i l).tag in
      elim (cases_Bool (eqb (node r i).tag 0)) [
        | inl z ↦
            let g : (eqb (node r i).tag 0 && not (of_one_type h.first h.second)) ≡ false = rw e at (rule_kept r a i l Assigned) in
            let g2 : not (of_one_type h.first h.second) ≡ false = rw z at g in
            let t = one_type h.first h.second x.0 f y.0 s (not-false (of_one_type h.first h.second) g2) in
            record { sort = y.0; left = subst (Location r (type r a) i (child r i 0)) t x.1; right = y.1; op = inl (eqb-true (node r i).tag 0 z) }
        | inr z ↦
            let g : (not (eqb (node r i).tag 0) && not (of_one_number_type h.first h.second)) ≡ false = rw e at (rule_kept r a i l Compound) in
            let g2 : not (of_one_number_type h.first h.second) ≡ false = rw z at g in
            let t = number_type h.first h.second x.0 f y.0 s (not-false (of_one_number_type h.first h.second) g2) in
            record { sort = y.0; left = subst (Location r (type r a) i (child r i 0)) t.0 x.1; right = y.1; op = inr (compound_op (node r i).tag tag z y.0 (subst IsNumber t.0 t.1)) }
      ]

  pub step : (node r i).kind ≡ kind.Step → GoodStep r (type r a) i
  step e =
      let k : kind_at r i ≡ 9 = ap number e in
      let b1 : between 8 24 (kind_at r i) ≡ true = rw k refl in
      let b2 : eqb (kind_at r i) 10 ≡ false = rw k refl in
      let p = take_one r i 0 class.Location [] (rest_as r a.names a.strings a.shaped i l kind.Step e) in
      let x = location_at r a i l b1 b2 0 p.0.there p.0.kind in
      let f = first_type r a i l p.0.there (Some x.0) x.1.typed in
      let s = no_second r a i l (take_none r i 1 p.1) in
      let h = held r.nodes (type r a) kids in
      let g : not (of_one_number_type h.first h.second) ≡ false = rw e at (rule_kept r a i l Compound) in
      record {
        sort = x.0;
        left = x.1;
        number = number_alone h.first h.second x.0 f s (not-false (of_one_number_type h.first h.second) g);
        op = two_tags (node r i).tag (rw e at (a.shaped.nodes_fit i l).tag);
      }

  pub call_statement : (node r i).kind ≡ kind.CallStatement → GoodStatement r i
  call_statement e =
      let k : kind_at r i ≡ 10 = ap number e in
      let p = take_one r i 0 class.Call [] (rest_as r a.names a.strings a.shaped i l kind.CallStatement e) in
      record { call = eqb-true (kind_at r (child r i 0)) 22 p.0.kind; names = plain_sees r a i l (rw k refl) 0 p.0.there }

  -- a condition has the type of truths
  truth : (j : ℕ) (t : Ty) → Expression r (type r a) i j t → (o : Option Ty) → o ≡ Some t → not (fits ty.Bool o) ≡ false → Expression r (type r a) i j ty.Bool
  truth j t x o q h = subst (Expression r (type r a) i j) (sym (asked_type o None t q ty.Bool (not-false (fits ty.Bool o) h))) x

  pub if_node : (node r i).kind ≡ kind.If → GoodIf r (type r a) i
  if_node e =
      let k : kind_at r i ≡ 11 = ap number e in
      let b0 : between 8 16 (kind_at r i) ≡ true = rw k refl in
      let b1 : between 8 24 (kind_at r i) ≡ true = rw k refl in
      let b2 : eqb (kind_at r i) 10 ≡ false = rw k refl in
      let b3 : between 12 13 (kind_at r i) ≡ false = rw k refl in
      let p = take_one r i 0 class.Expression (one class.Block ∷ perhaps class.Block ∷ []) (rest_as r a.names a.strings a.shaped i l kind.If e) in
      let q = take_one r i 1 class.Block (perhaps class.Block ∷ []) p.1 in
      let x = expression_at r a i l b1 b2 0 p.0.there p.0.kind in
      let h = held r.nodes (type r a) kids in
      let g : not (fits ty.Bool h.first) ≡ false = rw e at (rule_kept r a i l Condition) in
      let c = q.0.kind in
      record {
        test = truth (child r i 0) x.0 x.1 h.first (first_type r a i l p.0.there (Some x.0) x.1.typed) g;
        arm = plain_inner r a i l b0 1 q.0.there (grind (arith, nat_tests));
        breaks = breaks_child r a i l b3 1 q.0.there;
        other = λ t. elim (take_perhaps r i 2 class.Block [] q.1) [
          | inl n ↦ absurd (both_ways (has r i 2) (take_none r i 2 n) t)
          | inr y ↦ let c = y.0.kind in plain_inner r a i l b0 2 y.0.there (grind (arith, nat_tests))
        ];
        breaks_other = λ t. breaks_child r a i l b3 2 t;
      }

  pub while_node : (node r i).kind ≡ kind.While → GoodWhile r (type r a) i
  while_node e =
      let k : kind_at r i ≡ 13 = ap number e in
      let b0 : between 8 16 (kind_at r i) ≡ true = rw k refl in
      let b1 : between 8 24 (kind_at r i) ≡ true = rw k refl in
      let b2 : eqb (kind_at r i) 10 ≡ false = rw k refl in
      let p = take_one r i 0 class.Expression (one class.Block ∷ []) (rest_as r a.names a.strings a.shaped i l kind.While e) in
      let q = take_one r i 1 class.Block [] p.1 in
      let x = expression_at r a i l b1 b2 0 p.0.there p.0.kind in
      let h = held r.nodes (type r a) kids in
      let g : not (fits ty.Bool h.first) ≡ false = rw e at (rule_kept r a i l Condition) in
      let c = q.0.kind in
      record {
        test = truth (child r i 0) x.0 x.1 h.first (first_type r a i l p.0.there (Some x.0) x.1.typed) g;
        block = plain_inner r a i l b0 1 q.0.there (grind (arith, nat_tests));
      }

  pub for_node : (node r i).kind ≡ kind.For → GoodFor r (type r a) i
  for_node e =
      let k : kind_at r i ≡ 12 = ap number e in
      let b0 : between 8 16 (kind_at r i) ≡ true = rw k refl in
      let b1 : between 8 24 (kind_at r i) ≡ true = rw k refl in
      let b2 : eqb (kind_at r i) 10 ≡ false = rw k refl in
      let p = take_one r i 0 class.Expression (one class.Expression ∷ one class.Update ∷ one class.Block ∷ []) (rest_as r a.names a.strings a.shaped i l kind.For e) in
      let q = take_one r i 1 class.Expression (one class.Update ∷ one class.Block ∷ []) p.1 in
      let u = take_one r i 2 class.Update (one class.Block ∷ []) q.1 in
      let w = take_one r i 3 class.Block [] u.1 in
      let x = expression_at r a i l b1 b2 0 p.0.there p.0.kind in
      let y = expression_at r a i l b1 b2 1 q.0.there q.0.kind in
      let h = held r.nodes (type r a) kids in
      let m = declared r.nodes (meant r.nodes i) in
      let g : not (fits ty.Bool h.second) ≡ false = rw e at (rule_kept r a i l Condition) in
      let g1 : not (is_some m) ≡ false = rw e at (rule_kept r a i l Undeclared) in
      let g2 : not (names_scalar m && of_one_number_type (declared_type m) h.first) ≡ false = rw e at (rule_kept r a i l Index) in
      let g3 = and_parts (names_scalar m) (of_one_number_type (declared_type m) h.first) (not-false (names_scalar m && of_one_number_type (declared_type m) h.first) g2) in
      let n = names_one r a i l (not-false (is_some m) g1) g3.0 in
      let v = scalar_sort r a i l n.0 n.1 in
      let c = w.0.kind in
      let c2 = u.0.kind in
      let d : declared_type m ≡ tagged (node r n.0).tag = ap (λ o. declared_type (declared r.nodes o)) n.1.meant in
      let f = first_type r a i l p.0.there (Some x.0) x.1.typed in
      record {
        declaration = n.0;
        index = n.1;
        sort = x.0;
        typed = v.1 ∙ ap Some (number_type (declared_type m) h.first v.0 (d ∙ v.1) x.0 f g3.1).0;
        first = x.1;
        test = truth (child r i 1) y.0 y.1 h.second (second_type r a i l q.0.there (Some y.0) y.1.typed) g;
        third = plain_inner r a i l b0 2 u.0.there (grind (arith, nat_tests));
        update = c2;
        block = plain_inner r a i l b0 3 w.0.there (grind (arith, nat_tests));
      }

  pub return_node : (node r i).kind ≡ kind.Return → GoodReturn (result r i) (has r i 0) r (type r a) i
  unfolding result
  return_node e =
      let k : kind_at r i ≡ 14 = ap number e in
      let b1 : between 8 24 (kind_at r i) ≡ true = rw k refl in
      let b2 : eqb (kind_at r i) 10 ≡ false = rw k refl in
      let h = held r.nodes (type r a) kids in
      let g : (not (has_type (result r i)) && ltb 0 h.count) ≡ false = rw e at (rule_kept r a i l ReturnedValue) in
      let g2 : (has_type (result r i) && not (ltb 0 h.count && fits_asked (result r i) h.first)) ≡ false = rw e at (rule_kept r a i l MissingResult) in
      let p : has r i 0 ≡ true → (t : Ty) × Expression r (type r a) i (child r i 0) t =
      λ t. elim (take_perhaps r i 0 class.Expression [] (rest_as r a.names a.strings a.shaped i l kind.Return e)) [
        | inl n ↦ absurd (both_ways (has r i 0) (take_none r i 0 n) t)
        | inr y ↦ expression_at r a i l b1 b2 0 y.0.there y.0.kind
      ]
      in by (result r i) (has r i 0) refl g g2 p
    where
      by : (o : Option Ty) (b : Bool) → has r i 0 ≡ b → (not (has_type o) && ltb 0 (held r.nodes (type r a) (children r i)).count) ≡ false → (has_type o && not (ltb 0 (held r.nodes (type r a) (children r i)).count && fits_asked o (held r.nodes (type r a) (children r i)).first)) ≡ false → (b ≡ true → (t : Ty) × Expression r (type r a) i (child r i 0) t) → GoodReturn o b r (type r a) i
      by None true q g g2 p = both_ways (ltb 0 (held r.nodes (type r a) (children r i)).count) g (held_some r.nodes (type r a) (children r i) (child r i 0) (child_nth r a.shaped.spans a.shaped.families i l 0 q))
      by None false q g g2 p = tt
      by (Some t) true q g g2 p =
          let x = p refl in
          let h = held r.nodes (type r a) (children r i) in
          let f = and_parts (ltb 0 h.count) (fits_asked (Some t) h.first) (not-false (ltb 0 h.count && fits_asked (Some t) h.first) g2) in
          subst (Expression r (type r a) i (child r i 0)) (sym (asked_type h.first None x.0 (first_type r a i l q (Some x.0) x.1.typed) t f.1)) x.1
      by (Some t) false q g g2 p =
          let h = held r.nodes (type r a) (children r i) in
          let z = held_none r.nodes (type r a) (children r i) (has_not r a.shaped.spans a.shaped.families i l 0 q) in
          clash (sym (rw z at g2))

  pub looping : between 15 16 (kind_at r i) ≡ true → looped r i ≡ true
  looping b =
      let g : (between 15 16 (kind_at r i) && not (in_loop r.nodes i)) ≡ false = rule_kept r a i l OutsideLoop in
      let g2 : not (in_loop r.nodes i) ≡ false = rw b at g in
      not-false (in_loop r.nodes i) g2
