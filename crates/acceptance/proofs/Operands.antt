-- What acceptance gives of each expression but calls.
use Rattle.std.proofs.Common.{◌≡◌, ℕ, zero, suc, ◌<◌, true, false, cond, not, ◌&&◌, ◌||◌, eqb, leb, ◌⊎◌, [], ◌∷◌, length, ℤ, is_some, Some, None, Option, sym, refl, ap, ◌∙◌, subst, inl, inr, arith, eqb-true}
use borrow.Author.Tests.{clash, not-false}
use Rattle.std.proofs.lemmas.Bool.{cases_Bool, and_parts}
use Rattle.std.proofs.lemmas.Bool.Decides.{nat_tests}
use Rattle.nodes.specs.Kinds.{number, between}
use Rattle.nodes.specs.Shapes.{one}
use Rattle.nodes.specs.declared.kind.Kind.{Kind}
use Rattle.nodes.specs.declared.kind.Kind.TheVariants as kind
use Rattle.nodes.specs.declared.shape.Class.TheVariants as class
use Rattle.node_rules.specs.Rules.{names_scalar, names_array, declared, declared_type, held, facts_at, sound_type}
use Rattle.node_rules.specs.Scopes.{meant}
use Rattle.node_rules.specs.Types.{tagged, fits, both_fit, of_one_type, of_one_number_type, has_type}
use Rattle.node_rules.specs.declared.facts.Declared.{Declared}
use Rattle.node_rules.specs.declared.types.Ty.{Ty}
use Rattle.node_rules.specs.declared.types.Ty.TheVariants as ty
use Rattle.node_rules.specs.declared.violation.Violation.TheVariants.{Undeclared, NotScalar, NotElement, NotArray, Arithmetic, Equality, Logic, CastOperand}
use Rattle.semantics.specs.Rule.{Rule, node, kind_at, child, children}
use Rattle.semantics.specs.Values.{is_of, literal, literal_of, operator}
use Rattle.semantics.specs.declared.value.Operator.{Operator}
use Rattle.semantics.specs.declared.value.Operator.TheVariants.{Add, Subtract, Multiply, Divide, Remainder, Less, Greater, AtMost, AtLeast, Equal, NotEqual, And, Or}
use Rattle.soundness.specs.Checked.{operator_type, IsNumber, Expression, GoodLocation, GoodElement, GoodUnary, GoodCast, GoodLen, GoodBinary}
use Rattle.acceptance.proofs.Kin.{Accepted, as_table}
use Rattle.acceptance.proofs.Slots.{rest_as, take_one, take_none}
use Rattle.acceptance.proofs.Sorts.{type, rule_kept, type_sound, own_sort, expression_at, first_type, second_type, no_second, meant_seen, names_one, array_meant, one_type, number_type, number_alone, truth_type, truth_alone, asked_type}
use Rattle.acceptance.proofs.Statements.{two_tags}

-- A literal is of the type that its tag tells.
literal_fits : (o : Option Ty) (v : ℤ) → has_type o ≡ true → is_of o (literal_of o v) ≡ true
literal_fits None v h = absurd (clash h)
literal_fits (Some ty.Int) v h = refl
literal_fits (Some ty.Long) v h = refl
literal_fits (Some ty.Bool) v h = refl

cast_tags : (n : ℕ) → between 1 2 n ≡ true → (o : Option Ty) → o ≡ tagged n → ((n ≡ 1) × (o ≡ Some ty.Int)) ⊎ ((n ≡ 2) × (o ≡ Some ty.Long))
cast_tags zero h o q = absurd (grind (arith, nat_tests))
cast_tags (suc zero) h o q = inl (refl, q)
cast_tags (suc (suc zero)) h o q = inr (refl, q)
cast_tags (suc (suc (suc n))) h o q = absurd (grind (arith, nat_tests))

-- The operator of a tag, for operands of a type that the rules allow it, and the type of its result.
pub record Made (n : ℕ) (t : Ty) (o : Option Ty) : Type 0 where
  pub op : Operator
  pub is_op : operator n ≡ Some op
  pub made : Ty
  pub typed : operator_type t op ≡ Some made
  pub type_is : o ≡ Some made

made_number : (n : ℕ) → leb n 8 ≡ true → (t : Ty) → IsNumber t → (o : Option Ty) → o ≡ cond (leb n 4) (Some t) (Some ty.Bool) → Made n t o
made_number n h ty.Bool k o q = absurd k
made_number zero h ty.Int k o q = record { op = Add; is_op = refl; made = ty.Int; typed = refl; type_is = q }
made_number zero h ty.Long k o q = record { op = Add; is_op = refl; made = ty.Long; typed = refl; type_is = q }
made_number (suc zero) h ty.Int k o q = record { op = Subtract; is_op = refl; made = ty.Int; typed = refl; type_is = q }
made_number (suc zero) h ty.Long k o q = record { op = Subtract; is_op = refl; made = ty.Long; typed = refl; type_is = q }
made_number (suc (suc zero)) h ty.Int k o q = record { op = Multiply; is_op = refl; made = ty.Int; typed = refl; type_is = q }
made_number (suc (suc zero)) h ty.Long k o q = record { op = Multiply; is_op = refl; made = ty.Long; typed = refl; type_is = q }
made_number (suc (suc (suc zero))) h ty.Int k o q = record { op = Divide; is_op = refl; made = ty.Int; typed = refl; type_is = q }
made_number (suc (suc (suc zero))) h ty.Long k o q = record { op = Divide; is_op = refl; made = ty.Long; typed = refl; type_is = q }
made_number (suc (suc (suc (suc zero)))) h ty.Int k o q = record { op = Remainder; is_op = refl; made = ty.Int; typed = refl; type_is = q }
made_number (suc (suc (suc (suc zero)))) h ty.Long k o q = record { op = Remainder; is_op = refl; made = ty.Long; typed = refl; type_is = q }
made_number (suc (suc (suc (suc (suc zero))))) h ty.Int k o q = record { op = Less; is_op = refl; made = ty.Bool; typed = refl; type_is = q }
made_number (suc (suc (suc (suc (suc zero))))) h ty.Long k o q = record { op = Less; is_op = refl; made = ty.Bool; typed = refl; type_is = q }
made_number (suc (suc (suc (suc (suc (suc zero)))))) h ty.Int k o q = record { op = Greater; is_op = refl; made = ty.Bool; typed = refl; type_is = q }
made_number (suc (suc (suc (suc (suc (suc zero)))))) h ty.Long k o q = record { op = Greater; is_op = refl; made = ty.Bool; typed = refl; type_is = q }
made_number (suc (suc (suc (suc (suc (suc (suc zero))))))) h ty.Int k o q = record { op = AtMost; is_op = refl; made = ty.Bool; typed = refl; type_is = q }
made_number (suc (suc (suc (suc (suc (suc (suc zero))))))) h ty.Long k o q = record { op = AtMost; is_op = refl; made = ty.Bool; typed = refl; type_is = q }
made_number (suc (suc (suc (suc (suc (suc (suc (suc zero)))))))) h ty.Int k o q = record { op = AtLeast; is_op = refl; made = ty.Bool; typed = refl; type_is = q }
made_number (suc (suc (suc (suc (suc (suc (suc (suc zero)))))))) h ty.Long k o q = record { op = AtLeast; is_op = refl; made = ty.Bool; typed = refl; type_is = q }
made_number (suc (suc (suc (suc (suc (suc (suc (suc (suc n))))))))) h ty.Int k o q = absurd (grind (arith, nat_tests))
made_number (suc (suc (suc (suc (suc (suc (suc (suc (suc n))))))))) h ty.Long k o q = absurd (grind (arith, nat_tests))

equal_made : (t : Ty) → operator_type t Equal ≡ Some ty.Bool
equal_made ty.Int = refl
equal_made ty.Long = refl
equal_made ty.Bool = refl

unequal_made : (t : Ty) → operator_type t NotEqual ≡ Some ty.Bool
unequal_made ty.Int = refl
unequal_made ty.Long = refl
unequal_made ty.Bool = refl

nine_ten : (n : ℕ) → between 9 10 n ≡ true → (n ≡ 9) ⊎ (n ≡ 10)
nine_ten n h = elim (cases_Bool (eqb n 9)) [ inl e ↦ inl (eqb-true n 9 e) | inr e ↦ let g : eqb n 10 ≡ true = grind (arith, nat_tests) in inr (eqb-true n 10 g) ]

eleven_twelve : (n : ℕ) → between 11 12 n ≡ true → (n ≡ 11) ⊎ (n ≡ 12)
eleven_twelve n h = elim (cases_Bool (eqb n 11)) [ inl e ↦ inl (eqb-true n 11 e) | inr e ↦ let g : eqb n 12 ≡ true = grind (arith, nat_tests) in inr (eqb-true n 12 g) ]

made_equal : (n : ℕ) → between 9 10 n ≡ true → (t : Ty) (o : Option Ty) → o ≡ cond (leb n 4) (Some t) (Some ty.Bool) → Made n t o
made_equal n h t o q = elim (nine_ten n h) [
  | inl e ↦ record { op = Equal; is_op = ap operator e; made = ty.Bool; typed = equal_made t; type_is = q ∙ ap (λ n. cond (leb n 4) (Some t) (Some ty.Bool)) e }
  | inr e ↦ record { op = NotEqual; is_op = ap operator e; made = ty.Bool; typed = unequal_made t; type_is = q ∙ ap (λ n. cond (leb n 4) (Some t) (Some ty.Bool)) e }
]

made_truth : (n : ℕ) → between 11 12 n ≡ true → (t : Ty) → t ≡ ty.Bool → (o : Option Ty) → o ≡ cond (leb n 4) (Some t) (Some ty.Bool) → Made n t o
made_truth n h t b o q = elim (eleven_twelve n h) [
  | inl e ↦ record { op = And; is_op = ap operator e; made = ty.Bool; typed = ap (λ u. operator_type u And) b; type_is = q ∙ ap (λ n. cond (leb n 4) (Some t) (Some ty.Bool)) e }
  | inr e ↦ record { op = Or; is_op = ap operator e; made = ty.Bool; typed = ap (λ u. operator_type u Or) b; type_is = q ∙ ap (λ n. cond (leb n 4) (Some t) (Some ty.Bool)) e }
]

module _ (r : Rule) (a : Accepted r) (i : ℕ) (l : i < length r.nodes) where
  abbrev τ : ℕ → Option Ty
  τ = type r a

  abbrev name_at : Option Declared
  name_at = declared r.nodes (meant r.nodes i)

  -- the type by the node's kind
  type_as : (k : Kind) → (node r i).kind ≡ k → between 17 24 (number k) ≡ true → eqb (number k) 22 ≡ false → (has_type (τ i) ≡ true) × (τ i ≡ sound_type k (facts_at (as_table r) i))
  type_as k e b n =
      let q : kind_at r i ≡ number k = ap number e in
      let h = own_sort r a i l (rw q b) (rw q n) in
      (h, type_sound r a i l h ∙ ap (λ x. sound_type x (facts_at (as_table r) i)) e)

  pub scalar_location : (node r i).kind ≡ kind.ScalarLocation → GoodLocation r τ i
  scalar_location e =
      let g1 : not (is_some name_at) ≡ false = rw e at (rule_kept r a i l Undeclared) in
      let g2 : not (names_scalar name_at) ≡ false = rw e at (rule_kept r a i l NotScalar) in
      let n = names_one r a i l (not-false (is_some name_at) g1) (not-false (names_scalar name_at) g2) in
      record {
        declaration = n.0;
        names = n.1;
        typed = (type_as kind.ScalarLocation e refl refl).1 ∙ ap (λ o. declared_type (declared r.nodes o)) n.1.meant;
      }

  pub array_location : (node r i).kind ≡ kind.ArrayLocation → GoodElement r τ i
  array_location e =
      let k : kind_at r i ≡ 18 = ap number e in
      let h = held r.nodes τ (children r i) in
      let p = take_one r i 0 class.Expression [] (rest_as r a.names a.strings a.shaped i l kind.ArrayLocation e) in
      let x = expression_at r a i l (rw k refl) (rw k refl) 0 p.0.there p.0.kind in
      let f = first_type r a i l p.0.there (Some x.0) x.1.typed in
      let g1 : not (is_some name_at) ≡ false = rw e at (rule_kept r a i l Undeclared) in
      let g2 : not (names_array name_at && fits ty.Int h.first) ≡ false = rw e at (rule_kept r a i l NotElement) in
      let g3 = and_parts (names_array name_at) (fits ty.Int h.first) (not-false (names_array name_at && fits ty.Int h.first) g2) in
      let n = array_meant r.nodes (meant r.nodes i) (not-false (is_some name_at) g1) g3.0 in
      let d = n.2 in
      record {
        index = subst (Expression r τ i (child r i 0)) (sym (asked_type h.first None x.0 f ty.Int g3.1)) x.1;
        declaration = n.0;
        meant = n.1;
        array = d;
        seen = meant_seen r a i l n.0 n.1 (rw d refl);
        typed = (type_as kind.ArrayLocation e refl refl).1 ∙ ap (λ o. declared_type (declared r.nodes o)) n.1;
      }

  pub literal_node : (node r i).kind ≡ kind.Literal → is_of (τ i) (literal (node r i)) ≡ true
  literal_node e =
      let q = type_as kind.Literal e refl refl in
      subst (λ o. is_of o (literal (node r i)) ≡ true) (sym q.1) (literal_fits (tagged (node r i).tag) (node r i).value (ap has_type (sym q.1) ∙ q.0))

  pub unary : (node r i).kind ≡ kind.Unary → GoodUnary r τ i
  unary e =
      let k : kind_at r i ≡ 20 = ap number e in
      let h = held r.nodes τ (children r i) in
      let n = (node r i).tag in
      let p = take_one r i 0 class.Expression [] (rest_as r a.names a.strings a.shaped i l kind.Unary e) in
      let x = expression_at r a i l (rw k refl) (rw k refl) 0 p.0.there p.0.kind in
      let f = first_type r a i l p.0.there (Some x.0) x.1.typed in
      let s = no_second r a i l (take_none r i 1 p.1) in
      let q : τ i ≡ cond (eqb n 0) h.first (Some ty.Bool) = (type_as kind.Unary e refl refl).1 in
      elim (cases_Bool (eqb n 0)) [
        | inl z ↦
            let g : ((eqb n 0 || false) && not (of_one_number_type h.first h.second)) ≡ false = rw e at (rule_kept r a i l Arithmetic) in
            let g2 : not (of_one_number_type h.first h.second) ≡ false = rw z at g in
            record {
              sort = x.0;
              operand = x.1;
              typed = q ∙ ap (λ b. cond b h.first (Some ty.Bool)) z ∙ f;
              op = inl (eqb-true n 0 z, number_alone h.first h.second x.0 f s (not-false (of_one_number_type h.first h.second) g2));
            }
        | inr z ↦
            let g : ((not (eqb n 0) || false) && not (both_fit ty.Bool h.first h.second)) ≡ false = rw e at (rule_kept r a i l Logic) in
            let g2 : not (both_fit ty.Bool h.first h.second) ≡ false = rw z at g in
            let t = truth_alone h.first h.second x.0 f s (not-false (both_fit ty.Bool h.first h.second) g2) in
            let m : n ≡ 1 = (elim (two_tags n (rw e at (a.shaped.nodes_fit i l).tag)) [ inl y ↦ absurd (grind (arith, nat_tests)) | inr y ↦ y ]) in
            record {
              sort = x.0;
              operand = x.1;
              typed = q ∙ ap (λ b. cond b h.first (Some ty.Bool)) z ∙ ap Some (sym t);
              op = inr (m, t);
            }
      ]

  pub cast : (node r i).kind ≡ kind.Cast → GoodCast r τ i
  cast e =
      let k : kind_at r i ≡ 21 = ap number e in
      let h = held r.nodes τ (children r i) in
      let p = take_one r i 0 class.Expression [] (rest_as r a.names a.strings a.shaped i l kind.Cast e) in
      let x = expression_at r a i l (rw k refl) (rw k refl) 0 p.0.there p.0.kind in
      let f = first_type r a i l p.0.there (Some x.0) x.1.typed in
      let s = no_second r a i l (take_none r i 1 p.1) in
      let g : not (of_one_number_type h.first h.second) ≡ false = rw e at (rule_kept r a i l CastOperand) in
      record {
        sort = x.0;
        operand = x.1;
        number = number_alone h.first h.second x.0 f s (not-false (of_one_number_type h.first h.second) g);
        op = cast_tags (node r i).tag (rw e at (a.shaped.nodes_fit i l).tag) (τ i) (type_as kind.Cast e refl refl).1;
      }

  pub len : (node r i).kind ≡ kind.Len → GoodLen r τ i
  len e =
      let g1 : not (is_some name_at) ≡ false = rw e at (rule_kept r a i l Undeclared) in
      let g2 : not (names_array name_at) ≡ false = rw e at (rule_kept r a i l NotArray) in
      let n = array_meant r.nodes (meant r.nodes i) (not-false (is_some name_at) g1) (not-false (names_array name_at) g2) in
      record { declaration = n.0; meant = n.1; array = n.2; typed = (type_as kind.Len e refl refl).1 }

  pub binary : (node r i).kind ≡ kind.Binary → GoodBinary r τ i
  binary e =
      let k : kind_at r i ≡ 24 = ap number e in
      let h = held r.nodes τ (children r i) in
      let n = (node r i).tag in
      let p = take_one r i 0 class.Expression (one class.Expression ∷ []) (rest_as r a.names a.strings a.shaped i l kind.Binary e) in
      let w = take_one r i 1 class.Expression [] p.1 in
      let x = expression_at r a i l (rw k refl) (rw k refl) 0 p.0.there p.0.kind in
      let y = expression_at r a i l (rw k refl) (rw k refl) 1 w.0.there w.0.kind in
      let f = first_type r a i l p.0.there (Some x.0) x.1.typed in
      let s = second_type r a i l w.0.there (Some y.0) y.1.typed in
      let q : τ i ≡ cond (leb n 4) h.first (Some ty.Bool) = (type_as kind.Binary e refl refl).1 in
      let tag : between 0 12 n ≡ true = rw e at (a.shaped.nodes_fit i l).tag in
      let g1 : (leb n 8 && not (of_one_number_type h.first h.second)) ≡ false = rw e at (rule_kept r a i l Arithmetic) in
      let g2 : (between 9 10 n && not (of_one_type h.first h.second)) ≡ false = rw e at (rule_kept r a i l Equality) in
      let g3 : (leb 11 n && not (both_fit ty.Bool h.first h.second)) ≡ false = rw e at (rule_kept r a i l Logic) in
      joined h.first h.second n x.0 y.0 f s x.1 y.1 tag g1 g2 g3 (q ∙ ap (λ o. cond (leb n 4) o (Some ty.Bool)) f) refl
    where
      put : (n : ℕ) (t u : Ty) → t ≡ u → Expression r τ i (child r i 0) t → Expression r τ i (child r i 1) u → Made n t (τ i) → (node r i).tag ≡ n → GoodBinary r τ i
      put n t u q x y m e = record {
        sort = t;
        left = x;
        right = subst (Expression r τ i (child r i 1)) (sym q) y;
        op = m.op;
        is_op = ap operator e ∙ m.is_op;
        made = m.made;
        typed = m.typed;
        type_is = m.type_is;
      }

      joined : (v w : Option Ty) (n : ℕ) (t u : Ty) → v ≡ Some t → w ≡ Some u → Expression r τ i (child r i 0) t → Expression r τ i (child r i 1) u → between 0 12 n ≡ true → (leb n 8 && not (of_one_number_type v w)) ≡ false → (between 9 10 n && not (of_one_type v w)) ≡ false → (leb 11 n && not (both_fit ty.Bool v w)) ≡ false → τ i ≡ cond (leb n 4) (Some t) (Some ty.Bool) → (node r i).tag ≡ n → GoodBinary r τ i
      joined v w n t u f s x y tag g1 g2 g3 q e =
          elim (cases_Bool (leb n 8)) [
            | inl z ↦
                let g : not (of_one_number_type v w) ≡ false = rw z at g1 in
                let m = number_type v w t f u s (not-false (of_one_number_type v w) g) in
                put n t u m.0 x y (made_number n z t m.1 (τ i) q) e
            | inr z ↦ elim (cases_Bool (between 9 10 n)) [
              | inl b ↦
                  let g : not (of_one_type v w) ≡ false = rw b at g2 in
                  put n t u (one_type v w t f u s (not-false (of_one_type v w) g)) x y (made_equal n b t (τ i) q) e
              | inr b ↦
                  let c : leb 11 n ≡ true = grind (arith, nat_tests) in
                  let d : between 11 12 n ≡ true = grind (arith, nat_tests) in
                  let g : not (both_fit ty.Bool v w) ≡ false = rw c at g3 in
                  let m = truth_type v w t f u s (not-false (both_fit ty.Bool v w) g) in
                  put n t u (m.0 ∙ sym m.1) x y (made_truth n d t m.0 (τ i) q) e
            ]
          ]
