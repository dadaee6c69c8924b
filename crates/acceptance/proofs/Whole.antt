-- Main, and every node: what acceptance gives of a whole rule.
use Rattle.std.proofs.Common.{◌≡◌, ℕ, ◌+◌, ◌<◌, true, false, not, ◌&&◌, eqb, List, [], ◌∷◌, length, codes, sym, refl, ap, ◌∙◌, inl, inr, arith, eq-eqb, eqb-true}
use borrow.Author.Tests.{clash, eqb-false, not-false, not-true}
use Rattle.std.proofs.lemmas.Bool.{cases_Bool, cases_lt, and_parts, or_left, or_right}
use Rattle.nodes.specs.Kinds.{number}
use Rattle.nodes.specs.declared.kind.Kind.{Kind}
use Rattle.nodes.specs.declared.kind.Kind.TheVariants as kind
use Rattle.layout.specs.Items.{text_at}
use Rattle.tree.specs.Spans.{elem}
use Rattle.rule_laws.proofs.Numbers.{same_number}
use Rattle.node_rules.specs.Scopes.{body}
use Rattle.node_rules.specs.Tables.{any, spells, is_main, has_main}
use Rattle.node_rules.specs.Types.{tagged}
use Rattle.node_rules.specs.declared.violation.Violation.TheVariants.{NoMain}
use Rattle.semantics.specs.Rule.{Rule, node, kind_at, children, first_main, main}
use Rattle.soundness.specs.Checked.{sees, looped, result, offset, main_body, GoodBy, GoodMain, Checked}
use Rattle.acceptance.proofs.Children.{elem_child, child_inside}
use Rattle.acceptance.proofs.Kin.{Accepted}
use Rattle.acceptance.proofs.Inside.{good_block}
use Rattle.acceptance.proofs.Bodies.{arity, parameter_kind, parameters_count, body_kind, body_unlooped, body_result, body_offset, body_sees}
use Rattle.acceptance.proofs.Sorts.{type, rule_kept}
use Rattle.acceptance.proofs.Statements.{assignment, step, call_statement, if_node, for_node, while_node, return_node, looping}
use Rattle.acceptance.proofs.Operands.{scalar_location, array_location, literal_node, unary, cast, len, binary}
use Rattle.acceptance.proofs.Calls.{call}

-- Where some node is a main, the first of them is one, and among them.
found_main : (r : Rule) (ms : List ℕ) → any (is_main r.nodes r.names) ms ≡ true → (is_main r.nodes r.names (first_main r ms) ≡ true) × (elem (first_main r ms) ms ≡ true)
found_main r [] h = absurd (clash h)
found_main r (m ∷ ms) h =
    elim (cases_Bool (is_main r.nodes r.names m)) [
      | inl y ↦
          let q : first_main r (m ∷ ms) ≡ m = rw (y, first_main) refl in
          (ap (is_main r.nodes r.names) q ∙ y, ap (λ x. elem x (m ∷ ms)) q ∙ or_left (eqb m m) (elem m ms) (eq-eqb m m refl))
      | inr n ↦
          let q : first_main r (m ∷ ms) ≡ first_main r ms = rw (n, first_main) refl in
          let t = found_main r ms (rw n at h) in
          (ap (is_main r.nodes r.names) q ∙ t.0, ap (λ x. elem x (m ∷ ms)) q ∙ or_right (eqb (first_main r ms) m) (elem (first_main r ms) ms) t.1)
    ]

main_is : (r : Rule) → main r ≡ first_main r (children r 0)
unfolding main
main_is r = refl

module _ (r : Rule) (a : Accepted r) where
  zero_node : 0 < length r.nodes
  zero_node = let f = a.shaped.few.0 in omega arith

  main_there : any (is_main r.nodes r.names) (children r 0) ≡ true
  main_there =
      let p = a.shaped.program in
      let g : (eqb (kind_at r 0) 1 && not (has_main r.nodes r.names)) ≡ false = rule_kept r a 0 zero_node NoMain in
      let g2 : not (has_main r.nodes r.names) ≡ false = rw p at g in
      not-false (has_main r.nodes r.names) g2

  -- a main is a void method without parameters
  module _ (m : ℕ) (l : m < length r.nodes) (h : is_main r.nodes r.names m ≡ true) where
    parts_of : (eqb (kind_at r m) 5 ≡ true) × ((eqb (node r m).tag 0 ≡ true) × (eqb (kind_at r (m + 1)) 6 ≡ false))
    parts_of =
        let s = spells (codes "main") (text_at r.names (node r m).name) in
        let n = not (eqb (kind_at r (m + 1)) 6) in
        let p = and_parts (eqb (kind_at r m) 5) (eqb (node r m).tag 0 && (n && s)) h in
        let q = and_parts (eqb (node r m).tag 0) (n && s) p.1 in
        (p.0, (q.0, not-true (eqb (kind_at r (m + 1)) 6) (and_parts n s q.1).0))

    is_method : (node r m).kind ≡ kind.Method
    is_method = same_number (node r m).kind kind.Method (eqb-true (kind_at r m) 5 parts_of.0)

    no_parameters : arity r a m l is_method ≡ 0
    no_parameters =
        elim (cases_lt 0 (arity r a m l is_method)) [
          | inl lt ↦ absurd (eqb-false (kind_at r (m + 1)) 6 parts_of.1.1 (parameter_kind r a m l is_method 0 lt))
          | inr le ↦ omega arith
        ]

    main_at : m ≡ main r → GoodMain r
    main_at e =
        let b : main_body r ≡ body r.nodes m = ap (body r.nodes) (sym e) in
        record {
          is_block = ap (kind_at r) b ∙ body_kind r a m l is_method;
          unlooped = ap (looped r) b ∙ body_unlooped r a m l is_method;
          void = ap (result r) b ∙ body_result r a m l is_method ∙ ap tagged (eqb-true (node r m).tag 0 parts_of.1.0);
          behind = ap (offset r) b ∙ body_offset r a m l is_method ∙ parameters_count r a m l is_method ∙ no_parameters;
          names = λ d s. elim (body_sees r a m l is_method d (ap (λ x. sees r x d) (sym b) ∙ s)) [
            | inl f ↦ (f.0, f.2)
            | inr p ↦ absurd (let n = no_parameters in let q = p.1 in omega arith)
          ];
        }

  pub good_main : GoodMain r
  good_main =
      let f = found_main r (children r 0) main_there in
      let w = elem_child r a.shaped.spans a.shaped.families 0 zero_node (first_main r (children r 0)) f.1 in
      let i = child_inside r a.shaped.spans a.shaped.families 0 zero_node w.0 w.1.0 in
      let u = w.1.1 in
      let q = main_is r in
      let l : main r < length r.nodes = omega arith in
      main_at (main r) l (ap (is_main r.nodes r.names) q ∙ f.0) refl

  -- each kind
  good : (k : Kind) (i : ℕ) → i < length r.nodes → (node r i).kind ≡ k → GoodBy k r (type r a) i
  good kind.Program i l e = tt
  good kind.Import i l e = tt
  good kind.ScalarDeclaration i l e = tt
  good kind.ArrayDeclaration i l e = tt
  good kind.Method i l e = tt
  good kind.Parameter i l e = tt
  good kind.Block i l e = good_block r a i l (ap number e) e
  good kind.Assignment i l e = assignment r a i l e
  good kind.Step i l e = step r a i l e
  good kind.CallStatement i l e = call_statement r a i l e
  good kind.If i l e = if_node r a i l e
  good kind.For i l e = for_node r a i l e
  good kind.While i l e = while_node r a i l e
  good kind.Return i l e = return_node r a i l e
  good kind.Break i l e = let k : kind_at r i ≡ 15 = ap number e in looping r a i l (rw k refl)
  good kind.Continue i l e = let k : kind_at r i ≡ 16 = ap number e in looping r a i l (rw k refl)
  good kind.ScalarLocation i l e = scalar_location r a i l e
  good kind.ArrayLocation i l e = array_location r a i l e
  good kind.Literal i l e = literal_node r a i l e
  good kind.Unary i l e = unary r a i l e
  good kind.Cast i l e = cast r a i l e
  good kind.Call i l e = call r a i l e
  good kind.Len i l e = len r a i l e
  good kind.Binary i l e = binary r a i l e
  good kind.Text i l e = tt

  pub checked : Checked r (type r a)
  checked = record { nodes = λ i l. good (node r i).kind i l refl; main = good_main }
