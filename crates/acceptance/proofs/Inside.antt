-- Statements and blocks within statements and blocks.
use Rattle.std.proofs.Common.{◌≡◌, ℕ, zero, suc, ◌+◌, ◌-◌, ◌<◌, ◌≤◌, true, false, cond, ◌||◌, eqb, List, [], ◌∷◌, length, take, Some, unwrap_or, sym, refl, ap, ◌∙◌, inl, inr, arith, ltb-true}
use Rattle.std.proofs.lemmas.Option.{slice_get_past}
use Rattle.std.proofs.lemmas.Bool.{cases_lt, cases_Bool}
use Rattle.std.proofs.lemmas.Bool.Decides.{nat_tests}
use Rattle.std.specs.List.{slice_get}
use Rattle.nodes.specs.Kinds.{between}
use Rattle.nodes.specs.Shapes.{many}
use Rattle.nodes.specs.declared.kind.Kind.TheVariants as kind
use Rattle.nodes.specs.declared.shape.Class.TheVariants as class
use Rattle.node_rules.specs.Rules.{cells_all}
use Rattle.node_rules.specs.Scopes.{in_loop, method_of, cells_of}
use Rattle.node_rules.specs.Tables as table
use Rattle.node_rules.specs.Types.{tagged}
use Rattle.semantics.specs.Rule.{Rule, node, kind_at, end, child, has, children, past_declarations, first_statement}
use Rattle.semantics.specs.Acts.{needs}
use Rattle.soundness.specs.Checked.{result, Inner, Breaks, GoodBlock}
use Rattle.acceptance.proofs.Children.{has_count, has_not, nth_child, child_nth, child_inside}
use Rattle.acceptance.proofs.Slots.{Run, rest_all, take_many, take_none}
use Rattle.acceptance.proofs.Kin.{Accepted, kin_child, no_program, inner_above}
use Rattle.acceptance.proofs.Standing.{method_child, loop_child}
use Rattle.acceptance.proofs.Cells.{all_taken, all_dropped, cells_none, cells_front, inner_cells, local_child, child_of, offset_child, offset_own, own_inner}
use Rattle.acceptance.proofs.Seeing.{plain_sees, block_sees}

-- Some nodes from the front are declarations, and the next is none.
past_is : (r : Rule) (o : ℕ) (cs : List ℕ) (s : ℕ) → ((q c : ℕ) → q < s → slice_get cs q ≡ Some c → between 3 4 (kind_at r c) ≡ true) → ((c : ℕ) → slice_get cs s ≡ Some c → between 3 4 (kind_at r c) ≡ false) → past_declarations r o cs ≡ unwrap_or (slice_get cs s) o
past_is r o [] s f g = refl
past_is r o (c ∷ cs) zero f g = let e = g c refl in rw (e, past_declarations) refl
past_is r o (c ∷ cs) (suc s) f g = let e = f 0 c (omega arith) refl in rw (e, past_declarations) (past_is r o cs s (λ q x l h. f (suc q) x (omega arith) h) g)

-- Children are in order.
child_up : (r : Rule) (i k n : ℕ) → child r i k ≤ child r i (k + n)
child_up r i k zero = let e : k + 0 ≡ k = omega arith in rw e (omega arith)
child_up r i k (suc n) =
    let h = child_up r i k n in
    let e : k + suc n ≡ suc (k + n) = omega arith in rw e (omega arith)

pub child_order : (r : Rule) (i k s : ℕ) → k ≤ s → child r i k ≤ child r i s
child_order r i k s l = let e : k + (s - k) ≡ s = omega arith in rw e at (child_up r i k (s - k))

plain_needs : (r : Rule) (i : ℕ) → eqb (kind_at r i) 7 ≡ false → eqb (kind_at r i) 22 ≡ false → needs r i ≡ 0
plain_needs r i a b = rw (a, needs) (rw (b, needs) refl)

block_needs : (r : Rule) (i : ℕ) → eqb (kind_at r i) 7 ≡ true → needs r i ≡ cells_all r.nodes (children r i)
block_needs r i a = rw (a, needs) refl

module _ (r : Rule) (a : Accepted r) (i : ℕ) (l : i < length r.nodes) where
  pub result_child : eqb (kind_at r i) 5 ≡ false → (k : ℕ) → has r i k ≡ true → result r (child r i k) ≡ result r i
  unfolding result
  result_child n k h = ap (λ m. tagged (node r m).tag) (method_child r a i l k h ∙ ap (λ b. cond b i (method_of r.nodes i)) n)

  pub breaks_child : between 12 13 (kind_at r i) ≡ false → (k : ℕ) → has r i k ≡ true → Breaks r i (child r i k)
  breaks_child n k h b = let e = loop_child r a i l k h ∙ ap (λ v. v || in_loop r.nodes i) n in sym e ∙ b

  -- a statement that is no block
  plain_cells : between 8 24 (kind_at r i) ≡ true → (k : ℕ) → cells_all r.nodes (take k (children r i)) ≡ 0
  plain_cells b k =
      cells_none r.nodes (take k (children r i))
      (all_taken (λ d. cells_of (table.node r.nodes d) ≡ 0) (children r i) k
      (λ q c m h. child_of r a i l (λ d. cells_of (table.node r.nodes d) ≡ 0)
      (λ q t. let x = kin_child r a i l q t in inner_cells r.nodes (child r i q) (grind (arith, nat_tests))) q c h))

  pub plain_inner : between 8 16 (kind_at r i) ≡ true → (k : ℕ) → has r i k ≡ true → between 7 16 (kind_at r (child r i k)) ≡ true → Inner r i (child r i k)
  plain_inner b k h s =
      let b1 : between 8 24 (kind_at r i) ≡ true = grind (arith, nat_tests) in
      let b2 : between 6 25 (kind_at r i) ≡ true = grind (arith, nat_tests) in
      let b3 : between 7 25 (kind_at r i) ≡ true = grind (arith, nat_tests) in
      let b4 : eqb (kind_at r i) 1 ≡ false = grind (arith, nat_tests) in
      let b5 : eqb (kind_at r i) 5 ≡ false = grind (arith, nat_tests) in
      let b6 : eqb (kind_at r i) 7 ≡ false = grind (arith, nat_tests) in
      let b7 : eqb (kind_at r i) 22 ≡ false = grind (arith, nat_tests) in
      let z : eqb i 0 ≡ false = (let p = no_program r a i b4 in grind (arith, nat_tests)) in
      record {
        names = plain_sees r a i l b1 k h;
        is = s;
        gives = result_child b5 k h;
        behind = (
            let e = offset_child r a i l z k h in
            let f = local_child r a i l z k h in
            let g = offset_own r a i l (inner_above r a i l b2) in
            let m = own_inner r a i b3 in
            let n = plain_cells b1 k in
            let o = plain_needs r i b6 b7 in omega arith
            );
      }

  -- a block: declarations up to some number, and then statements
  module _ (b : kind_at r i ≡ 7) (e : (node r i).kind ≡ kind.Block) where
    declarations : Run r i 0 class.Declaration (many class.Statement ∷ [])
    declarations = take_many r i class.Declaration (many class.Statement ∷ []) 0 (rw e at (rest_all r a.names a.strings a.shaped i l))

    statements : Run r i declarations.stop class.Statement []
    statements = take_many r i class.Statement [] declarations.stop declarations.later

    statement_at : (k : ℕ) → declarations.stop ≤ k → has r i k ≡ true → between 8 16 (kind_at r (child r i k)) ≡ true
    statement_at k m h =
        elim (cases_lt k statements.stop) [
          | inl lt ↦ (statements.taken k m lt).kind
          | inr ge ↦
              absurd (
              let n = has_not r a.shaped.spans a.shaped.families i l statements.stop (take_none r i statements.stop statements.later) in
              let o = has_count r a.shaped.spans a.shaped.families i l k h in omega arith
              )
        ]

    first_is : first_statement r i ≡ unwrap_or (slice_get (children r i) declarations.stop) (end r i)
    first_is =
        past_is r (end r i) (children r i) declarations.stop
        (λ q c m h.
        let n = nth_child r a.shaped.spans a.shaped.families i l q c h in
        let x = n.1 in
        rw x (declarations.taken q (omega arith) m).kind)
        (λ c h.
        let n = nth_child r a.shaped.spans a.shaped.families i l declarations.stop c h in
        let x = n.1 in
        let s = statement_at declarations.stop (omega arith) n.0 in
        rw x (grind (arith, nat_tests)))

    first_there : has r i declarations.stop ≡ true → first_statement r i ≡ child r i declarations.stop
    first_there h = first_is ∙ ap (λ o. unwrap_or o (end r i)) (child_nth r a.shaped.spans a.shaped.families i l declarations.stop h)

    first_end : has r i declarations.stop ≡ false → first_statement r i ≡ end r i
    first_end h = first_is ∙ ap (λ o. unwrap_or o (end r i)) (slice_get_past (children r i) declarations.stop (has_not r a.shaped.spans a.shaped.families i l declarations.stop h))

    -- a child from the first statement on is behind the declarations
    past_first : (k : ℕ) → has r i k ≡ true → first_statement r i ≤ child r i k → declarations.stop ≤ k
    past_first k h f =
        elim (cases_lt k declarations.stop) [
          | inr le ↦ le
          | inl lt ↦ absurd (elim (cases_Bool (has r i declarations.stop)) [
            | inl y ↦
                let x = first_there y in
                let o = child_order r i (suc k) declarations.stop (omega arith) in
                let z = a.shaped.spans.sized (child r i k) (child_inside r a.shaped.spans a.shaped.families i l k h) in
                omega arith
            | inr n ↦
                let x = first_end n in
                let y = ltb-true (child r i k) (end r i) h in omega arith
          ])
        ]

    block_inner : (k : ℕ) → has r i k ≡ true → declarations.stop ≤ k → Inner r i (child r i k)
    block_inner k h s =
        let b2 : between 6 25 (kind_at r i) ≡ true = rw b refl in
        let b3 : between 7 25 (kind_at r i) ≡ true = rw b refl in
        let b4 : eqb (kind_at r i) 1 ≡ false = rw b refl in
        let b5 : eqb (kind_at r i) 5 ≡ false = rw b refl in
        let b6 : eqb (kind_at r i) 7 ≡ true = rw b refl in
        let z : eqb i 0 ≡ false = (let p = no_program r a i b4 in grind (arith, nat_tests)) in
        let t = statement_at k s h in
        record {
          names = block_sees r a i l b k h;
          is = grind (arith, nat_tests);
          gives = result_child b5 k h;
          behind = (
              let x = offset_child r a i l z k h in
              let f = local_child r a i l z k h in
              let g = offset_own r a i l (inner_above r a i l b2) in
              let m = own_inner r a i b3 in
              let n = cells_front r.nodes (children r i) k
              (all_dropped (λ d. cells_of (table.node r.nodes d) ≡ 0) (children r i) k
              (λ q c w u.
              let v = nth_child r a.shaped.spans a.shaped.families i l q c u in
              let y = v.1 in
              let t = statement_at q (omega arith) v.0 in
              rw y (inner_cells r.nodes (child r i q) (grind (arith, nat_tests))))) in
              let o = block_needs r i b6 in omega arith
              );
        }

    pub good_block : GoodBlock r i
    good_block = record {
      first = λ f. elim (cases_Bool (has r i declarations.stop)) [
        | inl y ↦ (declarations.stop, sym (first_there y))
        | inr n ↦ absurd (let x = first_end n in omega arith)
      ];
      inner = λ k h f. block_inner k h (past_first k h f);
      breaks = λ k h f. breaks_child (rw b refl) k h;
    }
