-- Methods: their parameters, and the body behind them.
use Rattle.std.proofs.Common.{◌≡◌, ℕ, zero, suc, ◌<◌, ◌≤◌, true, false, cond, eqb, ◌⊎◌, List, [], ◌∷◌, length, take, Some, sym, refl, ap, ◌∙◌, inl, inr, arith, eq-eqb, ne_eqb, eqb-true}
use Rattle.std.proofs.lemmas.List.{length-take-le}
use Rattle.std.proofs.lemmas.Bool.{cases_lt}
use Rattle.std.proofs.lemmas.Bool.Decides.{nat_tests}
use Rattle.std.specs.List.{slice_get}
use Rattle.nodes.specs.Kinds.{number}
use Rattle.nodes.specs.Shapes.{one}
use Rattle.nodes.specs.declared.kind.Kind.TheVariants as kind
use Rattle.nodes.specs.declared.node.Node.{Node}
use Rattle.nodes.specs.declared.shape.Class.TheVariants as class
use Rattle.names.specs.Walk.{own}
use Rattle.node_rules.specs.Rules.{cells_all}
use Rattle.node_rules.specs.Scopes.{above, in_loop, method_of, cells_of, cells_in, is_variable, place, first_block, body}
use Rattle.node_rules.specs.Tables as table
use Rattle.node_rules.specs.Types.{tagged}
use Rattle.semantics.specs.Rule.{Rule, node, kind_at, child, has, children, leading, parameters, is_field}
use Rattle.soundness.specs.Checked.{sees, offset, result, looped, Declared}
use Rattle.acceptance.proofs.Children.{has_count, has_not, nth_child, child_nth, child_inside}
use Rattle.acceptance.proofs.Slots.{Rest, Taken, Run, rest_all, take_one, take_many, take_none}
use Rattle.acceptance.proofs.Kin.{Accepted, kin_above, numbered, child_number, no_program}
use Rattle.acceptance.proofs.Standing.{method_child, loop_child, loop_none}
use Rattle.acceptance.proofs.Cells.{all_taken, cells_one, parameter_cells, local, local_child, place_child, place_field, offset_child, local_method, own_method}
use Rattle.acceptance.proofs.Seeing.{seen_from, seen_child, variable_sort}

-- The first s nodes are parameters, and the next is none.
leading_is : (r : Rule) (cs : List ℕ) (s : ℕ) → ((q c : ℕ) → q < s → slice_get cs q ≡ Some c → eqb (kind_at r c) 6 ≡ true) → ((c : ℕ) → slice_get cs s ≡ Some c → eqb (kind_at r c) 6 ≡ false) → leading r cs ≡ take s cs
leading_is r [] zero f g = refl
leading_is r [] (suc s) f g = refl
leading_is r (c ∷ cs) zero f g = let e = g c refl in rw (e, leading) refl
leading_is r (c ∷ cs) (suc s) f g = let e = f 0 c (omega arith) refl in rw (e, leading) (ap (λ xs. c ∷ xs) (leading_is r cs s (λ q x l h. f (suc q) x (omega arith) h) g))

-- The first s nodes are no blocks, and the next is one.
block_is : (ns : List Node) (cs : List ℕ) (s b : ℕ) → ((q c : ℕ) → q < s → slice_get cs q ≡ Some c → eqb (table.kind_at ns c) 7 ≡ false) → slice_get cs s ≡ Some b → eqb (table.kind_at ns b) 7 ≡ true → first_block ns cs ≡ b
block_is ns [] s b f h k = absurd (grind arith)
block_is ns (c ∷ cs) zero b f h k = let q : c ≡ b = cc in rw q (rw k refl)
block_is ns (c ∷ cs) (suc s) b f h k = let e = f 0 c (omega arith) refl in rw e (block_is ns cs s b (λ q x l h. f (suc q) x (omega arith) h) h k)

nth_take : (cs : List ℕ) (s q c : ℕ) → slice_get (take s cs) q ≡ Some c → (q < s) × (slice_get cs q ≡ Some c)
nth_take cs zero q c h = absurd (grind arith)
nth_take [] (suc s) q c h = absurd (grind arith)
nth_take (x ∷ cs) (suc s) zero c h = (omega arith, h)
nth_take (x ∷ cs) (suc s) (suc q) c h = let p = nth_take cs s q c h in (omega (arith, p.0), p.1)

take_nth : (cs : List ℕ) (s q c : ℕ) → q < s → slice_get cs q ≡ Some c → slice_get (take s cs) q ≡ Some c
take_nth cs zero q c l h = absurd (omega arith)
take_nth [] (suc s) q c l h = absurd (grind arith)
take_nth (x ∷ cs) (suc s) zero c l h = h
take_nth (x ∷ cs) (suc s) (suc q) c l h = take_nth cs s q c (omega arith) h

body_at : (ns : List Node) (m : ℕ) → eqb (table.kind_at ns m) 5 ≡ true → body ns m ≡ first_block ns (table.parts ns m)
unfolding body
body_at ns m h = rw h refl

module _ (r : Rule) (a : Accepted r) where
  -- only the program is of its kind, and only it holds methods and imports
  program_only : (p : ℕ) → p < length r.nodes → kind_at r p ≡ 1 → p ≡ 0
  program_only zero l h = refl
  program_only (suc p) l h = let k = kin_above r a (suc p) (omega arith) l in absurd (grind (arith, nat_tests))

  module _ (m : ℕ) (l : m < length r.nodes) (e : (node r m).kind ≡ kind.Method) where
    five : kind_at r m ≡ 5
    five = ap number e

    is_five : eqb (kind_at r m) 5 ≡ true
    is_five = eq-eqb (kind_at r m) 5 five

    low : 0 < m
    low = let h = five in no_program r a m (grind (arith, nat_tests))

    not_zero : eqb m 0 ≡ false
    not_zero = let h = low in ne_eqb m 0 (λ e. omega arith)

    pub method_above : above r.nodes m ≡ 0
    method_above =
        let n = numbered r a m low l in
        let k = kin_above r a m low l in
        let h = five in
        program_only (above r.nodes m) n.inside (grind (arith, nat_tests))

    zero_node : 0 < length r.nodes
    zero_node = omega arith

    abbrev place_of : ℕ
    place_of = (numbered r a m low l).index

    there : has r 0 place_of ≡ true
    there = let q = method_above in rw q at (numbered r a m low l).there

    method_is : m ≡ child r 0 place_of
    method_is = (numbered r a m low l).is ∙ ap (λ p. child r p place_of) method_above

    method_local : local r a m ≡ 0
    method_local = ap (local r a) method_is ∙ local_method r a zero_node place_of there

    method_unlooped : in_loop r.nodes m ≡ false
    method_unlooped =
        let p = a.shaped.program in
        ap (in_loop r.nodes) method_is ∙ loop_child r a 0 zero_node place_of there ∙ rw (p, loop_none r a) refl

    own_free : cells_in false (own r.nodes m) ≡ 0
    own_free = ap (λ x. cells_in false (own r.nodes x)) method_is ∙ own_method r a zero_node place_of there

    -- its parameters come first
    pub run : Run r m 0 class.Parameter (one class.Block ∷ [])
    run = take_many r m class.Parameter (one class.Block ∷ []) 0 (rw e at (rest_all r a.names a.strings a.shaped m l))

    abbrev pub arity : ℕ
    arity = run.stop

    last : Taken r m arity class.Block × Rest r m (suc arity) []
    last = take_one r m arity class.Block [] run.later

    pub parameter_kind : (q : ℕ) → q < arity → kind_at r (child r m q) ≡ 6
    parameter_kind q h = eqb-true (kind_at r (child r m q)) 6 (run.taken q (omega arith) h).kind

    pub parameter_inside : (q : ℕ) → q < arity → child r m q < length r.nodes
    parameter_inside q h = child_inside r a.shaped.spans a.shaped.families m l q (run.taken q (omega arith) h).there

    pub parameters_are : parameters r m ≡ take arity (children r m)
    parameters_are =
        leading_is r (children r m) arity
        (λ q c h n.
        let v = nth_child r a.shaped.spans a.shaped.families m l q c n in
        let x = v.1 in rw x (run.taken q (omega arith) h).kind)
        (λ c n.
        let v = nth_child r a.shaped.spans a.shaped.families m l arity c n in
        let x = v.1 in
        let y = last.0.kind in
        rw x (grind (arith, nat_tests)))

    pub parameters_count : length (parameters r m) ≡ arity
    parameters_count =
        let c = has_count r a.shaped.spans a.shaped.families m l arity last.0.there in
        ap length parameters_are ∙ length-take-le arity (children r m) (omega arith)

    pub parameter_nth : (q p : ℕ) → slice_get (parameters r m) q ≡ Some p → (q < arity) × (p ≡ child r m q)
    parameter_nth q p h =
        let n = nth_take (children r m) arity q p (ap (λ xs. slice_get xs q) (sym parameters_are) ∙ h) in
        (n.0, (nth_child r a.shaped.spans a.shaped.families m l q p n.1).1)

    pub nth_parameter : (q : ℕ) → q < arity → slice_get (parameters r m) q ≡ Some (child r m q)
    nth_parameter q h =
        ap (λ xs. slice_get xs q) parameters_are
        ∙ take_nth (children r m) arity q (child r m q) h (child_nth r a.shaped.spans a.shaped.families m l q (run.taken q (omega arith) h).there)

    -- and then its body
    pub body_is : body r.nodes m ≡ child r m arity
    body_is =
        body_at r.nodes m is_five
        ∙ block_is r.nodes (children r m) arity (child r m arity)
        (λ q c h n.
        let v = nth_child r a.shaped.spans a.shaped.families m l q c n in
        let x = v.1 in
        let y = (run.taken q (omega arith) h).kind in
        rw x (grind (arith, nat_tests)))
        (child_nth r a.shaped.spans a.shaped.families m l arity last.0.there) last.0.kind

    pub body_kind : kind_at r (body r.nodes m) ≡ 7
    body_kind = ap (kind_at r) body_is ∙ eqb-true (kind_at r (child r m arity)) 7 last.0.kind

    pub body_unlooped : looped r (body r.nodes m) ≡ false
    body_unlooped =
        let h = five in
        ap (in_loop r.nodes) body_is ∙ loop_child r a m l arity last.0.there ∙ rw (h, method_unlooped) refl

    pub body_result : result r (body r.nodes m) ≡ tagged (node r m).tag
    unfolding result
    body_result =
        ap (λ b. tagged (node r (method_of r.nodes b)).tag) body_is
        ∙ ap (λ x. tagged (node r x).tag) (method_child r a m l arity last.0.there ∙ ap (λ b. cond b m (method_of r.nodes m)) is_five)

    -- the q-th parameter has the q-th cell
    front_cells : (q : ℕ) → q ≤ arity → cells_all r.nodes (take q (children r m)) ≡ q
    front_cells q h =
        let c = has_count r a.shaped.spans a.shaped.families m l arity last.0.there in
        cells_one r.nodes (take q (children r m))
        (all_taken (λ d. cells_of (table.node r.nodes d) ≡ 1) (children r m) q
        (λ k c o n.
        let v = nth_child r a.shaped.spans a.shaped.families m l k c n in
        let x = v.1 in rw x (parameter_cells r.nodes (child r m k) (parameter_kind k (omega arith)))))
        ∙ length-take-le q (children r m) (omega arith)

    local_at : (q : ℕ) → q ≤ arity → has r m q ≡ true → local r a (child r m q) ≡ q
    local_at q h t =
        let x = local_child r a m l not_zero q t in
        let y = method_local in
        let z = front_cells q h in
        let w = own_free in omega arith

    pub body_offset : offset r (body r.nodes m) ≡ length (parameters r m)
    body_offset =
        ap (offset r) body_is ∙ offset_child r a m l not_zero arity last.0.there ∙ local_at arity (omega arith) last.0.there ∙ sym parameters_count

    pub parameter_place : (q : ℕ) → q < arity → place r.nodes (child r m q) ≡ q
    parameter_place q h =
        let t = (run.taken q (omega arith) h).there in
        let k = parameter_kind q h in
        place_child r a m l not_zero q t (rw k refl) ∙ local_at q (omega arith) t

    -- its body sees fields and parameters
    pub body_sees : (d : ℕ) → sees r (body r.nodes m) d ≡ true → ((is_field r d ≡ true) × (d < m) × Declared r 0 d 0) ⊎ ((q : ℕ) × (q < arity) × (d ≡ child r m q) × (is_field r d ≡ false))
    body_sees d s =
        let f = seen_from r (child r m arity) d (ap (λ b. sees r b d) (sym body_is) ∙ s) in
        let v = f.variable in
        let ji = child_inside r a.shaped.spans a.shaped.families m l arity last.0.there in
        elim (seen_child r a m l arity last.0.there d f) [
          | inl x ↦
              elim (seen_child r a 0 zero_node place_of there d (record { variable = v; lower = rw method_is at x.lower; spanned = rw method_is at x.spanned })) [
                | inl w ↦ absurd (let n = w.lower in omega arith)
                | inr w ↦
                    let up = w.0 in
                    let xl = x.lower in
                    let n = child_number r a d 0 w.1 (omega arith) up in
                    let k = n.0 in
                    let t = n.1 in
                    let c = n.2 in
                    let u : is_variable (kind_at r (child r 0 k)) ≡ true = rw c at v in
                    let st = variable_sort r a d (omega arith) v in
                    inl (
                      eq-eqb (above r.nodes d) 0 up,
                      xl,
                      record {
                        index = k;
                        here = child_nth r a.shaped.spans a.shaped.families 0 zero_node k t ∙ ap Some (sym c);
                        cell = (let g = ap (place r.nodes) c ∙ place_field r a zero_node k t u in omega arith);
                        sort = st.0;
                        typed = st.1;
                      },
                    )
              ]
          | inr y ↦
              let up = y.0 in
              let yl = y.2 in
              let n = child_number r a d m y.1 (omega arith) up in
              let q = n.0 in
              let t = n.1 in
              let c = n.2 in
              let o : is_field r d ≡ false = rw up not_zero in
              inr (q, before q t c v, c, o)
        ]
      where
        before : (q : ℕ) → has r m q ≡ true → d ≡ child r m q → is_variable (kind_at r d) ≡ true → q < arity
        before q t c v =
            let n = has_not r a.shaped.spans a.shaped.families m l (suc arity) (take_none r m (suc arity) last.1) in
            let o = has_count r a.shaped.spans a.shaped.families m l q t in
            elim (cases_lt q arity) [
              | inl lt ↦ lt
              | inr ge ↦
                  let x : q ≡ arity = omega arith in
                  let w : is_variable (kind_at r (child r m arity)) ≡ true = rw x at (rw c at v) in
                  let y = last.0.kind in absurd (grind (arith, nat_tests))
            ]
