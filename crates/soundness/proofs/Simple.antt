-- The turns of the other kinds but calls are right.
use Rattle.std.proofs.Common.{◌≡◌, ℕ, ◌+◌, Bool, true, false, eqb, ltb, List, set, ℤ, pos, negsuc, Some, None, Option, refl, inl, inr, add-zero, arith, length-set}
use Rattle.std.proofs.lemmas.Bool.{ltb-true}
use Rattle.book.specs.Meanings.{Meaning}
use Rattle.nodes.specs.declared.kind.Kind.TheVariants as kind
use Rattle.node_rules.specs.Scopes.{cells_of}
use Rattle.node_rules.specs.declared.types.Ty.{Ty}
use Rattle.node_rules.specs.declared.types.Ty.TheVariants as ty
use Rattle.semantics.specs.Rule.{Rule, node, kind_at, child, has, address}
use Rattle.semantics.specs.Values.{is_of, assigned}
use Rattle.semantics.specs.Turns.{ends, sets, on_value, on_computed}
use Rattle.semantics.specs.Kinds.{to_child, element_turn, index_turn, for_turn, while_turn, started, resumed}
use Rattle.semantics.specs.declared.value.Value.{Value}
use Rattle.semantics.specs.declared.progress.Completion.{Completion}
use Rattle.semantics.specs.declared.progress.Completion.TheVariants.{Returned}
use Rattle.semantics.specs.declared.progress.Open.{Open}
use Rattle.soundness.specs.Checked.{offset, result, GoodFor, GoodWhile, GoodReturn, GoodElement, GoodBy}
use Rattle.soundness.proofs.Classes.{is_simple, is_call}
use Rattle.soundness.proofs.Safe.{Gives, WaitsBy}
use Rattle.soundness.proofs.Keeping.{keeps_take}
use Rattle.soundness.proofs.Turning.{Stands, Right}
use Rattle.soundness.proofs.Operating.{like_same, assigned_fits, stepped_fits, inverted_fits, converted_fits}
use Rattle.soundness.proofs.Steps.{child_held, to_expression, to_location, to_inner, value_right, cell_right, simple_by, end_right, truth_right, out_right, either, some_right, only_right, int_right, any_right, stands_set}
use Rattle.soundness.proofs.Right.{one_cell, scalar_by}

-- ── A step ──

pub step_starts : (r : Rule) (type : ℕ → Option Ty) (cs : List Value) (m : Meaning) (o : Open) → GoodBy kind.Step r type o.node → Stands r cs o → Right kind.Step r type (started kind.Step r o cs m) cs o
step_starts r type cs m o g s = to_location kind.Step r type 1 None _ g.sort cs o g.left s ((refl, refl), refl)

pub step_goes_on : (r : Rule) (type : ℕ → Option Ty) (cs : List Value) (m : Meaning) (o : Open) (l j f : ℕ) (e : Completion) → GoodBy kind.Step r type o.node → Stands r cs o → WaitsBy kind.Step r type cs o j f → Gives r type cs l j e → Right kind.Step r type (resumed kind.Step r o cs m e) cs o
step_goes_on r type cs m o l j f e g s w y =
    let u = s.used in
    cell_right kind.Step r type l _ g.sort cs o e _ g.left (rw w.0.1 at y) (λ a v lt h t.
    out_right kind.Step r type cs o o.node (Some g.sort) _ _ (stepped_fits g.sort (node r o.node).tag v g.number g.op t)
    (λ x z.
    let old : is_of (Some g.sort) h.held ≡ true = rw g.left.typed at h.typed in
    (inl (h.held, h.there, like_same g.sort h.held x old z), (tt, rw length-set (omega arith)))))

-- ── A call statement ──

pub statement_starts : (r : Rule) (type : ℕ → Option Ty) (cs : List Value) (m : Meaning) (o : Open) → GoodBy kind.CallStatement r type o.node → Stands r cs o → Right kind.CallStatement r type (started kind.CallStatement r o cs m) cs o
statement_starts r type cs m o g s = (((refl, refl), refl), child_held r cs o _ g.names s, rw (is_call _ g.call) tt, s)

pub statement_goes_on : (r : Rule) (type : ℕ → Option Ty) (cs : List Value) (m : Meaning) (o : Open) (l j f : ℕ) (e : Completion) → GoodBy kind.CallStatement r type o.node → Stands r cs o → WaitsBy kind.CallStatement r type cs o j f → Gives r type cs l j e → Right kind.CallStatement r type (resumed kind.CallStatement r o cs m e) cs o
statement_goes_on r type cs m o l j f e g s w y =
    let u = s.used in
    any_right kind.CallStatement r type l _ cs o e _ (rw (is_call _ g.call) refl) (rw w.0.1 at y) (tt, omega arith)

-- ── A for ──

pub for_starts : (r : Rule) (type : ℕ → Option Ty) (cs : List Value) (m : Meaning) (o : Open) → GoodFor r type o.node → Stands r cs o → Right kind.For r type (started kind.For r o cs m) cs o
for_starts r type cs m o g s = to_expression kind.For r type 1 None _ g.sort cs o g.first s (inl (inl (refl, refl)), refl)

index_right : (r : Rule) (type : ℕ → Option Ty) (cs : List Value) (o : Open) (v : Value) → (g : GoodFor r type o.node) → Stands r cs o → is_of (Some g.sort) v ≡ true → Right kind.For r type (index_turn r o cs v) cs o
index_right r type cs o v g s h =
    let u = s.used in
    let c = rw add-zero at (s.room.seen g.declaration g.index.seen 0 (one_cell r g.declaration g.index.scalar)) in
    let old : is_of (Some g.sort) c.1.held ≡ true = rw g.typed at c.1.typed in
    let stored : Right kind.For r type (on_computed o.node (assigned 0 c.1.held v) (λ w. sets (address r o.frame g.declaration) w (to_child r o 2 1))) cs o =
    out_right kind.For r type cs o o.node (Some g.sort) _ _ (assigned_fits g.sort 0 c.1.held v (inl refl) old h)
    (λ w t.
    let like = like_same g.sort c.1.held w old t in
    (inl (c.1.held, c.1.there, like), to_expression kind.For r type 2 None _ ty.Bool (set cs (address r o.frame g.declaration) w) o g.test (stands_set r cs o _ c.1.held w c.1.there like s) (inl (inr (refl, refl)), refl)))
    in
    some_right kind.For r type cs o _ _ _ g.index.meant (scalar_by r type cs o g.declaration _ (λ a old. on_computed o.node (assigned 0 old v) (λ w. sets a w (to_child r o 2 1))) g.index.scalar kind.For c.1 stored)

pub for_goes_on : (r : Rule) (type : ℕ → Option Ty) (cs : List Value) (m : Meaning) (o : Open) (l j f : ℕ) (e : Completion) → GoodFor r type o.node → Stands r cs o → o.base ≡ o.frame + offset r o.node → WaitsBy kind.For r type cs o j f → Gives r type cs l j e → Right kind.For r type (resumed kind.For r o cs m e) cs o
for_goes_on r type cs m o l j f e g s v (inl (inl w), q) y =
    let one : eqb o.came 1 ≡ true = rw w.0 refl in
    rw (one, for_turn) (value_right kind.For r type l _ g.sort cs o e _ g.first (rw w.1 at y) (λ x h. index_right r type cs o x g s h))
for_goes_on r type cs m o l j f e g s v (inl (inr w), q) y =
    let u = s.used in
    let one : eqb o.came 1 ≡ false = rw w.0 refl in
    let two : eqb o.came 2 ≡ true = rw w.0 refl in
    rw (one, for_turn, two) (value_right kind.For r type l _ ty.Bool cs o e _ g.test (rw w.1 at y) (λ x h. truth_right kind.For r type cs o x _ _ h
    (to_inner kind.For r type 3 None _ cs o g.block v s (inr (inl (refl, refl)), refl))
    (tt, omega arith)))
for_goes_on r type cs m o l j f e g s v (inr (inl w), q) y =
    let u = s.used in
    let one : eqb o.came 1 ≡ false = rw w.0 refl in
    let two : eqb o.came 2 ≡ false = rw w.0 refl in
    let three : eqb o.came 3 ≡ true = rw w.0 refl in
    let third = to_inner kind.For r type 4 None _ cs o g.third v s (inr (inr (refl, refl)), refl) in
    rw (one, for_turn, two, three) (end_right kind.For r type l _ cs o e _ _ _ g.block (rw w.1 at y) third (λ h. (tt, omega arith)) (λ h. third) (λ x h. (h, omega arith)))
for_goes_on r type cs m o l j f e g s v (inr (inr w), q) y =
    let one : eqb o.came 1 ≡ false = rw w.0 refl in
    let two : eqb o.came 2 ≡ false = rw w.0 refl in
    let three : eqb o.came 3 ≡ false = rw w.0 refl in
    let y' = rw w.1 at y in
    rw (one, for_turn, two, three) (simple_by kind.For r type cs o e _ _ _ (rw (is_simple _ g.update) at y') (to_expression kind.For r type 2 None _ ty.Bool cs o g.test s (inl (inr (refl, refl)), refl)))

-- ── A while ──

pub while_starts : (r : Rule) (type : ℕ → Option Ty) (cs : List Value) (m : Meaning) (o : Open) → GoodWhile r type o.node → Stands r cs o → Right kind.While r type (started kind.While r o cs m) cs o
while_starts r type cs m o g s = to_expression kind.While r type 1 None _ ty.Bool cs o g.test s (inl (refl, refl), refl)

pub while_goes_on : (r : Rule) (type : ℕ → Option Ty) (cs : List Value) (m : Meaning) (o : Open) (l j f : ℕ) (e : Completion) → GoodWhile r type o.node → Stands r cs o → o.base ≡ o.frame + offset r o.node → WaitsBy kind.While r type cs o j f → Gives r type cs l j e → Right kind.While r type (resumed kind.While r o cs m e) cs o
while_goes_on r type cs m o l j f e g s v (inl w, q) y =
    let u = s.used in
    let one : eqb o.came 1 ≡ true = rw w.0 refl in
    rw (one, while_turn) (value_right kind.While r type l _ ty.Bool cs o e _ g.test (rw w.1 at y) (λ x h. truth_right kind.While r type cs o x _ _ h
    (to_inner kind.While r type 2 None _ cs o g.block v s (inr (refl, refl), refl))
    (tt, omega arith)))
while_goes_on r type cs m o l j f e g s v (inr w, q) y =
    let u = s.used in
    let one : eqb o.came 1 ≡ false = rw w.0 refl in
    let again = while_starts r type cs m o g s in
    rw (one, while_turn) (end_right kind.While r type l _ cs o e _ _ _ g.block (rw w.1 at y) again (λ h. (tt, omega arith)) (λ h. again) (λ x h. (h, omega arith)))

-- ── A return, a break, a continue ──

return_by : (r : Rule) (type : ℕ → Option Ty) (cs : List Value) (o : Open) (t : Option Ty) (b : Bool) → result r o.node ≡ t → has r o.node 0 ≡ b → GoodReturn t b r type o.node → Stands r cs o → Right kind.Return r type (elim b [ true ↦ to_child r o 1 0 | false ↦ ends (Returned None) ]) cs o
return_by r type cs o None true p q g s = absurd g
return_by r type cs o None false p q g s = let u = s.used in (rw p tt, omega arith)
return_by r type cs o (Some t) true p q g s = to_expression kind.Return r type 1 None _ t cs o g s (((refl, refl), q), refl)
return_by r type cs o (Some t) false p q g s = absurd g

pub return_starts : (r : Rule) (type : ℕ → Option Ty) (cs : List Value) (m : Meaning) (o : Open) → GoodBy kind.Return r type o.node → Stands r cs o → Right kind.Return r type (started kind.Return r o cs m) cs o
return_starts r type cs m o g s = return_by r type cs o (result r o.node) (has r o.node 0) refl refl g s

returned_by : (r : Rule) (type : ℕ → Option Ty) (cs : List Value) (o : Open) (l j : ℕ) (e : Completion) (t : Option Ty) → result r o.node ≡ t → GoodReturn t true r type o.node → Stands r cs o → Gives r type cs l (child r o.node 0) e → Right kind.Return r type (on_value e (λ v. ends (Returned (Some v)))) cs o
returned_by r type cs o l j e None p g s y = absurd g
returned_by r type cs o l j e (Some t) p g s y =
    let u = s.used in
    value_right kind.Return r type l _ t cs o e _ g y (λ v h. (rw p h, omega arith))

pub return_goes_on : (r : Rule) (type : ℕ → Option Ty) (cs : List Value) (m : Meaning) (o : Open) (l j f : ℕ) (e : Completion) → GoodBy kind.Return r type o.node → Stands r cs o → WaitsBy kind.Return r type cs o j f → Gives r type cs l j e → Right kind.Return r type (resumed kind.Return r o cs m e) cs o
return_goes_on r type cs m o l j f e g s w y = returned_by r type cs o l j e (result r o.node) refl (rw w.0.1 at g) s (rw w.0.0.1 at y)

pub break_starts : (r : Rule) (type : ℕ → Option Ty) (cs : List Value) (m : Meaning) (o : Open) → GoodBy kind.Break r type o.node → Stands r cs o → Right kind.Break r type (started kind.Break r o cs m) cs o
break_starts r type cs m o g s = let u = s.used in (g, omega arith)

pub continue_starts : (r : Rule) (type : ℕ → Option Ty) (cs : List Value) (m : Meaning) (o : Open) → GoodBy kind.Continue r type o.node → Stands r cs o → Right kind.Continue r type (started kind.Continue r o cs m) cs o
continue_starts r type cs m o g s = let u = s.used in (g, omega arith)

-- ── An element of an array ──

pub element_starts : (r : Rule) (type : ℕ → Option Ty) (cs : List Value) (m : Meaning) (o : Open) → GoodElement r type o.node → Stands r cs o → Right kind.ArrayLocation r type (started kind.ArrayLocation r o cs m) cs o
element_starts r type cs m o g s = to_expression kind.ArrayLocation r type 1 None _ ty.Int cs o g.index s ((refl, refl), refl)

element_by : (r : Rule) (type : ℕ → Option Ty) (cs : List Value) (o : Open) (x : ℤ) → (g : GoodElement r type o.node) → Stands r cs o → Right kind.ArrayLocation r type (element_turn r o cs g.declaration x) cs o
element_by r type cs o (negsuc x) g s = only_right kind.ArrayLocation r type cs o (eqb (kind_at r g.declaration) 4) _ (rw g.array refl) tt
element_by r type cs o (pos x) g s =
    let u = s.used in
    only_right kind.ArrayLocation r type cs o (eqb (kind_at r g.declaration) 4) _ (rw g.array refl) (either kind.ArrayLocation r type cs o (ltb x (cells_of (node r g.declaration))) _ _
    (λ h.
    let lt = ltb-true _ _ h in
    let c = s.room.seen g.declaration g.seen x (omega arith) in
    some_right kind.ArrayLocation r type cs o _ _ _ c.1.there ((c.0, rw g.typed (keeps_take o.base cs _ _ c.0 c.1), rw g.typed c.1.typed), omega arith))
    (λ h. tt))

pub element_goes_on : (r : Rule) (type : ℕ → Option Ty) (cs : List Value) (m : Meaning) (o : Open) (l j f : ℕ) (e : Completion) → GoodElement r type o.node → Stands r cs o → WaitsBy kind.ArrayLocation r type cs o j f → Gives r type cs l j e → Right kind.ArrayLocation r type (resumed kind.ArrayLocation r o cs m e) cs o
element_goes_on r type cs m o l j f e g s w y = value_right kind.ArrayLocation r type l _ ty.Int cs o e _ g.index (rw w.0.1 at y) (λ v h. int_right kind.ArrayLocation r type cs o v _ h (λ x. some_right kind.ArrayLocation r type cs o _ _ _ g.meant (element_by r type cs o x g s)))

-- ── A unary operator, a cast, a len, a string ──

pub unary_starts : (r : Rule) (type : ℕ → Option Ty) (cs : List Value) (m : Meaning) (o : Open) → GoodBy kind.Unary r type o.node → Stands r cs o → Right kind.Unary r type (started kind.Unary r o cs m) cs o
unary_starts r type cs m o g s = to_expression kind.Unary r type 1 None _ g.sort cs o g.operand s ((refl, refl), refl)

pub unary_goes_on : (r : Rule) (type : ℕ → Option Ty) (cs : List Value) (m : Meaning) (o : Open) (l j f : ℕ) (e : Completion) → GoodBy kind.Unary r type o.node → Stands r cs o → WaitsBy kind.Unary r type cs o j f → Gives r type cs l j e → Right kind.Unary r type (resumed kind.Unary r o cs m e) cs o
unary_goes_on r type cs m o l j f e g s w y =
    let u = s.used in
    value_right kind.Unary r type l _ g.sort cs o e _ g.operand (rw w.0.1 at y) (λ v h. out_right kind.Unary r type cs o o.node (Some g.sort) _ _ (inverted_fits g.sort (node r o.node).tag v g.op h) (λ x k. (rw g.typed k, omega arith)))

pub cast_starts : (r : Rule) (type : ℕ → Option Ty) (cs : List Value) (m : Meaning) (o : Open) → GoodBy kind.Cast r type o.node → Stands r cs o → Right kind.Cast r type (started kind.Cast r o cs m) cs o
cast_starts r type cs m o g s = to_expression kind.Cast r type 1 None _ g.sort cs o g.operand s ((refl, refl), refl)

pub cast_goes_on : (r : Rule) (type : ℕ → Option Ty) (cs : List Value) (m : Meaning) (o : Open) (l j f : ℕ) (e : Completion) → GoodBy kind.Cast r type o.node → Stands r cs o → WaitsBy kind.Cast r type cs o j f → Gives r type cs l j e → Right kind.Cast r type (resumed kind.Cast r o cs m e) cs o
cast_goes_on r type cs m o l j f e g s w y =
    let u = s.used in
    value_right kind.Cast r type l _ g.sort cs o e _ g.operand (rw w.0.1 at y) (λ v h. out_right kind.Cast r type cs o o.node (type o.node) _ _ (converted_fits g.sort (node r o.node).tag v (type o.node) g.number g.op h) (λ x k. (k, omega arith)))

pub len_starts : (r : Rule) (type : ℕ → Option Ty) (cs : List Value) (m : Meaning) (o : Open) → GoodBy kind.Len r type o.node → Stands r cs o → Right kind.Len r type (started kind.Len r o cs m) cs o
len_starts r type cs m o g s =
    let u = s.used in
    some_right kind.Len r type cs o _ _ _ g.meant (only_right kind.Len r type cs o (eqb (kind_at r g.declaration) 4) _ (rw g.array refl) (rw g.typed refl, omega arith))

pub text_starts : (r : Rule) (type : ℕ → Option Ty) (cs : List Value) (m : Meaning) (o : Open) → Stands r cs o → Right kind.Text r type (started kind.Text r o cs m) cs o
text_starts r type cs m o s = let u = s.used in ((_, refl), omega arith)
