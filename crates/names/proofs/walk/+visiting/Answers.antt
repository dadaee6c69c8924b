use Rattle.std.proofs.Common.{◌≡◌, ◌≤◌, true, false, ◌||◌, eqb, take, None, sym, refl, ap, ◌∙◌, arith, rules}
use Rattle.nodes.specs.Kinds.{number, between}
use Rattle.nodes.specs.declared.node.Node.{Node}
use Rattle.node_rules.specs.Tables.{kind_at}
use Rattle.node_rules.specs.Scopes.{declares, uses, chosen, node_of}
use Rattle.names.proofs.Contexts.{means_told, no_place, statement_named, expression_named, expression_plain}
use Rattle.names.proofs.Walking.{entered_plain, entered_own, pushed_own, turning_first, turning_child, turning_next, turning_done}
use Rattle.names.proofs.walk.+visiting.Goals as goal
use Rattle.names.proofs.walk.+visiting.Goals.{statement-then-eq, statement-else-eq, expression-then-is_named_expression, expression-else-is_named_expression}

pub block-enter-requires-clause-told : goal.block-enter-requires-clause-told
block-enter-requires-clause-told t c =
    let ns = c.args.at.nodes.list.now in
    let i = c.args.at.i in
    let k : kind_at ns i ≡ 7 = c.requires.kind in
    let n : false ≡ (declares ns i || uses ns i) = rw k refl in
    (means_told ns i _ false c.requires.ready.names n, no_place ns i (rw k refl))

pub block-children-requires : goal.block-children-requires
block-children-requires t c =
    let at = c.args.at in
    let ns = at.nodes.list.now in
    let k : kind_at ns at.i ≡ 7 = c.requires.kind in
    let d : declares ns at.i ≡ false = rw k refl in
    (omega arith, (at.inside, entered_plain ns at.nodes.nested _ _ _ at.i at.parent at.inside at.child c.requires.ready _ _ d c.enter.ensures.bindings c.enter.ensures.contexts))

pub statement-enter-requires-clause-told : goal.statement-enter-requires-clause-told
statement-enter-requires-clause-told t c =
    let ns = c.args.at.nodes.list.now in
    let i = c.args.at.i in
    let bs = take c.args.count.now.used c.args.names.now.bindings in
    let g = c.requires.kind.0 in
    let l : kind_at ns i ≤ 16 = c.requires.kind.1 in
    let is : c.eq.result ≡ eqb (number c.node-node.result.kind) 12 = search rules in
    let named : c.eq.result ≡ (declares ns i || uses ns i) = is ∙ ap (λ (x : Node). eqb (number x.kind) 12) c.node-node.ensures ∙ sym (statement_named (kind_at ns i) g l) in (
      elim c.if-eq.branch [
        | statement-then-eq w ↦ w.means-is ∙ w.meaning-means.ensures ∙ ap (λ (x : Node). node_of (chosen x.name None bs)) c.node-node.ensures ∙ means_told ns i bs true c.requires.ready.names (sym w.if-eq.true ∙ named)
        | statement-else-eq w ↦ w.means-is ∙ means_told ns i bs false c.requires.ready.names (sym w.if-eq.false ∙ named)
      ],
      no_place ns i g,
    )

pub statement-children-requires : goal.statement-children-requires
statement-children-requires t c =
    let at = c.args.at in
    (omega arith, (at.inside, entered_plain at.nodes.list.now at.nodes.nested _ _ _ at.i at.parent at.inside at.child c.requires.ready _ _ c.requires.kind.0 c.enter.ensures.bindings c.enter.ensures.contexts))

pub expression-enter-requires-clause-told : goal.expression-enter-requires-clause-told
expression-enter-requires-clause-told t c =
    let ns = c.args.at.nodes.list.now in
    let i = c.args.at.i in
    let bs = take c.args.count.now.used c.args.names.now.bindings in
    let named : c.is_named_expression.result ≡ (declares ns i || uses ns i) = c.is_named_expression.ensures ∙ ap (λ (x : Node). between 17 18 (number x.kind) || between 22 23 (number x.kind)) c.node-node.ensures ∙ sym (expression_named (kind_at ns i) c.requires.kind) in (
      elim c.if-is_named_expression.branch [
        | expression-then-is_named_expression w ↦ w.means-is ∙ w.meaning-means.ensures ∙ ap (λ (x : Node). node_of (chosen x.name None bs)) c.node-node.ensures ∙ means_told ns i bs true c.requires.ready.names (sym w.if-is_named_expression.true ∙ named)
        | expression-else-is_named_expression w ↦ w.means-is ∙ means_told ns i bs false c.requires.ready.names (sym w.if-is_named_expression.false ∙ named)
      ],
      no_place ns i (expression_plain (kind_at ns i) c.requires.kind),
    )

pub expression-children-requires : goal.expression-children-requires
expression-children-requires t c =
    let at = c.args.at in
    let ns = at.nodes.list.now in
    (omega arith, (at.inside, entered_plain ns at.nodes.nested _ _ _ at.i at.parent at.inside at.child c.requires.ready _ _ (expression_plain (kind_at ns at.i) c.requires.kind) c.enter.ensures.bindings c.enter.ensures.contexts))

pub declaration-children-requires : goal.declaration-children-requires
declaration-children-requires t c =
    let at = c.args.at in
    let ns = at.nodes.list.now in
    let e = c.declare-binding.ensures in
    let p = pushed_own ns at.nodes.nested _ _ _ _ at.i c.push.result _ _ _ at.inside c.requires.ready e.bindings e.binding c.push.ensures in
    (omega arith, (at.inside, entered_own ns at.nodes.nested _ _ _ at.i at.parent at.inside at.child c.requires.ready _ _ _ c.requires.kind p.3 p.1 p.2 e.contexts))

pub children-loop-j-init : goal.children-loop-j-init
children-loop-j-init t c =
    (turning_first c.args.nodes.list.now c.args.nodes.nested _ _ _ c.args.i _ c.requires.inside c.requires.entered (search (rules, c.into_iter-j-iterator.ensures.into_iter_gives, c.children-j-items.ensures)), refl)

pub children-invariant_of-child : goal.children-invariant_of-child
children-invariant_of-child t c =
    let child = turning_child c.args.nodes.list.now c.args.nodes.nested c.args.i c.requires.inside _ _ _ _ _ c.in-Some.j _ (rw c.in-Some.ensures.steps at c.loop-j.invariant.0) in
    record { inside = child.0; child = child.1.0 }

pub children-visit-requires : goal.children-visit-requires
children-visit-requires t c =
    let child = turning_child c.args.nodes.list.now c.args.nodes.nested c.args.i c.requires.inside _ _ _ _ _ c.in-Some.j _ (rw c.in-Some.ensures.steps at c.loop-j.invariant.0) in
    let low = child.1.0.lower in
    (omega arith, child.1.1)

pub children-loop-j-preserved : goal.children-loop-j-preserved
children-loop-j-preserved t c =
    (turning_next c.args.nodes.list.now c.args.nodes.nested c.args.i c.requires.inside _ _ _ _ _ c.in-Some.j _ (rw c.in-Some.ensures.steps at c.loop-j.invariant.0) _ _ _ c.visit.ensures, refl)

pub children-returns : goal.children-returns
children-returns t c =
    turning_done c.args.nodes.list.now c.args.nodes.nested c.args.i c.requires.inside _ _ _ _ _ (rw c.in-None.ensures.steps.0 at c.loop-j.invariant.0) _ c.drop-scope.ensures
