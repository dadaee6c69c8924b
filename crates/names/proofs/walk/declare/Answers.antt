use Rattle.std.proofs.Common.{◌≡◌, true, cond, None, ◌||◌, eqb, take, sym, ap, ◌∙◌, arith}
use Rattle.nodes.specs.Kinds.{number}
use Rattle.nodes.specs.declared.node.Node.{Node}
use Rattle.node_rules.specs.Tables.{kind_at, end}
use Rattle.node_rules.specs.Scopes.{declares, uses, scope, chosen, node_of, cells_of, cells_in, is_variable}
use Rattle.names.proofs.Contexts.{means_told, place_told, scope_known}
use Rattle.names.proofs.Nesting.{parent_child}
use Rattle.names.proofs.walk.declare.Goals as goal
use Rattle.names.proofs.walk.declare.Goals.{then-is_variable, else-is_variable}

pub enter-requires-clause-told : goal.enter-requires-clause-told
enter-requires-clause-told c =
    let ns = c.args.at.nodes.list.now in
    let i = c.args.at.i in
    let bs = c.args.names.now.bindings in
    let f = c.requires.ready.names in
    let n : true ≡ (declares ns i || uses ns i) = ap (λ b. b || uses ns i) (sym c.requires.kind) in
    let q = parent_child (end ns) c.args.at.parent i c.args.at.child in
    let told = place_told ns i _ (eqb c.args.at.parent 0) f (ap (λ p. eqb p 0) (sym q)) in
    let is : c.is_variable.result ≡ is_variable (kind_at ns i) = c.is_variable.ensures ∙ ap (λ (x : Node). is_variable (number x.kind)) c.node-node.ensures in (
      c.meaning-means.ensures ∙ ap (λ (x : Node). node_of (chosen x.name None (take c.args.used bs))) c.node-node.ensures ∙ means_told ns i _ true f n,
      elim c.if-is_variable.branch [
        | then-is_variable w ↦ w.cell-is ∙ w.cells_in_force-cell.ensures ∙ ap (λ b. cond b (cells_in (eqb c.args.at.parent 0) (take c.args.used bs)) 0) (sym w.if-is_variable.true ∙ is) ∙ told
        | else-is_variable w ↦ w.cell-is ∙ ap (λ b. cond b (cells_in (eqb c.args.at.parent 0) (take c.args.used bs)) 0) (sym w.if-is_variable.false ∙ is) ∙ told
      ],
    )

pub returns-clause-binding : goal.returns-clause-binding
returns-clause-binding c =
    let ns = c.args.at.nodes.list.now in
    let i = c.args.at.i in
    let few = c.args.at.nodes.nested.few in
    let inside = c.args.at.inside in
    let room = c.requires.ready.room.1 in
    let s = scope_known ns c.args.names.now.contexts _ i (omega arith) c.enter.ensures.contexts in
    ap (λ x. record { name = c.node-node.result.name; scope = x; node = i; cells = c.cells_of.result }) s
    ∙ ap (λ x. record { name = c.node-node.result.name; scope = scope ns i; node = i; cells = x }) c.cells_of.ensures
    ∙ ap (λ (x : Node). record { name = x.name; scope = scope ns i; node = i; cells = cells_of x }) c.node-node.ensures
