use Rattle.std.proofs.Common.{arith, rules}
use Rattle.node_rules.specs.Scopes.{body}
use Rattle.names.proofs.Made.{made_at}
use Rattle.checker.proofs.pass.find_bodies.Goals as goal

pub returns : goal.returns
returns c k l =
    let ns = c.args.nodes.list.now in
    let few = c.args.nodes.nested.few in
    made_at _ (body ns) _ c.from_fn.result 0 (λ i y q e. search rules) 1024 c.from_fn.ensures.items k (omega arith)
