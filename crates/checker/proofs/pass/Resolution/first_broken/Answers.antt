use Rattle.std.proofs.Common.{◌≡◌, ◌+◌, ◌-◌, ◌<◌, length, ap, ◌∙◌, subst, arith}
use Rattle.node_rules.specs.Rules.{first_from}
use Rattle.checker.specs.Kin.{table, TypedFrom}
use Rattle.checker.proofs.Judging.{judged_first, judged_types}
use Rattle.checker.proofs.pass.Resolution.first_broken.Goals as goal

pub loop-i-preserved : goal.loop-i-preserved
loop-i-preserved c =
    let nested = c.args.self.nodes.nested in
    let ns = c.args.self.nodes.list.now in
    let t = table ns c.args.main in
    let n = length ns in
    let i = c.loop-i.i - 1 in
    let some = c.loop-i-test.true in
    let most = c.loop-i.invariant.2 in
    let few = nested.few in
    let q : c.loop-i.i ≡ i + 1 = omega arith in
    let l : i < n = omega arith in
    let long : i < length c.loop-i.types = omega arith in
    let known : TypedFrom t c.loop-i.types (i + 1) = subst (λ m. TypedFrom t c.loop-i.types m) q c.loop-i.invariant.1 in
    let first : c.loop-i.first ≡ first_from t (i + 1) (n - (i + 1)) = c.loop-i.invariant.0 ∙ ap (λ m. first_from t m (n - m)) q in (
      c.earlier-first.ensures ∙ judged_first t nested.spans c.loop-i.types i l known c.facts-facts.result c.facts-facts.ensures c.first_broken-broken.result c.first_broken-broken.ensures c.loop-i.first first,
      judged_types t nested.spans c.loop-i.types i l known c.facts-facts.result c.facts-facts.ensures c.first_broken-broken.result c.first_broken-broken.ensures c.type_unless.result c.type_unless.ensures long,
      omega arith,
    )
