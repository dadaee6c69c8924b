use Rattle.std.proofs.Common.{◌∙◌, arith, rules, tests}
use Rattle.std.proofs.lemmas.Iterator.{YieldsList-from_map}
use Rattle.std.proofs.lemmas.Iterator.Consumers.{YieldsList-at, sum_by_from_yields_List}
use Rattle.std.proofs.lemmas.Iterator.Adapters.{fits_from_length, at_most_from_yields_List}
use Rattle.node_rules.specs.Tables.{node, parts}
use Rattle.node_rules.specs.Scopes.{cells_of}
use Rattle.node_rules.specs.Rules.{field_cells}
use Rattle.names.proofs.Yielding.{children_yield, parts_few}
use Rattle.checker.proofs.Kinship.{cells_is}
use Rattle.checker.proofs.kin.sum_cells.Goals as goal

pub sum-requires-clause-fits : goal.sum-requires-clause-fits
sum-requires-clause-fits c =
    let few = parts_few c.args.nodes.list.now c.args.nodes.nested 0 in
    fits_from_length _ _ 1024 _ (at_most_from_yields_List (YieldsList-at c.map.ensures.source (children_yield _ c.children.ensures)) few) c.map.ensures.closure (omega arith) (λ x r q k. search (rules, tests))

pub returns : goal.returns
unfolding field_cells
returns c =
    let ns = c.args.nodes.list.now in
    sum_by_from_yields_List _ _ c.map.result _ c.sum.ensures.ran (YieldsList-from_map _ (λ j. cells_of (node ns j)) (YieldsList-at c.map.ensures.source (children_yield _ c.children.ensures)) c.map.ensures.closure (λ x r q k. search (rules, tests)))
    ∙ cells_is ns (parts ns 0)
