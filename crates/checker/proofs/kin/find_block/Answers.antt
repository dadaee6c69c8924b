use Rattle.std.proofs.Common.{eqb, unwrap_or, sym, ap, ◌∙◌, rules, tests}
use Rattle.std.proofs.lemmas.Iterator.Adapters.{option_map_id}
use Rattle.std.proofs.lemmas.Iterator.Search.{find_from_yields_List}
use Rattle.node_rules.specs.Tables.{kind_at, parts}
use Rattle.names.proofs.Yielding.{children_yield}
use Rattle.checker.proofs.Kinship.{block_is}
use Rattle.checker.proofs.kin.find_block.Goals as goal

pub returns : goal.returns
returns c =
    let ns = c.args.nodes.list.now in
    let found = find_from_yields_List (λ j. eqb (kind_at ns j) 7) c.find.new.self _ c.find.result c.find.ensures.ran (children_yield _ c.children.ensures) (λ x b q k. search (rules, tests)) in
    c.unwrap_or.ensures ∙ ap (λ o. unwrap_or o 0) (sym (option_map_id c.find.result) ∙ found) ∙ block_is ns (parts ns c.args.i)
