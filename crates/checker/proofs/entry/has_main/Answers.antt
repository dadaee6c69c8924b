use Rattle.std.proofs.Common.{◌∙◌, rules, tests}
use Rattle.std.proofs.lemmas.Iterator.Search.{any_from_yields_List}
use Rattle.layout.specs.Items.{names}
use Rattle.layout.specs.Readers.{file_of}
use Rattle.node_rules.specs.Tables.{parts, is_main}
use Rattle.names.proofs.Yielding.{children_yield}
use Rattle.checker.proofs.Kinship.{any_is}
use Rattle.checker.proofs.entry.has_main.Goals as goal

pub returns : goal.returns
returns c =
    let ns = c.args.nodes.list.now in
    let test = is_main ns (names (file_of c.args.reader.now)) in
    any_from_yields_List test c.any.new.self _ c.any.result c.any.ensures.ran (children_yield _ c.children.ensures) (λ x b q k. search (rules, tests)) ∙ any_is test (parts ns 0)
