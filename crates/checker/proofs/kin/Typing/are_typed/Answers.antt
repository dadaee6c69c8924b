use Rattle.std.proofs.Common.{rules, tests}
use Rattle.std.proofs.lemmas.Iterator.Search.{all_from_yields_List}
use Rattle.names.proofs.Yielding.{children_yield}
use Rattle.checker.specs.Kin.{is_typed}
use Rattle.checker.proofs.kin.Typing.are_typed.Goals as goal

pub returns : goal.returns
returns c = all_from_yields_List (is_typed c.args.self.nodes.list.now c.args.self.types.now) c.all.new.self _ c.all.result c.all.ensures.ran (children_yield _ c.children.ensures) (λ x b q k. search (rules, tests))
