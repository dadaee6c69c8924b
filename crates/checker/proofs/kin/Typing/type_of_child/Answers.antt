use Rattle.std.proofs.Common.{sym, ap, ◌∙◌}
use Rattle.std.specs.Option.{option_map}
use Rattle.std.proofs.lemmas.Iterator.Consumers.{nth_from_yields_List}
use Rattle.names.proofs.Yielding.{children_yield}
use Rattle.checker.specs.Kin.{told_of}
use Rattle.checker.proofs.kin.Typing.type_of_child.Goals as goal

pub returns-in_err-nth : goal.returns-in_err-nth
returns-in_err-nth c =
    let at = nth_from_yields_List c.nth.result c.nth.new.self c.args.k c.nth.ensures.ran (children_yield _ c.children.ensures) in
    c.from_residual.ensures ∙ ap (told_of c.args.self.types.now) (ap (option_map (λ x. x)) (sym c.in_err-nth.was) ∙ at)

pub returns : goal.returns
returns c =
    let at = nth_from_yields_List c.nth.result c.nth.new.self c.args.k c.nth.ensures.ran (children_yield _ c.children.ensures) in
    c.told.ensures ∙ ap (told_of c.args.self.types.now) (ap (option_map (λ x. x)) (sym c.in_ok-nth.was) ∙ at)
