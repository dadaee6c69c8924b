use Rattle.std.proofs.Common.{rules, sym, ap, ◌∙◌}
use Rattle.nodes.specs.Kinds.{kind_of}
use Rattle.tree.specs.Children.{kinds_left}
use Rattle.tree.proofs.Filling.{fit_unknown, fit_start, filled_by, known, unknown}
use Rattle.tree.proofs.children.do_children_fit.Goals as goal

pub returns-in_default : goal.returns-in_default
returns-in_default c =
    sym (fit_unknown c.args.nodes.now c.args.i (ap kind_of (sym c.byte.ensures) ∙ unknown _ _ _ c.in_default.not-Ok c.try_from.ensures))

pub returns : goal.returns
returns c =
    let h = c.try_fold.ensures.ran in
    filled_by kinds_left _ (λ p k q t. search rules) h.0 c.of.result h.4.0 c.try_fold.new.self (_, c.shape.result) (h.2, h.3) h.1 _ _ _ _ (λ k s. search rules) (λ x p. search rules) h.4.1 h.4.2 h.5 h.6 c.is_some_and.ensures
    ∙ fit_start c.args.nodes.now c.args.i c.in-Ok.kind _ _ (ap kind_of (sym c.byte.ensures) ∙ known _ _ _ c.in-Ok.ensures) c.shape.ensures c.of.ensures
