use Rattle.std.proofs.Common.{not, sym, ◌∙◌, ◌&&◌, refl, rules, tests}
use Rattle.std.specs.List.{list_all}
use Rattle.std.proofs.lemmas.Iterator.{YieldsList-from_slice}
use Rattle.std.proofs.lemmas.Iterator.Search.{all_from_yields_List}
use Rattle.std.proofs.lemmas.List.Recursion.{same_from_clauses}
use Rattle.nodes.specs.Shapes.{asks, satisfied}
use Rattle.tree.proofs.children.is_satisfied.Goals as goal

pub returns : goal.returns
returns c =
    all_from_yields_List (λ s. not (asks s.times)) _ _ _ c.all.ensures.ran (YieldsList-from_slice c.args.slots.now cc) (λ x b q k. search (rules, tests))
    ∙ sym (same_from_clauses satisfied (list_all (λ s. not (asks s.times))) (λ s b. not (asks s.times) && b) refl (λ _ _. refl) (λ _ _. refl) c.args.slots.now)
