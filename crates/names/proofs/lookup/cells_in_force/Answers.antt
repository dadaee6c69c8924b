use Rattle.std.proofs.Common.{◌≡◌, ◌+◌, Bool, cond, not, ◌||◌, eqb, List, [], ◌∷◌, refl, ap, ◌∙◌, rules, tests}
use Rattle.std.specs.List.{sum_by}
use Rattle.std.proofs.lemmas.Iterator.{YieldsList-from_map, YieldsList-from_slice}
use Rattle.std.proofs.lemmas.Iterator.Consumers.{sum_by_from_yields_List}
use Rattle.std.proofs.lemmas.List.Sums.{sum_by-cons}
use Rattle.node_rules.specs.Scopes.{cells_in}
use Rattle.node_rules.specs.declared.binding.Binding.{Binding}
use Rattle.names.proofs.lookup.cells_in_force.Goals as goal

-- the cells of those that count
sum_counted : (all : Bool) (bs : List Binding) → sum_by (λ (b : Binding). cond (all || not (eqb b.scope 0)) b.cells 0) bs ≡ cells_in all bs
sum_counted all [] = refl
sum_counted all (b ∷ bs) =
    sum_by-cons (λ (b : Binding). cond (all || not (eqb b.scope 0)) b.cells 0) b bs
    ∙ ap (λ n. cond (all || not (eqb b.scope 0)) b.cells 0 + n) (sum_counted all bs)

pub returns : goal.returns
returns c =
    sum_by_from_yields_List _ _ c.map.result _ c.sum.ensures.ran (YieldsList-from_map _ (λ (b : Binding). cond (c.args.all || not (eqb b.scope 0)) b.cells 0) (YieldsList-from_slice c.args.in_force.now cc) c.map.ensures.closure (λ x r q k. search (rules, tests)))
    ∙ sum_counted c.args.all c.args.in_force.now
