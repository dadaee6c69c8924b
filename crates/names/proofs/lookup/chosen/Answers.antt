use Rattle.std.proofs.Common.{◌≡◌, ℕ, cond, eqb, List, [], ◌∷◌, None, Option, refl, ◌∙◌, rules, tests}
use Rattle.std.specs.List.{fold}
use Rattle.std.proofs.lemmas.Iterator.{YieldsList-from_slice}
use Rattle.std.proofs.lemmas.Iterator.Consumers.{fold_from_yields_List}
use Rattle.node_rules.specs.Scopes.{inner, chosen}
use Rattle.node_rules.specs.declared.binding.Binding.{Binding}
use Rattle.names.proofs.lookup.chosen.Goals as goal

-- a choice is a fold
fold_chosen : (name : ℕ) (best : Option Binding) (bs : List Binding) → fold (λ a (b : Binding). cond (eqb b.name name) (inner a b) a) best bs ≡ chosen name best bs
fold_chosen name best [] = refl
fold_chosen name best (b ∷ bs) = fold_chosen name (cond (eqb b.name name) (inner best b) best) bs

pub returns : goal.returns
returns c =
    let name = c.args.name in
    fold_from_yields_List _ (λ a (b : Binding). cond (eqb b.name name) (inner a b) a) None c.fold.result c.fold.ensures.ran (YieldsList-from_slice c.args.in_force.now cc) (λ a x b q k. search (rules, tests))
    ∙ fold_chosen name None c.args.in_force.now
