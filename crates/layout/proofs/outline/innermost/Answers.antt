use Rattle.std.proofs.Common.{◌∙◌, nat_lt, sym, refl, ap, rules}
use Rattle.std.proofs.lemmas.Iterator.Search.{find_from_yields_List}
use Rattle.std.proofs.lemmas.Iterator.Adapters.{option_map_id}
use Rattle.std.specs.Option.{unwrap_or}
use Rattle.layout.specs.Faults.{end_of}
use Rattle.nodes.specs.Tree.{parent}
use Rattle.layout.proofs.Spanning.{yields_below, highest}
use Rattle.layout.proofs.outline.innermost.Goals as goal

pub returns : goal.returns
unfolding parent
returns c =
    let e = end_of c.args.nodes.now in
    let f = find_from_yields_List (λ j. nat_lt c.args.i (e j)) _ _ c.rfind.result c.rfind.ensures.ran (yields_below (record { start = 0; end = c.args.i }) c.args.i refl) (λ x b q k. search rules) in
    ap (λ o. unwrap_or o 0) (sym (option_map_id c.rfind.result) ∙ f) ∙ highest e c.args.i c.args.i
