use Rattle.std.proofs.Common.{◌≡◌, Bool, nat_eq, rules, tests, true, false, ap, ◌∙◌, arith}
use Rattle.std.specs.Option.{option_map}
use Rattle.std.proofs.lemmas.Iterator.{first_from_find}
use Rattle.std.proofs.lemmas.Iterator.Consumers.{YieldsList-from_first}
use Rattle.layout.specs.Faults.{end_of}
use Rattle.nodes.specs.Tree.{too_deep}
use Rattle.tree.specs.Spans.{Spanned}
use Rattle.tree.specs.Walk.{ahead}
use Rattle.tree.specs.declared.walk.Met.{Met}
use Rattle.tree.proofs.Nesting.{no_fault, spanned, depth_root, told_deep}
use Rattle.tree.proofs.Walking.{levels_depth, lowest_met}
use Rattle.tree.proofs.body.Body.depth_fault.Goals as goal

pub returns : goal.returns
returns c =
    let e = end_of c.args.self.now.nodes.now in
    let n = c.args.self.now.len in
    let s : Spanned e n = spanned e n (omega arith) (no_fault e n c.requires) in
    let test : Met → Bool = λ m. nat_eq m.depth 65 in
    let m : c.map.result ≡ option_map (λ m. m.node) c.find.result = search rules in
    let f = first_from_find c.find.new.self _ c.find.result (λ m. test m ≡ true) (λ m. test m ≡ false) c.find.ensures.ran (YieldsList-from_first (λ x. x) ahead _ c.over.ensures) (λ x q k. search (rules, tests)) (λ x q k. search (rules, tests)) in
    m ∙ lowest_met e n test (too_deep e) (omega arith) (depth_root e (s.sized 0 (omega arith))) (λ i l b. ap (λ d. nat_eq d 65) (levels_depth e n i s b) ∙ told_deep e i) c.find.result f
