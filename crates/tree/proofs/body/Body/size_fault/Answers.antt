use Rattle.std.proofs.Common.{◌≡◌, nat_le, nat_lt, Bool, ◌||◌, rules, tests, true, false, sym, ◌∙◌, arith}
use Rattle.std.proofs.lemmas.Iterator.{first_from_find}
use Rattle.std.proofs.lemmas.Iterator.Consumers.{YieldsList-from_first}
use Rattle.finding.proofs.Lowest.{lowest_at}
use Rattle.layout.specs.Faults.{end_of}
use Rattle.nodes.specs.Tree.{bad_size}
use Rattle.tree.specs.Walk.{ahead}
use Rattle.std.specs.Option.{option_map}
use Rattle.tree.specs.declared.walk.Met.{Met}
use Rattle.tree.proofs.Nesting.{fault_root, fine_root, fault_later}
use Rattle.tree.proofs.Walking.{lowest_met}
use Rattle.tree.proofs.body.Body.size_fault.Goals as goal

pub returns-then-end_of-self : goal.returns-then-end_of-self
returns-then-end_of-self c =
    sym (lowest_at (bad_size _ _) _ 0 (omega arith) (λ k l. absurd (omega arith)) (fault_root (end_of c.args.self.now.nodes.now) c.args.self.now.len (λ q. omega arith)))

pub returns : goal.returns
returns c =
    let e = end_of c.args.self.now.nodes.now in
    let n = c.args.self.now.len in
    let test : Met → Bool = λ m. nat_le m.stop m.node || nat_lt m.limit m.stop in
    let m : c.map.result ≡ option_map (λ m. m.node) c.find.result = search rules in
    let f = first_from_find c.find.new.self _ c.find.result (λ m. test m ≡ true) (λ m. test m ≡ false) c.find.ensures.ran (YieldsList-from_first (λ x. x) ahead _ c.over.ensures) (λ x q k. search (rules, tests)) (λ x q k. search (rules, tests)) in
    m ∙ lowest_met e n test (bad_size e n) (omega arith) (fine_root e n (omega arith)) (λ i l b. sym (fault_later e n i l)) c.find.result f
