use Rattle.std.proofs.Common.{◌≡◌, ap, ◌∙◌, true, false, rules, tests}
use Rattle.std.proofs.lemmas.Iterator.{first_from_Range}
use Rattle.finding.specs.Checks.{found, passes_unless}
use Rattle.finding.specs.Search.{lowest}
use Rattle.layout.specs.Faults.{bad_children}
use Rattle.layout.specs.Head.{node_body}
use Rattle.layout.specs.Readers.{file_of}
use Rattle.layout.specs.declared.fault.FileFault.TheVariants.{NodeChildren}
use Rattle.tree.proofs.Searching.{lowest_found}
use Rattle.tree.proofs.body.Body.check_children.Goals as goal

pub returns : goal.returns
returns c =
    let body = node_body (file_of c.args.self.now.reader) in
    let f = first_from_Range _ c.find-place.new.self _ c.find-place.result (λ i. bad_children body i ≡ true) (λ i. bad_children body i ≡ false) c.find-place.ensures.ran (λ x q k. search (rules, tests)) (λ x q k. search (rules, tests)) in
    let m : c.map.result ≡ c.find-place.result = search rules in
    c.absent.ensures
    ∙ ap (λ o. passes_unless (found NodeChildren o)) (m ∙ lowest_found (bad_children body) _ c.find-place.result f ∙ ap (lowest (bad_children body)) c.args.self.now.counted)
