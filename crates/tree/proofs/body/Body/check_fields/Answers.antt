use Rattle.std.proofs.Common.{◌≡◌, ap, refl, ◌∙◌, rules, tests, length}
use Rattle.finding.specs.Checks.{found, passes_unless}
use Rattle.nodes.specs.Fields.{bad_fields}
use Rattle.layout.specs.Faults.{fault}
use Rattle.layout.specs.Head.{node_body}
use Rattle.layout.specs.Items.{names, strings}
use Rattle.layout.specs.Readers.{file_of}
use Rattle.layout.specs.declared.fault.FileFault.TheVariants.{NodeFields}
use Rattle.tree.proofs.Searching.{lowest_record}
use Rattle.tree.proofs.body.Body.check_fields.Goals as goal

pub returns : goal.returns
returns c =
    let file = file_of c.args.self.now.reader in
    let body = node_body file in
    let r = c.position-place.ensures.ran in
    let m : c.map.result ≡ c.position-place.result = search rules in
    let l = lowest_record body (bad_fields (length (names file)) (length (strings file))) _ _ (λ x q k. search (rules, tests)) (fault NodeFields file) (λ k. refl) r.0 c.chunks_exact-records.result r.3.0 c.position-place.new.self r.2 r.1 c.position-place.result _ (λ e x k. let h = rw e at k.1.1 in (k.0, search (rules, tests))) (c.chunks_exact-records.ensures.rest ∙ c.args.self.now.shown) c.chunks_exact-records.ensures.size r.3.1 r.3.2 r.4 r.5 in
    c.absent.ensures
    ∙ ap (λ o. passes_unless (found NodeFields o)) (m ∙ l)
