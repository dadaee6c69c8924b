-- What an accepted rule tells of a node is so.
use Rattle.std.proofs.Common.{◌≡◌, ℕ, ◌<◌, true, cond, ◌&&◌, ltb, List, length, get_or, take, Some, None, Option, sym, refl, ap, ◌∙◌, subst, arith, lt-ltb}
use Rattle.std.proofs.lemmas.List.{get_or-take}
use Rattle.std.specs.Prelude.{Ok, ⊤}
use Rattle.finding.specs.declared.Finding.{Finding}
use Rattle.nodes.specs.declared.node.Node.{Node}
use Rattle.names.specs.Walk.{vacant}
use Rattle.names.specs.Resolved.{NamesTold}
use Rattle.names.specs.declared.Resolved.{Resolved}
use Rattle.node_rules.specs.Tables.{blank, nodes_of, table_of}
use Rattle.node_rules.specs.Scopes.{body, context}
use Rattle.node_rules.specs.Rules.{first_violation}
use Rattle.node_rules.specs.declared.types.Ty.{Ty}
use Rattle.node_rules.specs.declared.violation.Violation.{Violation}
use Rattle.checker.specs.Kin.{TypedFrom}
use Rattle.finding.specs.Checks.{passes_unless}
use Rattle.checker.specs.Checked.{Tells, Accepted}

-- nothing is refused where there is no first violation
pub lawful : (o : Option (Finding Violation)) (u : ⊤) → passes_unless o ≡ Ok u → o ≡ None
lawful None u e = refl
lawful (Some finding) u e = cc

-- a table's nodes are those of the file
long : (file : List ℕ) → length (table_of file).nodes ≡ length (nodes_of file)
unfolding table_of
long file = refl

module _ (r : Resolved) (types : List (Option Ty)) (bodies : List ℕ) (file : List ℕ) (h : NamesTold r file) (t : TypedFrom (table_of file) types 0)
    (b : (k : ℕ) → k < length (take r.count r.nodes) → get_or bodies k 0 ≡ body (take r.count r.nodes) k) where
  bodies_are : (k : ℕ) → k < length (nodes_of file) → get_or bodies k 0 ≡ body (nodes_of file) k
  bodies_are = subst (λ (ns : List Node). (k : ℕ) → k < length ns → get_or bodies k 0 ≡ body ns k) h.nodes b

  tells : (i : ℕ) → i < length (nodes_of file) → Tells (record { reader = r.reader; count = r.count; nodes = r.nodes; contexts = r.contexts; types = types; bodies = bodies }) file i
  unfolding context
  tells i l =
      let few = h.nested.few in
      let c = h.counted in
      let lt : i < r.count = omega arith in
      let a : ltb i r.count ≡ true = lt-ltb i r.count lt in
      let z : ltb i 1024 ≡ true = lt-ltb i 1024 (omega arith) in
      let y : (ltb i r.count && ltb i 1024) ≡ true = ap (λ x. x && ltb i 1024) a ∙ z in
      let k = h.known i lt in
      let m : i < length (table_of file).nodes = omega (arith, long file) in
      record {
        node = ap (λ x. cond x (Some (get_or r.nodes i blank)) None) y ∙ ap Some (sym (get_or-take r.count r.nodes i blank lt) ∙ ap (λ ns. get_or ns i blank) h.nodes);
        meant = ap (λ x. cond x (get_or r.contexts i vacant).means None) y ∙ ap (λ x. x.means) k;
        type = ap (λ x. cond x (get_or types i None) None) y ∙ t i (omega arith) m;
        place = ap (λ x. cond x (get_or r.contexts i vacant).place 0) y ∙ ap (λ x. x.place) k;
        body = ap (λ x. cond x (get_or bodies i 0) 0) y ∙ bodies_are i l;
      }

  pub accepted : first_violation (table_of file) ≡ None → Accepted (record { reader = r.reader; count = r.count; nodes = r.nodes; contexts = r.contexts; types = types; bodies = bodies }) file
  accepted v = record { faultless = h.faultless; lawful = v; over = h.over; counted = h.counted; told = tells }
