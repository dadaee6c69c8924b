-- One node more is judged.
use Rattle.std.proofs.Common.{◌≡◌, ℕ, suc, ◌+◌, ◌-◌, ◌<◌, List, length, set, None, Option, sym, refl, ap, ◌∙◌, arith}
use Rattle.finding.specs.declared.Finding.{Finding}
use Rattle.tree.specs.Spans.{Spanned}
use Rattle.rule_laws.proofs.Typing.{facts_same_below, type_is}
use Rattle.node_rules.specs.Tables.{Table, end}
use Rattle.node_rules.specs.Rules.{typed_unless, first_broken, typed, facts, facts_at, type_of, found, first_from}
use Rattle.node_rules.specs.Violations.{rules}
use Rattle.node_rules.specs.declared.facts.Facts.{Facts}
use Rattle.node_rules.specs.declared.types.Ty.{Ty}
use Rattle.node_rules.specs.declared.violation.Violation.{Violation}
use Rattle.checker.specs.Kin.{told, TypedFrom}
use Rattle.checker.proofs.Written.{written_back}

first_more : (t : Table) (i n : ℕ) → i < n → first_from t i (n - i) ≡ found i (first_broken rules (facts_at t i)) (first_from t (i + 1) (n - (i + 1)))
first_more t i n l = let q : n - i ≡ suc (n - (i + 1)) = omega arith in rw q refl

module _ (t : Table) (s : Spanned (end t.nodes) (length t.nodes)) (types : List (Option Ty)) (i : ℕ) (l : i < length t.nodes)
    (known : TypedFrom t types (i + 1)) (f : Facts) (is : f ≡ facts t (told types) i) (b : Option Violation) (broken : b ≡ first_broken rules f) where
  judged_facts : f ≡ facts_at t i
  judged_facts = is ∙ facts_same_below t s (told types) (type_of t) i l (λ k a c. known k (omega arith) c)

  pub judged_first : (first : Option (Finding Violation)) → first ≡ first_from t (i + 1) (length t.nodes - (i + 1)) → found i b first ≡ first_from t i (length t.nodes - i)
  judged_first first h =
      ap (λ x. found i x first) (broken ∙ ap (first_broken rules) judged_facts)
      ∙ ap (found i (first_broken rules (facts_at t i))) h
      ∙ sym (first_more t i (length t.nodes) l)

  pub judged_types : (ty : Option Ty) → ty ≡ typed_unless b f → i < length types → TypedFrom t (set types i ty) i
  judged_types ty e m =
      let q : ty ≡ type_of t i = e ∙ ap (λ x. typed_unless x f) broken ∙ ap typed judged_facts ∙ sym (type_is t i l) in
      written_back types None ty (type_of t) i m q (length t.nodes) known
