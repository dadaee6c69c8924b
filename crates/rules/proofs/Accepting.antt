-- Where there is no violation, no rule is broken anywhere.
use Rattle.std.proofs.Common.{◌≡◌, ℕ, zero, suc, ◌+◌, ◌-◌, ◌<◌, ◌≤◌, false, List, [], ◌∷◌, length, get_or, None, Option, refl, ◌∙◌, subst, arith}
use Rattle.std.proofs.lemmas.Bool.Decides.{nat_tests}
use Rattle.finding.specs.declared.Finding.{Finding}
use Rattle.rule_laws.proofs.Accepting.{placed}
use Rattle.rules.specs.Accepted.{AcceptedKeeps}
use Rattle.rules.specs.Rules.{Facts, broken_by, first_broken, broken, facts_at, found, first_from, or_cells, field_cells, first_violation}
use Rattle.rules.specs.Tables.{Table}
use Rattle.node_rules.specs.Violations.{number_of, rules}
use Rattle.node_rules.specs.declared.violation.Violation.{Violation}
use Rattle.node_rules.specs.declared.violation.Violation.TheVariants.{TooManyCells}

-- Where none of some rules is broken, that is so at each place.
none_at : (vs : List Violation) (f : Facts) → first_broken vs f ≡ None → (k : ℕ) → broken_by (get_or vs k TooManyCells) f ≡ false
none_at [] f h k = refl
none_at (v ∷ vs) f h zero = grind arith
none_at (v ∷ vs) f h (suc k) = grind (arith, none_at vs f)

kept : (v : Violation) (f : Facts) → first_broken rules f ≡ None → broken_by v f ≡ false
kept v f h = subst (λ (v : Violation). broken_by v f ≡ false) (placed v) (none_at rules f h (number_of v - 21))

-- node by node
found_none : (i : ℕ) (o : Option Violation) (later : Option (Finding Violation)) → found i o later ≡ None → (o ≡ None) × (later ≡ None)
found_none i o later h = grind arith

none_from : (t : Table) (i n : ℕ) → first_from t i n ≡ None → (k : ℕ) → k < n → first_broken rules (facts_at t (i + k)) ≡ None
none_from t i zero h k l = absurd (omega arith)
none_from t i (suc n) h zero l =
    let p = found_none i (first_broken rules (facts_at t i)) (first_from t (i + 1) n) h in
    let e : i + 0 ≡ i = omega arith in rw e p.0
none_from t i (suc n) h (suc k) l =
    let p = found_none i (first_broken rules (facts_at t i)) (first_from t (i + 1) n) h in
    let e : i + suc k ≡ (i + 1) + k = omega arith in rw e (none_from t (i + 1) n p.1 k (omega arith))

cells_none : (t : Table) (o : Option (Finding Violation)) → or_cells t o ≡ None → (o ≡ None) × (field_cells t ≤ 2048)
cells_none t o h = grind (arith, nat_tests)

broken_is : (t : Table) (i : ℕ) (v : Violation) → broken t i v ≡ broken_by v (facts_at t i)
unfolding broken
broken_is t i v = refl

pub accepted_keeps : AcceptedKeeps
unfolding first_violation
accepted_keeps t h =
    let p = cells_none t (first_from t 0 (length t.nodes)) h in
    record {
      rules_kept = λ i l v.
          let e : 0 + i ≡ i = omega arith in
          broken_is t i v ∙ kept v (facts_at t i) (rw e at (none_from t 0 (length t.nodes) p.0 i l));
      cells_suffice = p.1;
    }
