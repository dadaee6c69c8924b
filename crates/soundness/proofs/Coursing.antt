-- In a course of calls from a new runner the rule is always one that was checked, and its state one that it has reached.
use Rattle.std.proofs.Common.{◌≡◌, ℕ, List, Some, None, Option, sym, refl, ◌∙◌, subst, arith, Result}
use Rattle.std.proofs.lemmas.Option.{none-some}
use Rattle.book.specs.Meanings.{Meaning}
use Rattle.checker.specs.declared.Refusal.{Refusal}
use Rattle.finding.specs.declared.Finding.{Finding}
use Rattle.layout.specs.declared.fault.FileFault.{FileFault}
use Rattle.layout.specs.Head.{body_at}
use Rattle.layout.specs.Items.{split}
use Rattle.nodes.specs.Tree.{parent, ancestors, children}
use Rattle.rule_file.specs.Verdict.{first_fault}
use Rattle.rule_file.specs.Worked.{empty as smallest}
use Rattle.rule_file.proofs.Cases.{empty_good as smallest-faultless}
use Rattle.node_rules.specs.Scopes.{scope, lives, in_force, meant, repeated, in_loop, method_of}
use Rattle.node_rules.specs.Rules.{type_of, field_cells, first_violation}
use Rattle.node_rules.specs.Tables.{nodes_of, table_of}
use Rattle.node_rules.specs.declared.types.Ty.{Ty}
use Rattle.node_rules.specs.declared.violation.Violation.{Violation}
use Rattle.semantics.specs.Acts.{State, stuck, next, origin}
use Rattle.semantics.specs.Courses.{Runner, runner, World, Call, load, begin, go, close, by_fault, by_violation, refused, load_after, begin_after, Called, Plainly, WentFrom, Course, over, call, CourseOf, first_rule, new_runner}
use Rattle.semantics.specs.Rule.{Rule, rule_of}
use Rattle.semantics.specs.Runs.{Acts, left_by}
use Rattle.semantics.specs.declared.answer.Answer.{Answer}
use Rattle.semantics.specs.declared.answer.Denial.{Denial}
use Rattle.semantics.specs.declared.answer.Ending.{Ending}
use Rattle.semantics.specs.declared.answer.Ending.TheVariants.{Finished, Spent, Stopped}
use Rattle.semantics.specs.declared.import.Event.{Event}
use Rattle.soundness.specs.Checked.{Checked}
use Rattle.soundness.specs.Sound.{Reached, set_out, went_on}
use Rattle.soundness.proofs.Sound.{never_stuck_later}

-- The rule is checked, and where it is under way it has reached its state.
pub record GoodRunner (w : Runner) : Type 0 where
  pub type : ℕ → Option Ty
  pub checked : Checked w.rule type
  pub reached : (s : State) → w.under_way ≡ Some s → Reached w.rule s

-- a file that no load refuses has no fault and no violation
violation_none : (v : Option (Finding Violation)) → by_violation v ≡ None → v ≡ None
violation_none None h = refl
violation_none (Some v) h = absurd (grind arith)

fault_none : (f : Option (Finding FileFault)) (v : Option (Finding Violation)) → by_fault f v ≡ None → (f ≡ None) × (v ≡ None)
fault_none None v h = (refl, violation_none v h)
fault_none (Some f) v h = absurd (grind arith)

not_refused : (file : List ℕ) → refused file ≡ None → (first_fault file ≡ None) × (first_violation (table_of file) ≡ None)
unfolding refused
not_refused file h = fault_none (first_fault file) (first_violation (table_of file)) h

-- the rule of a new runner is that of the smallest file, which is accepted
smallest_rule : rule_of smallest ≡ first_rule
unfolding nodes_of body_at split
smallest_rule = refl

smallest_lawful : first_violation (table_of smallest) ≡ None
unfolding body_at split parent ancestors children nodes_of table_of scope lives in_force meant repeated in_loop method_of type_of field_cells first_violation
smallest_lawful = refl

-- idle, with a checked rule
idle : (r : Rule) (type : ℕ → Option Ty) → Checked r type → GoodRunner (runner r None)
idle r type c = record { type = type; checked = c; reached = λ s h. absurd (none-some s h) }

left_reached : (r : Rule) (how : Ending) (last s : State) → Reached r last → left_by how last ≡ Some s → Reached r s
left_reached r Finished last s h e = absurd (none-some s e)
left_reached r Spent last s h e = let q : last ≡ s = cc in subst (Reached r) q h
left_reached r (Stopped f) last s h e = absurd (none-some s e)

module _ (accepted : (file : List ℕ) → first_fault file ≡ None → first_violation (table_of file) ≡ None → (type : ℕ → Option Ty) × Checked (rule_of file) type) where
  loaded : (z : Option State) (x : Option Refusal) (file : List ℕ) (w : Runner) → refused file ≡ x → GoodRunner w → GoodRunner (load_after z x file w)
  loaded (Some s) x file w e g = g
  loaded None (Some x) file w e g = g
  loaded None None file w e g =
      let n = not_refused file e in
      let a = accepted file n.0 n.1 in
      idle (rule_of file) a.0 a.1

  begun : (z : Option State) (w : Runner) → GoodRunner w → GoodRunner (begin_after z w)
  begun (Some s) w g = g
  begun None w g =
      record {
        type = g.type;
        checked = g.checked;
        reached = λ s h. let q : origin w.rule ≡ s = cc in subst (Reached w.rule) q set_out;
      }

  went : (z : Option State) (w v : World) (budget : ℕ) (a : Result Answer Denial) (es : List Event) → z ≡ w.runner.under_way → WentFrom z w budget a es v → GoodRunner w.runner → GoodRunner v.runner
  went None w v budget a es e c g = subst (λ (u : World). GoodRunner u.runner) (sym c.leaves) g
  went (Some s) w v budget a es e c g =
      let k = c.keeps in
      record {
        type = g.type;
        checked = subst (λ (r : Rule). Checked r g.type) (sym k) g.checked;
        reached = λ t h.
            subst (λ (r : Rule). Reached r t) (sym k)
            (left_reached w.runner.rule c.how c.going.last t (went_on (g.reached s (sym e)) c.going.acts) (sym c.going.leaves ∙ h));
      }

  plainly : (w v : World) (x : Result Answer Denial) (after : Runner) (a : Result Answer Denial) (es : List Event) → Plainly w x after a es v → GoodRunner after → GoodRunner v.runner
  plainly w v x after a es p g = subst (λ (u : World). GoodRunner u.runner) (sym p.leaves) g

  called : (c : Call) (w v : World) (a : Result Answer Denial) (es : List Event) → Called c w a es v → GoodRunner w.runner → GoodRunner v.runner
  called (load file) w v a es h g = plainly w v _ _ a es h (loaded w.runner.under_way (refused file) file w.runner refl g)
  called begin w v a es h g = plainly w v _ _ a es h (begun w.runner.under_way w.runner g)
  called (go budget) w v a es h g = went w.runner.under_way w v budget a es refl h g
  called close w v a es h g = plainly w v _ _ a es h (idle w.runner.rule g.type g.checked)

  coursed : {cs : List Call} {w v : World} {bs : List (Result Answer Denial)} {es : List Event} → Course cs w bs es v → GoodRunner w.runner → GoodRunner v.runner
  coursed over g = g
  coursed (call {c = c} {w = w} {v = v} {a = a} e h rest) g = coursed rest (called c w v a e h g)

  new_good : GoodRunner new_runner
  new_good =
      let a = accepted smallest smallest-faultless smallest_lawful in
      idle first_rule a.0 (subst (λ (r : Rule). Checked r a.0) smallest_rule a.1)

  -- no rule under way is stuck, after any calls
  pub course_never_stuck : (m₀ : Meaning) (cs : List Call) (bs : List (Result Answer Denial)) (es : List Event) (w : World) (s : State) → CourseOf m₀ cs bs es w → w.runner.under_way ≡ Some s → (m n : Meaning) (units : ℕ) (events : List Event) (t : State) → Acts w.runner.rule s m units events t n → next w.runner.rule t n ≡ stuck → ⊥
  course_never_stuck m₀ cs bs es w s k u m n units events t acts h =
      let d = coursed k new_good in
      never_stuck_later w.runner.rule d.type d.checked t (went_on (d.reached s u) acts) n h
