-- No accepted rule is ever stuck.
--
-- The first statement is of a rule by itself, from its origin on; the second of whatever a new runner is told to do. Both hold for every
-- book, also where another book is handed over between two stretches of a run.
use Rattle.std.specs.Prelude.{◌≡◌, ℕ, List, Some, None, Result}
use Rattle.book.specs.Meanings.{Meaning}
use Rattle.rule_file.specs.Verdict.{first_fault}
use Rattle.node_rules.specs.Rules.{first_violation}
use Rattle.node_rules.specs.Tables.{table_of}
use Rattle.semantics.specs.Acts.{State, next, stuck}
use Rattle.semantics.specs.Courses.{World, Call, CourseOf}
use Rattle.semantics.specs.Rule.{rule_of}
use Rattle.semantics.specs.Runs.{Acts}
use Rattle.semantics.specs.declared.answer.Answer.{Answer}
use Rattle.semantics.specs.declared.answer.Denial.{Denial}
use Rattle.semantics.specs.declared.import.Event.{Event}
use Rattle.soundness.specs.Sound.{Reached}

-- A file without a fault and without a violation: no state that its rule reaches from its origin is stuck.
abbrev pub RuleNeverStuck : Type 0
RuleNeverStuck =
    (file : List ℕ)
    → first_fault file ≡ None
    → first_violation (table_of file) ≡ None
    → (s : State)
    → Reached (rule_of file) s
    → (m : Meaning)
    → next (rule_of file) s m ≡ stuck
    → ⊥

-- A rule that is under way after any calls of a new runner: no state that acts lead to from there is stuck.
abbrev pub CourseNeverStuck : Type 0
CourseNeverStuck =
    (first : Meaning) (calls : List Call) (answers : List (Result Answer Denial)) (events : List Event) (w : World) (s : State)
    → CourseOf first calls answers events w
    → w.runner.under_way ≡ Some s
    → (m n : Meaning) (units : ℕ) (later : List Event) (t : State)
    → Acts w.runner.rule s m units later t n
    → next w.runner.rule t n ≡ stuck
    → ⊥
