-- No accepted rule is ever stuck: it has the facts of `Checked`, and no rule with these is.
use Rattle.node_rules.specs.Rules.{type_of}
use Rattle.node_rules.specs.Tables.{table_of}
use Rattle.semantics.specs.Rule.{rule_of}
use Rattle.soundness.proofs.Coursing.{course_never_stuck}
use Rattle.soundness.proofs.Sound.{never_stuck_later}
use Rattle.acceptance.specs.Never.{RuleNeverStuck, CourseNeverStuck}
use Rattle.acceptance.proofs.Accepting.{accepted_checked}

pub rules_never_stuck : RuleNeverStuck
rules_never_stuck file f v s h m = never_stuck_later (rule_of file) (type_of (table_of file)) (accepted_checked file f v) s h m

pub courses_never_stuck : CourseNeverStuck
courses_never_stuck first calls answers events w s k u =
    course_never_stuck (λ file f v. (type_of (table_of file), accepted_checked file f v)) first calls answers events w s k u
