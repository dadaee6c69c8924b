use Rattle.semantics.proofs.Begins as begins
use Rattle.semantics.proofs.Only.{going_only, course_only}
use Rattle.semantics.proofs.laws.laws_stand.Goals as goal
use Rattle.std.proofs.Common.{sym, ◌∙◌}

pub returns : goal.returns
returns c =
    record {
      next_one = λ r s m x y h k. sym h ∙ k;
      go_one = going_only;
      course_one = λ cs w bs bs' es es' v v' x y. course_only x y;
      origin_begins = begins.origin_begins;
      spent_begins = begins.spent_begins;
      under_way_begins = begins.under_way_begins;
      nothing_spent = begins.nothing_spent;
    }
