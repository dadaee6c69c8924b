use Rattle.rule_laws.proofs.Tabling.{tables_shaped}
use Rattle.rule_laws.proofs.laws.tables_stand.Goals as goal

pub returns : goal.returns
returns c = tables_shaped
