use Rattle.rules.proofs.Tabling.{tables_shaped}
use Rattle.rules.proofs.laws.tables_stand.Goals as goal

pub returns : goal.returns
returns c = tables_shaped
