use Rattle.std.proofs.Common.{rules}
use Rattle.layout.specs.Texts.{bad_name_length}
use Rattle.texts.proofs.faults.name_length_place.Goals as goal

pub returns : goal.returns
returns c = rw c.names.ensures at (c.lowest_item.ensures bad_name_length (λ k item b p. search rules))
