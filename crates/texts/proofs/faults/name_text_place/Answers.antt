use Rattle.std.proofs.Common.{rules}
use Rattle.layout.specs.Texts.{bad_name}
use Rattle.texts.proofs.faults.name_text_place.Goals as goal

pub returns : goal.returns
returns c = rw c.names.ensures at (c.lowest_item.ensures (λ k. bad_name) (λ k item b p. search rules))
