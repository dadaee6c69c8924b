use Rattle.std.proofs.Common.{rules}
use Rattle.layout.specs.Texts.{bad_string}
use Rattle.texts.proofs.faults.string_text_place.Goals as goal

pub returns : goal.returns
returns c = rw c.strings.ensures at (c.lowest_item.ensures bad_string (λ k item b p. search rules))
