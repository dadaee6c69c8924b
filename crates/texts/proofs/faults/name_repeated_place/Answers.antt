use Rattle.std.proofs.Common.{take, rules}
use Rattle.layout.specs.Items.{names}
use Rattle.layout.specs.Readers.{file_of}
use Rattle.layout.specs.Texts.{among}
use Rattle.texts.proofs.faults.name_repeated_place.Goals as goal

pub returns : goal.returns
returns c = rw c.names-names.ensures at (c.lowest_item.ensures (λ k item. among item (take k (names (file_of c.args.reader.now)))) (λ k item b p. search rules))
