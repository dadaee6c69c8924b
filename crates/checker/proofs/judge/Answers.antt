use Rattle.std.proofs.Common.{sym, ◌∙◌}
use Rattle.layout.specs.Readers.{file_of}
use Rattle.checker.proofs.Telling.{accepted, lawful}
use Rattle.checker.proofs.judge.Goals as goal

pub returns : goal.returns
returns c =
    accepted c.args.resolved _ _ (file_of c.args.resolved.reader) c.requires c.study.ensures.types c.find_bodies-bodies.ensures (lawful _ _ (sym c.study.ensures.first ∙ c.in_ok-study.was))
