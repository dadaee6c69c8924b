use Rattle.std.proofs.Common.{◌≡◌}
use Rattle.node_rules.specs.Tables.{parts}
use Rattle.node_rules.specs.Rules.{matches}
use Rattle.names.proofs.Yielding.{left}
use Rattle.checker.specs.Kin.{told}
use Rattle.checker.proofs.kin.Typing.do_match.Given as goal

-- what is left of the parameters and of the arguments matches as all of them do
abbrev pub invariant-loop-j : goal.invariant-loop-j
invariant-loop-j l =
    matches l.self.nodes.list.now (told l.self.types.now) (left l.parameters) (left l.j-iterator) ≡ matches l.self.nodes.list.now (told l.self.types.now) (parts l.self.nodes.list.now l.m) (parts l.self.nodes.list.now l.i)
