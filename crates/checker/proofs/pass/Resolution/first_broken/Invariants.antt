use Rattle.std.proofs.Common.{◌≡◌, ◌-◌, ◌≤◌, length}
use Rattle.node_rules.specs.Rules.{first_from}
use Rattle.checker.specs.Kin.{table, TypedFrom}
use Rattle.checker.proofs.pass.Resolution.first_broken.Given as goal

-- the nodes from i on are judged
abbrev pub invariant-loop-i : goal.invariant-loop-i
invariant-loop-i l =
    let ns = l.self.nodes.list.now in
    (l.first ≡ first_from (table ns l.main) l.i (length ns - l.i)) × (TypedFrom (table ns l.main) l.types l.i) × (l.i ≤ length ns)
