use Rattle.std.proofs.Common.{arith}
use Rattle.layout.specs.Faults.{end_of}
use Rattle.tree.proofs.Walking.{levels_next, met_first}
use Rattle.tree.proofs.walk.WalkIterator.next.Goals as goal

pub returns-clause-steps : goal.returns-clause-steps
returns-clause-steps c =
    let s = c.close.new.self in
    let d = levels_next (end_of s.body.nodes.now) s.stack s.top s.next s.bottom s.rising s.upward s.lower c.close.ensures.parent in
    let f = met_first (end_of s.body.nodes.now) s.next s.body.len (omega arith) in
    cc
