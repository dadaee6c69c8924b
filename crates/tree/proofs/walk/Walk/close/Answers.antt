use Rattle.std.proofs.Common.{◌≡◌, ◌+◌, ◌-◌, inl, inr, sym, ap, ◌∙◌, slice_index, arith}
use Rattle.layout.specs.Faults.{end_of}
use Rattle.tree.proofs.Nesting.{past_up, parent_is}
use Rattle.tree.proofs.walk.Walk.close.Goals as goal

pub invariant_of-self-clause-rising : goal.invariant_of-self-clause-rising
invariant_of-self-clause-rising c = λ k l. c.loop-self.self.rising k (omega arith)

pub invariant_of-self-clause-upward : goal.invariant_of-self-clause-upward
invariant_of-self-clause-upward c = λ k l. c.loop-self.self.upward k (omega arith)

pub invariant_of-self-clause-past : goal.invariant_of-self-clause-past
invariant_of-self-clause-past c =
    let s = c.loop-self.self in
    let r : s.top - 1 + 1 ≡ s.top = omega arith in
    past_up (end_of s.body.nodes.now) s.next (slice_index s.stack s.top) _ (rw r at (s.upward (s.top - 1) (omega arith))) s.lower (omega arith) s.past

pub returns-else-self-clause-parent : goal.returns-else-self-clause-parent
returns-else-self-clause-parent c =
    let s = c.loop-self.self in
    sym (parent_is (end_of s.body.nodes.now) s.next (slice_index s.stack s.top) s.lower s.past (inr (omega arith)))

pub returns-after-loop-self-clause-parent : goal.returns-after-loop-self-clause-parent
returns-after-loop-self-clause-parent c =
    let s = c.loop-self.self in
    let r : s.top ≡ 0 = omega arith in
    sym (parent_is (end_of s.body.nodes.now) s.next (slice_index s.stack s.top) s.lower s.past (inl (ap (slice_index s.stack) r ∙ s.bottom)))
