-- Method and loops of a child, by its parent's.
use Rattle.std.proofs.Common.{◌≡◌, ℕ, ◌<◌, true, false, cond, ◌||◌, eqb, List, length, ap, ◌∙◌, arith}
use Rattle.nodes.specs.Kinds.{between}
use Rattle.nodes.specs.declared.node.Node.{Node}
use Rattle.names.specs.Walk.{Nested}
use Rattle.names.proofs.Contexts.{context_below, program_context}
use Rattle.node_rules.specs.Scopes.{above, method_of, in_loop, context}
use Rattle.node_rules.specs.Tables as table
use Rattle.semantics.specs.Rule.{Rule, kind_at, child, has}
use Rattle.acceptance.proofs.Children.{child_is, child_inside, child_above}
use Rattle.acceptance.proofs.Kin.{Accepted}

method_below : (ns : List Node) → Nested ns → (j : ℕ) → 0 < j → j < length ns → method_of ns j ≡ cond (eqb (table.kind_at ns (above ns j)) 5) (above ns j) (method_of ns (above ns j))
unfolding context
method_below ns s j z l = ap (λ c. c.method) (context_below ns s j z l)

loop_below : (ns : List Node) → Nested ns → (j : ℕ) → 0 < j → j < length ns → in_loop ns j ≡ (between 12 13 (table.kind_at ns (above ns j)) || in_loop ns (above ns j))
unfolding context
loop_below ns s j z l = ap (λ c. c.looped) (context_below ns s j z l)

loop_program : (ns : List Node) → Nested ns → in_loop ns 0 ≡ false
unfolding context
loop_program ns s = ap (λ c. c.looped) (program_context ns s)

module _ (r : Rule) (a : Accepted r) where
  nested : Nested r.nodes
  nested = let s = a.shaped in record { some = s.few.0; few = s.few.1; program = s.program; spans = s.spans }

  pub loop_none : in_loop r.nodes 0 ≡ false
  loop_none = loop_program r.nodes nested

  module _ (i : ℕ) (l : i < length r.nodes) (k : ℕ) (h : has r i k ≡ true) where
    above_is : above r.nodes (child r i k) ≡ i
    above_is = child_above r a.shaped.spans a.shaped.families i l k h

    low : 0 < child r i k
    low = let c = child_is r a.shaped.spans a.shaped.families i l k h in omega (arith, c.lower)

    pub method_child : method_of r.nodes (child r i k) ≡ cond (eqb (kind_at r i) 5) i (method_of r.nodes i)
    method_child =
        method_below r.nodes nested (child r i k) low (child_inside r a.shaped.spans a.shaped.families i l k h)
        ∙ ap (λ p. cond (eqb (kind_at r p) 5) p (method_of r.nodes p)) above_is

    pub loop_child : in_loop r.nodes (child r i k) ≡ (between 12 13 (kind_at r i) || in_loop r.nodes i)
    loop_child =
        loop_below r.nodes nested (child r i k) low (child_inside r a.shaped.spans a.shaped.families i l k h)
        ∙ ap (λ p. between 12 13 (kind_at r p) || in_loop r.nodes p) above_is
