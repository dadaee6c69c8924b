-- What a name means is a lower node.
use Rattle.std.proofs.Common.{◌≡◌, ℕ, zero, suc, ◌<◌, ◌≤◌, Bool, cond, ◌||◌, eqb, List, [], ◌∷◌, Some, None, Option, arith}
use Rattle.std.proofs.lemmas.Grind.{common_steps}
use Rattle.std.proofs.lemmas.List.Elements.{All-nil, All-cons, All-head, All-tail, All-append}
use Rattle.std.specs.List.{All}
use Rattle.nodes.specs.declared.node.Node.{Node}
use Rattle.node_rules.specs.Tables.{node}
use Rattle.node_rules.specs.Scopes.{declares, uses, binding, lives, picked, in_force, inner, chosen, node_of, meant}
use Rattle.node_rules.specs.declared.binding.Binding.{Binding}

abbrev Low : ℕ → Option Binding → Type 0
Low n None = Unit {0}
Low n (Some b) = b.node < n

-- those in force are lower
picked_low : (ns : List Node) (test : ℕ → Bool) (m n : ℕ) → m ≤ n → All (λ (b : Binding). b.node < n) (picked test (binding ns) m)
picked_low ns test zero n l = All-nil (λ (b : Binding). b.node < n)
picked_low ns test (suc m) n l = grind (arith, common_steps, picked_low ns test m n, All-append, All-cons, All-nil)

-- and so is the one that is chosen
chosen_low : (n name : ℕ) (best : Option Binding) (bs : List Binding) → Low n best → All (λ (b : Binding). b.node < n) bs → Low n (chosen name best bs)
chosen_low n name best [] p a = p
chosen_low n name best (b ∷ bs) p a =
    let low : b.node < n = All-head (λ (b : Binding). b.node < n) b bs a in
    chosen_low n name (cond (eqb b.name name) (inner best b) best) bs (grind arith) (All-tail (λ (b : Binding). b.node < n) b bs a)

when_low : (n d : ℕ) (v : Bool) (o : Option Binding) → Low n o → cond v (node_of o) None ≡ Some d → d < n
when_low n d v o p h = grind arith

pub meant_below : (ns : List Node) (i d : ℕ) → meant ns i ≡ Some d → d < i
unfolding meant in_force
meant_below ns i d h =
    when_low i d (declares ns i || uses ns i) (chosen (node ns i).name None (picked (lives ns i) (binding ns) i))
    (chosen_low i (node ns i).name None (picked (lives ns i) (binding ns) i) tt (picked_low ns (lives ns i) i i (omega arith))) h
