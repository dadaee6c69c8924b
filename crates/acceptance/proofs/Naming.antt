-- What a name means is in force where it is used, and declares.
use Rattle.std.proofs.Common.{◌≡◌, ℕ, zero, suc, Bool, true, false, cond, ◌||◌, eqb, ltb, List, [], ◌∷◌, Some, None, Option, refl, arith}
use Rattle.std.proofs.ByRecursion.{All-append}
use Rattle.std.specs.List.{AllByRecursion as All}
use Rattle.nodes.specs.declared.node.Node.{Node}
use Rattle.node_rules.specs.Tables.{node}
use Rattle.node_rules.specs.Scopes.{declares, uses, binding, lives, picked, in_force, inner, chosen, node_of, meant}
use Rattle.node_rules.specs.declared.binding.Binding.{Binding}

module _ (P : ℕ → Type 0) where
  abbrev Of : Option Binding → Type 0
  Of None = Unit {0}
  Of (Some b) = P b.node

  picked_of : (ns : List Node) (test : ℕ → Bool) (m : ℕ) → ((d : ℕ) → test d ≡ true → P d) → All (λ (b : Binding). P b.node) (picked test (binding ns) m)
  picked_of ns test zero f = tt
  picked_of ns test (suc m) f =
      All-append (λ (b : Binding). P b.node) (picked test (binding ns) m) (cond (test m) (binding ns m ∷ []) []) (picked_of ns test m f)
      (last (test m) (f m))
    where
      last : (v : Bool) → (v ≡ true → P m) → All (λ (b : Binding). P b.node) (cond v (binding ns m ∷ []) [])
      last true g = (g refl, tt)
      last false g = tt

  either_of : (v : Bool) (a b : Option Binding) → Of a → Of b → Of (cond v a b)
  either_of true a b p q = p
  either_of false a b p q = q

  inner_of : (best : Option Binding) (b : Binding) → Of best → P b.node → Of (inner best b)
  inner_of None b p q = q
  inner_of (Some a) b p q = elim (ltb a.scope b.scope) as (λ v. Of (Some (cond v b a))) [ true ↦ q | false ↦ p ]

  chosen_of : (name : ℕ) (best : Option Binding) (bs : List Binding) → Of best → All (λ (b : Binding). P b.node) bs → Of (chosen name best bs)
  chosen_of name best [] p a = p
  chosen_of name best (b ∷ bs) p a =
      chosen_of name (cond (eqb b.name name) (inner best b) best) bs
      (either_of (eqb b.name name) (inner best b) best (inner_of best b p a.0) p) a.1

  node_is : (d : ℕ) (o : Option Binding) → Of o → node_of o ≡ Some d → P d
  node_is d None p h = absurd (grind arith)
  node_is d (Some b) p h = let e : b.node ≡ d = cc in rw e at p

  when_is : (d : ℕ) (v : Bool) (o : Option Binding) → Of o → cond v (node_of o) None ≡ Some d → P d
  when_is d true o p h = node_is d o p h
  when_is d false o p h = absurd (grind arith)

pub meant_lives : (ns : List Node) (i d : ℕ) → meant ns i ≡ Some d → lives ns i d ≡ true
unfolding meant in_force
meant_lives ns i d h =
    let P : ℕ → Type 0 = λ d. lives ns i d ≡ true in
    when_is P d (declares ns i || uses ns i) (chosen (node ns i).name None (picked (lives ns i) (binding ns) i))
    (chosen_of P (node ns i).name None (picked (lives ns i) (binding ns) i) tt (picked_of P ns (lives ns i) i (λ d e. e))) h
