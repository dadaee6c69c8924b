-- A kind is told by its number.
use Rattle.std.proofs.Common.{◌≡◌, Bool, true, false, ◌||◌, List, [], ◌∷◌, sym, subst, inl, inr, eqb-true, arith}
use borrow.Author.Tests.{clash}
use Rattle.std.proofs.lemmas.Bool.{or_cases}
use Rattle.std.specs.List.{AllByRecursion as All}
use Rattle.nodes.specs.Kinds.{number}
use Rattle.nodes.specs.declared.kind.Kind.{Kind}
use Rattle.node_rules.specs.Rules.{same_kind}

pub same_number : (a b : Kind) → number a ≡ number b → a ≡ b
same_number a b e = grind arith

pub same_kind_is : (a b : Kind) → same_kind a b ≡ true → a ≡ b
same_kind_is a b h = same_number a b (eqb-true (number a) (number b) h)

-- What holds of each of some kinds holds of a kind that is one of them.
abbrev pub among : Kind → List Kind → Bool
among k [] = false
among k (x ∷ xs) = same_kind k x || among k xs

pub one_of : (P : Kind → Type 0) (ks : List Kind) → All P ks → (k : Kind) → among k ks ≡ true → P k
one_of P [] a k h = absurd (clash h)
one_of P (x ∷ xs) a k h =
    elim (or_cases (same_kind k x) (among k xs) h) [
      | inl s ↦ subst P (sym (same_kind_is k x s)) a.0
      | inr r ↦ one_of P xs a.1 k r
    ]
