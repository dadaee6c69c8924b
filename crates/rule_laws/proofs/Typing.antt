-- Types come from the children, and any fuel that reaches the last node gives the same.
use Rattle.std.proofs.Common.{◌≡◌, ℕ, zero, suc, ◌+◌, ◌-◌, ◌<◌, ◌≤◌, List, [], ◌∷◌, length, Some, None, Option, sym, refl, ap, ◌∙◌, arith}
use Rattle.std.proofs.lemmas.List.{get_or_past}
use Rattle.std.proofs.lemmas.Bool.Decides.{nat_tests}
use Rattle.std.specs.List.{AllByRecursion as All}
use Rattle.nodes.specs.Tree.{children, children_from}
use Rattle.nodes.specs.declared.kind.Kind.TheVariants.{Program}
use Rattle.nodes.specs.declared.node.Node.{Node}
use Rattle.tree.specs.Spans.{Spanned}
use Rattle.node_rules.specs.Tables.{Table, blank, end, parts}
use Rattle.node_rules.specs.Scopes.{meant}
use Rattle.node_rules.specs.Rules.{typed, held, matches, matching, facts, facts_at, typing, type_of}
use Rattle.node_rules.specs.declared.facts.Facts.{Facts}
use Rattle.node_rules.specs.declared.types.Ty.{Ty}

-- Children lie above their parent and below its end.
children_from_all : (P : ℕ → Type 0) (e : ℕ → ℕ) → ((j : ℕ) → j ≤ e j) → (n j stop : ℕ) → ((k : ℕ) → j ≤ k → k < stop → P k) → All P (children_from n e j stop)
children_from_all P e up zero j stop h = tt
children_from_all P e up (suc n) j stop h = grind (arith, nat_tests, h, up, children_from_all P e up n (e j) stop)

pub parts_all : (P : ℕ → Type 0) (ns : List Node) (i : ℕ) → ((k : ℕ) → i < k → k < end ns i → P k) → All P (parts ns i)
unfolding children
parts_all P ns i h = children_from_all P (end ns) (λ j. omega arith) (end ns i - (i + 1)) (i + 1) (end ns i) (λ k l s. h k (omega arith) s)

-- Facts look at the types of children alone.
module _ (ns : List Node) (τ σ : ℕ → Option Ty) where
  held_same : (cs : List ℕ) → All (λ c. τ c ≡ σ c) cs → held ns τ cs ≡ held ns σ cs
  held_same [] a = refl
  held_same (c ∷ cs) a = grind (arith, held_same cs)

  matches_same : (ps cs : List ℕ) → All (λ c. τ c ≡ σ c) cs → matches ns τ ps cs ≡ matches ns σ ps cs
  matches_same [] [] a = refl
  matches_same [] (c ∷ cs) a = refl
  matches_same (p ∷ ps) [] a = refl
  matches_same (p ∷ ps) (c ∷ cs) a = grind (arith, matches_same ps cs)

  matching_same : (cs : List ℕ) (m : Option ℕ) → All (λ c. τ c ≡ σ c) cs → matching ns τ cs m ≡ matching ns σ cs m
  matching_same cs None a = refl
  matching_same cs (Some d) a = matches_same (parts ns d) cs a

facts_of_parts : (t : Table) (τ σ : ℕ → Option Ty) (i : ℕ) → All (λ c. τ c ≡ σ c) (parts t.nodes i) → facts t τ i ≡ facts t σ i
facts_of_parts t τ σ i a =
    rw (held_same t.nodes τ σ (parts t.nodes i) a, matching_same t.nodes τ σ (parts t.nodes i) (meant t.nodes i) a) refl

-- Facts hang on the types of higher nodes only; in a tree, of those that there are.
pub facts_same : (t : Table) (τ σ : ℕ → Option Ty) (i : ℕ) → ((k : ℕ) → i < k → τ k ≡ σ k) → facts t τ i ≡ facts t σ i
facts_same t τ σ i h = facts_of_parts t τ σ i (parts_all (λ c. τ c ≡ σ c) t.nodes i (λ k l s. h k l))

pub facts_same_below : (t : Table) → Spanned (end t.nodes) (length t.nodes) → (τ σ : ℕ → Option Ty) (i : ℕ) → i < length t.nodes → ((k : ℕ) → i < k → k < length t.nodes → τ k ≡ σ k) → facts t τ i ≡ facts t σ i
facts_same_below t sp τ σ i l h =
    facts_of_parts t τ σ i (parts_all (λ c. τ c ≡ σ c) t.nodes i (λ k a b. h k a (omega (arith, sp.within i l))))

-- Past the last node there is no type.
typed_program : (f : Facts) → f.node.kind ≡ Program → typed f ≡ None
typed_program f e = grind arith

past_type : (n : ℕ) (t : Table) (i : ℕ) → length t.nodes ≤ i → typing n t i ≡ None
past_type zero t i h = refl
past_type (suc n) t i h = typed_program (facts t (typing n t) i) (ap (λ (m : Node). m.kind) (get_or_past t.nodes i blank h))

-- More fuel than nodes are left changes nothing.
enough : (m n : ℕ) (t : Table) (i : ℕ) → length t.nodes - i ≤ m → length t.nodes - i ≤ n → typing m t i ≡ typing n t i
enough zero n t i a b = sym (past_type n t i (omega arith))
enough (suc m) zero t i a b = past_type (suc m) t i (omega arith)
enough (suc m) (suc n) t i a b =
    ap typed (facts_same t (typing m t) (typing n t) i (λ k l. enough m n t k (omega arith) (omega arith)))

-- The type of a node is what its facts give.
pub type_is : (t : Table) (i : ℕ) → i < length t.nodes → type_of t i ≡ typed (facts_at t i)
unfolding type_of
type_is t i h =
    let n = length t.nodes in
    let p : n - i ≡ suc (n - (i + 1)) = omega arith in
    ap (λ m. typing m t i) p
    ∙ ap typed (facts_same t (typing (n - (i + 1)) t) (λ k. typing (n - k) t k) i (λ k l. enough (n - (i + 1)) (n - k) t k (omega arith) (omega arith)))
