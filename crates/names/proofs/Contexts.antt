-- A node's context, by its parent's.
use Rattle.std.proofs.Common.{◌≡◌, ℕ, ◌+◌, ◌<◌, ◌≤◌, Bool, false, cond, ◌||◌, eqb, ◌≢◌, List, length, get_or, set, Option, None, sym, refl, ap, ◌∙◌, inl, inr, arith}
use Rattle.std.proofs.lemmas.Bool.Decides.{nat_tests}
use Rattle.std.proofs.lemmas.List.{get_or-set_same, get_or-set_other}
use Rattle.std.proofs.lemmas.Bool.{cases_lt}
use Rattle.nodes.specs.Kinds.{between}
use Rattle.nodes.specs.Tree.{parent, ancestors}
use Rattle.nodes.specs.declared.node.Node.{Node}
use Rattle.node_rules.specs.Tables.{node, kind_at, end, any}
use Rattle.node_rules.specs.Scopes.{above, declares, uses, scope, scope_in, in_force, chosen, node_of, first_method, in_loop, method_of, meant, place, context, is_variable, cells_in}
use Rattle.node_rules.specs.declared.context.Context.{Context}
use Rattle.node_rules.specs.declared.binding.Binding.{Binding}
use Rattle.names.specs.Walk.{Nested, Child, Known, inherited, vacant}
use Rattle.names.proofs.Nesting.{parent_child, holder_le}

pub context_below : (ns : List Node) → Nested ns → (i : ℕ) → 0 < i → i < length ns → context ns i ≡ inherited (kind_at ns (above ns i)) (context ns (above ns i)) (above ns i) (scope ns i) (meant ns i) (place ns i)
unfolding context in_loop method_of
context_below ns s i z l =
    ap (λ xs. record {
      parent = above ns i;
      scope = scope ns i;
      method = first_method ns xs;
      looped = any (λ a. between 12 13 (kind_at ns a)) xs;
      means = meant ns i;
      place = place ns i;
    }) (s.spans.upward i z l)

-- a child's context, by what is known of its parent
pub context_child : (ns : List Node) → Nested ns → (i p : ℕ) → i < length ns → Child (end ns) p i → (outer : Context) (means : Option ℕ) (cell : ℕ) → outer ≡ context ns p → means ≡ meant ns i → cell ≡ place ns i → inherited (kind_at ns p) outer p (scope_in ns p outer.parent) means cell ≡ context ns i
unfolding scope context
context_child ns n i p l c outer means cell o m z =
    let low = c.lower in
    let q : p ≡ above ns i = sym (parent_child (end ns) p i c) in
    ap (λ x. inherited (kind_at ns p) x p (scope_in ns p x.parent) means cell) o
    ∙ ap (λ x. inherited (kind_at ns x) (context ns x) x (scope_in ns x (above ns x)) means cell) q
    ∙ ap (λ x. inherited (kind_at ns (above ns i)) (context ns (above ns i)) (above ns i) (scope ns i) x cell) m
    ∙ ap (inherited (kind_at ns (above ns i)) (context ns (above ns i)) (above ns i) (scope ns i) (meant ns i)) z
    ∙ sym (context_below ns n i (omega arith) l)

-- one context more is known
pub known_more : (ns : List Node) (cs : List Context) (i : ℕ) → Known ns cs i → i < length cs → Known ns (set cs i (context ns i)) (i + 1)
known_more ns cs i k l j h =
    elim (cases_lt j i) [
      | inl lt ↦ let ne : j ≢ i = omega arith in rw get_or-set_other (k j lt)
      | inr le ↦ let q : j ≡ i = omega arith in rw q (rw get_or-set_same refl)
    ]

-- and a node's own scope
pub scope_known : (ns : List Node) (cs cs' : List Context) (i : ℕ) → i < length cs → cs' ≡ set cs i (context ns i) → (get_or cs' i vacant).scope ≡ scope ns i
unfolding context
scope_known ns cs cs' i l e = ap (λ xs. (get_or xs i vacant).scope) e ∙ ap (λ x. x.scope) (get_or-set_same cs i (context ns i) vacant l)

pub above_inside : (ns : List Node) (p n : ℕ) → p < n → above ns p < n
unfolding parent
above_inside ns p n l = let h = holder_le (end ns) p p in omega arith

pub program_context : (ns : List Node) → Nested ns → context ns 0 ≡ vacant
unfolding context scope in_loop method_of meant place parent ancestors
program_context ns s = let k = s.program in rw k refl

-- what a name means, and where cells begin, by the names in force
pub means_told : (ns : List Node) (i : ℕ) (bs : List Binding) (named : Bool) → bs ≡ in_force ns i → named ≡ (declares ns i || uses ns i) → cond named (node_of (chosen (node ns i).name None bs)) None ≡ meant ns i
unfolding meant
means_told ns i bs named b n =
    ap (λ x. cond x (node_of (chosen (node ns i).name None bs)) None) n
    ∙ ap (λ x. cond (declares ns i || uses ns i) (node_of (chosen (node ns i).name None x)) None) b

pub place_told : (ns : List Node) (i : ℕ) (bs : List Binding) (all : Bool) → bs ≡ in_force ns i → all ≡ eqb (above ns i) 0 → cond (is_variable (kind_at ns i)) (cells_in all bs) 0 ≡ place ns i
unfolding place
place_told ns i bs all b a =
    ap (λ x. cond (is_variable (kind_at ns i)) (cells_in x bs) 0) a
    ∙ ap (λ x. cond (is_variable (kind_at ns i)) (cells_in (eqb (above ns i) 0) x) 0) b

pub no_place : (ns : List Node) (i : ℕ) → declares ns i ≡ false → 0 ≡ place ns i
unfolding place
no_place ns i d =
    let v : is_variable (kind_at ns i) ≡ false = grind (arith, nat_tests) in
    sym (ap (λ x. cond x (cells_in (eqb (above ns i) 0) (in_force ns i)) 0) v)

-- which nodes have a name, by the kind's number
pub statement_named : (k : ℕ) → between 2 6 k ≡ false → k ≤ 16 → (between 2 6 k || (eqb k 12 || (between 17 18 k || between 22 23 k))) ≡ eqb k 12
statement_named k d l = grind (arith, nat_tests)

pub expression_named : (k : ℕ) → 16 < k → (between 2 6 k || (eqb k 12 || (between 17 18 k || between 22 23 k))) ≡ (between 17 18 k || between 22 23 k)
expression_named k l = grind (arith, nat_tests)

pub expression_plain : (k : ℕ) → 16 < k → between 2 6 k ≡ false
expression_plain k l = grind (arith, nat_tests)
