-- The nodes that a context names are nodes of the table.
use Rattle.std.proofs.Common.{◌≡◌, ℕ, zero, suc, ◌<◌, ◌≤◌, true, false, cond, eqb, ltb, List, [], ◌∷◌, length, sym, refl, subst, arith}
use Rattle.std.specs.List.{AllByRecursion as All}
use Rattle.std.proofs.lemmas.Bool.{cond_both}
use Rattle.nodes.specs.Tree.{around, ancestors}
use Rattle.nodes.specs.declared.node.Node.{Node}
use Rattle.names.proofs.Contexts.{above_inside}
use Rattle.rule_laws.proofs.Meaning.{meant_below}
use Rattle.node_rules.specs.Tables.{kind_at, end}
use Rattle.node_rules.specs.Scopes.{first_method, method_of, context}
use Rattle.node_rules.specs.declared.context.Context.{Context}
use Rattle.checker.specs.Kin.{Placed}

-- those around a node are lower
around_low : (e : ℕ → ℕ) (i n m : ℕ) → n ≤ m → All (λ (a : ℕ). a < m) (around e i n)
around_low e i zero m l = tt
around_low e i (suc n) m l =
    elim (ltb i (e n)) as (λ b. All (λ (a : ℕ). a < m) (cond b (n ∷ around e i n) (around e i n))) [
      | true ↦ (omega arith, around_low e i n m (omega arith))
      | false ↦ around_low e i n m (omega arith)
    ]

method_low : (ns : List Node) (m : ℕ) (xs : List ℕ) → 0 < m → All (λ (a : ℕ). a < m) xs → first_method ns xs < m
method_low ns m [] z h = z
method_low ns m (a ∷ rest) z h =
    cond_both (eqb (kind_at ns a) 5) a (first_method ns rest) (λ x. x < m) (λ _. h.0) (λ _. method_low ns m rest z h.1)

method_inside : (ns : List Node) (i : ℕ) → i < length ns → method_of ns i < length ns
unfolding method_of ancestors
method_inside ns i l = method_low ns (length ns) _ (omega arith) (around_low (end ns) i i (length ns) (omega arith))

placed_context : (ns : List Node) (i : ℕ) → i < length ns → Placed ns i (context ns i)
unfolding context
placed_context ns i l =
    record {
      is = refl;
      parent = refl;
      scope = refl;
      method = refl;
      looped = refl;
      means = refl;
      parent_inside = above_inside ns i (length ns) l;
      method_inside = method_inside ns i l;
      means_inside = λ d h. let b = meant_below ns i d h in omega arith;
    }

pub placed : (ns : List Node) (i : ℕ) (c : Context) → i < length ns → c ≡ context ns i → Placed ns i c
placed ns i c l e = subst (Placed ns i) (sym e) (placed_context ns i l)
