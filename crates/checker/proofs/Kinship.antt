-- What is gathered from children, child by child and of all at once.
use Rattle.std.proofs.Common.{◌≡◌, ℕ, ◌+◌, Bool, true, false, cond, ◌&&◌, ◌||◌, List, [], ◌∷◌, length, eqb, unwrap_or, Some, Option, refl, ap, ◌∙◌, add-one}
use Rattle.std.specs.Prelude.{slice_get}
use Rattle.std.specs.List.{list_all, list_any, find, sum_by}
use Rattle.std.proofs.lemmas.List.Sums.{sum_by-cons}
use Rattle.nodes.specs.declared.node.Node.{Node}
use Rattle.node_rules.specs.Tables.{node, kind_at, any}
use Rattle.node_rules.specs.Scopes.{cells_of, first_block}
use Rattle.node_rules.specs.Rules.{held, with_child, cells_all}
use Rattle.node_rules.specs.declared.types.Ty.{Ty}
use Rattle.checker.specs.Kin.{told, told_of, is_typed}

module _ (ns : List Node) (types : List (Option Ty)) where
  pub held_is : (cs : List ℕ) → held ns (told types) cs ≡ record { count = length cs; first = told_of types (slice_get cs 0); second = told_of types (slice_get cs 1); typed = list_all (is_typed ns types) cs }
  held_is [] = refl
  held_is (c ∷ cs) = ap (with_child (node ns c).kind (told types c)) (held_is cs) ∙ ap (λ n. record { count = n; first = told types c; second = told_of types (slice_get cs 0); typed = is_typed ns types c && list_all (is_typed ns types) cs }) (add-one (length cs))

-- definitions by cases, in the library's words
pub any_is : (test : ℕ → Bool) (xs : List ℕ) → list_any test xs ≡ any test xs
any_is test [] = refl
any_is test (x ∷ xs) = ap (λ b. test x || b) (any_is test xs)

pub block_is : (ns : List Node) (cs : List ℕ) → unwrap_or (find (λ j. eqb (kind_at ns j) 7) cs) 0 ≡ first_block ns cs
block_is ns [] = refl
block_is ns (c ∷ cs) =
    elim (eqb (kind_at ns c) 7) as (λ t. unwrap_or (cond t (Some c) (find (λ j. eqb (kind_at ns j) 7) cs)) 0 ≡ cond t c (first_block ns cs)) [
      | true ↦ refl
      | false ↦ block_is ns cs
    ]

pub cells_is : (ns : List Node) (ds : List ℕ) → sum_by (λ j. cells_of (node ns j)) ds ≡ cells_all ns ds
cells_is ns [] = refl
cells_is ns (d ∷ ds) = sum_by-cons (λ j. cells_of (node ns j)) d ds ∙ ap (λ n. cells_of (node ns d) + n) (cells_is ns ds)
