-- What is in force at a child: what is at its parent, the parent's own name, and those of the children before it. And the cells of these.
use Rattle.std.proofs.Common.{◌≡◌, ℕ, zero, suc, ◌+◌, ◌<◌, Bool, true, false, not, ◌||◌, eqb, List, [], ◌∷◌, ◌++◌, length, get_or, take, sym, refl, ap, ◌∙◌, inl, inr, append_assoc, append-nil, add-one, arith, ltb-true, lt-ltb}
use Rattle.std.proofs.lemmas.List.{take_more}
use Rattle.std.proofs.lemmas.Option.{slice_get-get_or}
use Rattle.std.proofs.lemmas.Bool.{cases_Bool}
use Rattle.std.proofs.lemmas.Bool.Decides.{nat_tests}
use Rattle.std.specs.List.{AllByRecursion as All}
use Rattle.nodes.specs.Kinds.{number, between}
use Rattle.nodes.specs.declared.node.Node.{Node}
use Rattle.tree.proofs.Nesting.{parent_holds}
use Rattle.names.specs.Walk.{Child, own}
use Rattle.names.proofs.Nesting.{in_force_first, in_force_next, in_force_program, in_force_none}
use Rattle.rule_laws.specs.Shaped.{Shaped}
use Rattle.node_rules.specs.Rules.{cells_all}
use Rattle.node_rules.specs.Scopes.{above, declares, scope, in_force, cells_in, cells_of, is_variable}
use Rattle.node_rules.specs.Tables as table
use Rattle.node_rules.specs.declared.binding.Binding.{Binding}
use Rattle.semantics.specs.Rule.{Rule, end, child, has, children}
use Rattle.acceptance.proofs.Children.{has_count, child_nth, child_is, child_inside}

-- The names that some nodes bring into force.
abbrev pub owns : List Node → List ℕ → List Binding
owns ns [] = []
owns ns (c ∷ cs) = own ns c ++ owns ns cs

owns_append : (ns : List Node) (xs ys : List ℕ) → owns ns (xs ++ ys) ≡ owns ns xs ++ owns ns ys
owns_append ns [] ys = refl
owns_append ns (x ∷ xs) ys = ap (λ bs. own ns x ++ bs) (owns_append ns xs ys) ∙ sym (append_assoc (own ns x) (owns ns xs) (owns ns ys))

-- Cells of declarations, one list after another.
pub cells_in_append : (all : Bool) (xs ys : List Binding) → cells_in all (xs ++ ys) ≡ cells_in all xs + cells_in all ys
cells_in_append all [] ys = omega arith
cells_in_append all (b ∷ xs) ys = let h = cells_in_append all xs ys in omega arith

-- What declares nothing has no cells.
pub no_cells : (n : Node) → between 2 6 (number n.kind) ≡ false → cells_of n ≡ 0
no_cells n h =
    let a : eqb (number n.kind) 4 ≡ false = grind (arith, nat_tests) in
    let b : is_variable (number n.kind) ≡ false = grind (arith, nat_tests) in
    rw (a, b) refl

module _ (ns : List Node) (all : Bool) where
  -- the cells of names that are counted
  abbrev Counted : ℕ → Type 0
  Counted d = (all || not (eqb (scope ns d) 0)) ≡ true

  own_cells : (d : ℕ) → Counted d → cells_in all (own ns d) ≡ cells_of (table.node ns d)
  own_cells d c =
      elim (cases_Bool (declares ns d)) [
        | inl y ↦ rw (y, c) (omega arith)
        | inr n ↦ rw n (sym (no_cells (table.node ns d) n))
      ]

  pub owns_cells : (ds : List ℕ) → All Counted ds → cells_in all (owns ns ds) ≡ cells_all ns ds
  owns_cells [] a = refl
  owns_cells (d ∷ ds) a =
      let h = owns_cells ds a.1 in
      let k = own_cells d a.0 in
      cells_in_append all (own ns d) (owns ns ds) ∙ omega arith

  -- and those of names that are not
  pub own_none : (d : ℕ) → (all || not (eqb (scope ns d) 0)) ≡ false → cells_in all (own ns d) ≡ 0
  own_none d c =
      elim (cases_Bool (declares ns d)) [
        | inl y ↦ rw (y, c) (omega arith)
        | inr n ↦ rw n refl
      ]

  pub owns_none : (ds : List ℕ) → All (λ d. (all || not (eqb (scope ns d) 0)) ≡ false) ds → cells_in all (owns ns ds) ≡ 0
  owns_none [] a = refl
  owns_none (d ∷ ds) a =
      let h = owns_none ds a.1 in
      let k = own_none d a.0 in
      cells_in_append all (own ns d) (owns ns ds) ∙ omega arith

module _ (r : Rule) (names strings : ℕ) (sh : Shaped r.nodes names strings) where
  -- every node but the program is a child of its parent
  pub above_child : (i : ℕ) → 0 < i → i < length r.nodes → Child (table.end r.nodes) (above r.nodes i) i
  above_child i z l =
      let h = parent_holds (table.end r.nodes) i z (omega (arith, sh.spans.whole)) in
      record { lower = h.lower; spans = h.spans; past = h.past }

  -- at the first child
  in_force_enter : (i : ℕ) → i < length r.nodes → i + 1 < end r i → in_force r.nodes (i + 1) ≡ in_force r.nodes i ++ own r.nodes i
  in_force_enter zero l h =
      let p : declares r.nodes 0 ≡ false = (let k = sh.program in rw k refl) in
      in_force_program r.nodes sh.spans h p ∙ sym (rw (in_force_none r.nodes, p) refl)
  in_force_enter (suc i) l h = in_force_first r.nodes sh.spans (above r.nodes (suc i)) (suc i) (above_child (suc i) (omega arith) l) h

  -- at child k
  pub in_force_child : (i : ℕ) → i < length r.nodes → (k : ℕ) → has r i k ≡ true → in_force r.nodes (child r i k) ≡ (in_force r.nodes i ++ own r.nodes i) ++ owns r.nodes (take k (children r i))
  in_force_child i l zero h = in_force_enter i l (ltb-true (i + 1) (end r i) h) ∙ sym (append-nil (in_force r.nodes i ++ own r.nodes i))
  in_force_child i l (suc k) h =
      let ns = r.nodes in
      let j = child r i k in
      let a = ltb-true (child r i (suc k)) (end r i) h in
      let b : has r i k ≡ true = lt-ltb j (end r i) (omega arith) in
      let c = has_count r sh.spans sh.families i l k b in
      let g : get_or (children r i) k 0 ≡ j = (let x = slice_get-get_or (children r i) k 0 c in let y = child_nth r sh.spans sh.families i l k b in cc) in
      let t : take (suc k) (children r i) ≡ take k (children r i) ++ j ∷ [] =
      ap (λ n. take n (children r i)) (sym (add-one k)) ∙ take_more (children r i) k 0 c ∙ ap (λ x. take k (children r i) ++ x ∷ []) g
      in
      in_force_next ns sh.spans i j (child_is r sh.spans sh.families i l k b) (sh.spans.sized j (child_inside r sh.spans sh.families i l k b)) a
      ∙ ap (λ bs. bs ++ own ns j) (in_force_child i l k b)
      ∙ append_assoc (in_force ns i ++ own ns i) (owns ns (take k (children r i))) (own ns j)
      ∙ ap (λ bs. (in_force ns i ++ own ns i) ++ bs)
      (sym (ap (owns ns) t ∙ owns_append ns (take k (children r i)) (j ∷ []) ∙ ap (λ bs. owns ns (take k (children r i)) ++ bs) (append-nil (own ns j))))
