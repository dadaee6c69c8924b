-- The cells that are in use where a child begins, by those where its parent does.
use Rattle.std.proofs.Common.{◌≡◌, ℕ, zero, suc, ◌+◌, ◌<◌, ◌≤◌, true, false, not, ◌&&◌, ◌||◌, eqb, List, [], ◌∷◌, ◌++◌, length, take, drop, Some, refl, ap, ◌∙◌, inl, inr, arith, ne_eqb, eqb-true}
use Rattle.std.proofs.lemmas.List.{take-append-drop}
use Rattle.std.proofs.lemmas.Bool.{cases_Bool, and_parts}
use Rattle.std.proofs.lemmas.Bool.Decides.{nat_tests}
use Rattle.std.specs.List.{slice_get, AllByRecursion as All}
use Rattle.nodes.specs.Kinds.{between}
use Rattle.nodes.specs.declared.node.Node.{Node}
use Rattle.names.specs.Walk.{own}
use Rattle.names.proofs.Nesting.{in_force_none}
use Rattle.node_rules.specs.Rules.{cells_all}
use Rattle.node_rules.specs.Scopes.{above, declares, scope, scope_in, in_force, cells_in, cells_of, is_variable, place}
use Rattle.node_rules.specs.Tables as table
use Rattle.semantics.specs.Rule.{Rule, kind_at, child, has, children}
use Rattle.soundness.specs.Checked.{offset}
use Rattle.acceptance.proofs.Children.{nth_child, child_above}
use Rattle.acceptance.proofs.Forces.{owns, cells_in_append, no_cells, owns_cells, owns_none, own_none, in_force_child}
use Rattle.acceptance.proofs.Kin.{Accepted}

-- Each of the first k of some nodes, and each of the others.
pub all_taken : (P : ℕ → Type 0) (cs : List ℕ) (k : ℕ) → ((q c : ℕ) → q < k → slice_get cs q ≡ Some c → P c) → All P (take k cs)
all_taken P cs zero f = tt
all_taken P [] (suc k) f = tt
all_taken P (c ∷ cs) (suc k) f = (f 0 c (omega arith) refl, all_taken P cs k (λ q x l h. f (suc q) x (omega arith) h))

pub all_dropped : (P : ℕ → Type 0) (cs : List ℕ) (k : ℕ) → ((q c : ℕ) → k ≤ q → slice_get cs q ≡ Some c → P c) → All P (drop k cs)
all_dropped P [] zero f = tt
all_dropped P (c ∷ cs) zero f = (f 0 c (omega arith) refl, all_dropped P cs zero (λ q x l h. f (suc q) x (omega arith) h))
all_dropped P [] (suc k) f = tt
all_dropped P (c ∷ cs) (suc k) f = all_dropped P cs k (λ q x l h. f (suc q) x (omega arith) h)

-- Cells of some nodes.
module _ (ns : List Node) where
  pub cells_none : (ds : List ℕ) → All (λ d. cells_of (table.node ns d) ≡ 0) ds → cells_all ns ds ≡ 0
  cells_none [] a = refl
  cells_none (d ∷ ds) a = let h = cells_none ds a.1 in let k = a.0 in omega arith

  pub cells_one : (ds : List ℕ) → All (λ d. cells_of (table.node ns d) ≡ 1) ds → cells_all ns ds ≡ length ds
  cells_one [] a = refl
  cells_one (d ∷ ds) a = let h = cells_one ds a.1 in let k = a.0 in omega arith

  pub cells_append : (xs ys : List ℕ) → cells_all ns (xs ++ ys) ≡ cells_all ns xs + cells_all ns ys
  cells_append [] ys = omega arith
  cells_append (x ∷ xs) ys = let h = cells_append xs ys in omega arith

  pub cells_front : (ds : List ℕ) (k : ℕ) → All (λ d. cells_of (table.node ns d) ≡ 0) (drop k ds) → cells_all ns (take k ds) ≡ cells_all ns ds
  cells_front ds k a =
      let e = ap (cells_all ns) (take-append-drop k ds) in
      let p = cells_append (take k ds) (drop k ds) in
      let z = cells_none (drop k ds) a in omega arith

  -- a node behind the declarations has no cells, and a parameter has one
  pub inner_cells : (d : ℕ) → between 7 25 (table.kind_at ns d) ≡ true → cells_of (table.node ns d) ≡ 0
  inner_cells d h = no_cells (table.node ns d) (grind (arith, nat_tests))

  pub parameter_cells : (d : ℕ) → table.kind_at ns d ≡ 6 → cells_of (table.node ns d) ≡ 1
  parameter_cells d h = rw h refl

-- Scopes: of what the program holds it is the program, and of any other declaration it is not.
scope_outer : (ns : List Node) → table.kind_at ns 0 ≡ 1 → (d : ℕ) → above ns d ≡ 0 → scope ns d ≡ 0
unfolding scope
scope_outer ns p d h = ap (λ x. scope_in ns x (above ns x)) h ∙ rw p refl

scope_some : (ns : List Node) → table.kind_at ns 0 ≡ 1 → (i q : ℕ) → eqb i 0 ≡ false → eqb (scope_in ns i q) 0 ≡ false
scope_some ns p i q z =
    elim (cases_Bool (eqb (table.kind_at ns i) 7 && eqb (table.kind_at ns q) 5)) [
      | inl y ↦ rw y (method q (eqb-true (table.kind_at ns q) 5 (and_parts (eqb (table.kind_at ns i) 7) (eqb (table.kind_at ns q) 5) y).1))
      | inr n ↦ rw n z
    ]
  where
    method : (m : ℕ) → table.kind_at ns m ≡ 5 → eqb m 0 ≡ false
    method zero h = absurd (omega (arith, h, p))
    method (suc m) h = ne_eqb (suc m) 0 (λ e. omega arith)

scope_inner : (ns : List Node) → table.kind_at ns 0 ≡ 1 → (d i : ℕ) → above ns d ≡ i → eqb i 0 ≡ false → eqb (scope ns d) 0 ≡ false
unfolding scope
scope_inner ns p d i h z = rw h (scope_some ns p i (above ns i) z)

module _ (r : Rule) (a : Accepted r) where
  -- the cells of the call in use at node i
  abbrev pub local : ℕ → ℕ
  local i = cells_in false (in_force r.nodes i)

  module _ (i : ℕ) (l : i < length r.nodes) where
    -- what holds of the children by number
    pub child_of : (P : ℕ → Type 0) → ((q : ℕ) → has r i q ≡ true → P (child r i q)) → (q c : ℕ) → slice_get (children r i) q ≡ Some c → P c
    child_of P f q c h =
        let n = nth_child r a.shaped.spans a.shaped.families i l q c h in
        let e = n.1 in rw e (f q n.0)

    pub above_is : (k : ℕ) → has r i k ≡ true → above r.nodes (child r i k) ≡ i
    above_is k h = child_above r a.shaped.spans a.shaped.families i l k h

    counted : eqb i 0 ≡ false → (k : ℕ) → All (λ d. (false || not (eqb (scope r.nodes d) 0)) ≡ true) (take k (children r i))
    counted z k =
        all_taken (λ d. (false || not (eqb (scope r.nodes d) 0)) ≡ true) (children r i) k
        (λ q c m h. child_of (λ d. (false || not (eqb (scope r.nodes d) 0)) ≡ true)
        (λ q t. let s = scope_inner r.nodes a.shaped.program (child r i q) i (above_is q t) z in rw s refl) q c h)

    -- those at a child of a node that is not the program
    pub local_child : eqb i 0 ≡ false → (k : ℕ) → has r i k ≡ true → local (child r i k) ≡ (local i + cells_in false (own r.nodes i)) + cells_all r.nodes (take k (children r i))
    local_child z k h =
        let ns = r.nodes in
        let e = ap (cells_in false) (in_force_child r a.names a.strings a.shaped i l k h) in
        let p = cells_in_append false (in_force ns i ++ own ns i) (owns ns (take k (children r i))) in
        let q = cells_in_append false (in_force ns i) (own ns i) in
        let o = owns_cells ns false (take k (children r i)) (counted z k) in
        omega arith

    -- the first cell of a child that is a variable, and the cells at a child that is a statement
    pub place_child : eqb i 0 ≡ false → (k : ℕ) → has r i k ≡ true → is_variable (kind_at r (child r i k)) ≡ true → place r.nodes (child r i k) ≡ local (child r i k)
    unfolding place
    place_child z k h v =
        let e = above_is k h in
        rw v (ap (λ x. cells_in (eqb x 0) (in_force r.nodes (child r i k))) e ∙ ap (λ b. cells_in b (in_force r.nodes (child r i k))) z)

    pub offset_child : eqb i 0 ≡ false → (k : ℕ) → has r i k ≡ true → offset r (child r i k) ≡ local (child r i k)
    unfolding offset
    offset_child z k h =
        let e = above_is k h in
        ap (λ x. cells_in (eqb x 0) (in_force r.nodes (child r i k))) e ∙ ap (λ b. cells_in b (in_force r.nodes (child r i k))) z

    pub offset_own : eqb (above r.nodes i) 0 ≡ false → offset r i ≡ local i
    unfolding offset
    offset_own z = ap (λ b. cells_in b (in_force r.nodes i)) z

  -- a node behind the declarations has no name of its own
  pub own_inner : (i : ℕ) → between 7 25 (kind_at r i) ≡ true → cells_in false (own r.nodes i) ≡ 0
  own_inner i h =
      let d : declares r.nodes i ≡ false = grind (arith, nat_tests) in rw d refl

  -- in the program: fields have their cells one after another, and no call has cells there
  module _ (l : 0 < length r.nodes) (k : ℕ) (h : has r 0 k ≡ true) where
    in_force_field : in_force r.nodes (child r 0 k) ≡ owns r.nodes (take k (children r 0))
    in_force_field =
        let p : declares r.nodes 0 ≡ false = (let x = a.shaped.program in rw x refl) in
        in_force_child r a.names a.strings a.shaped 0 l k h ∙ rw (in_force_none r.nodes, p) refl

    pub place_field : is_variable (kind_at r (child r 0 k)) ≡ true → place r.nodes (child r 0 k) ≡ cells_all r.nodes (take k (children r 0))
    unfolding place
    place_field v =
        let e = above_is 0 l k h in
        let t : All (λ d. (true || not (eqb (scope r.nodes d) 0)) ≡ true) (take k (children r 0)) = all_taken (λ d. (true || not (eqb (scope r.nodes d) 0)) ≡ true) (children r 0) k (λ q c m n. refl) in
        rw v (ap (λ x. cells_in (eqb x 0) (in_force r.nodes (child r 0 k))) e ∙ ap (cells_in true) in_force_field ∙ owns_cells r.nodes true (take k (children r 0)) t)

    pub local_method : local (child r 0 k) ≡ 0
    local_method =
        ap (cells_in false) in_force_field
        ∙ owns_none r.nodes false (take k (children r 0))
        (all_taken (λ d. (false || not (eqb (scope r.nodes d) 0)) ≡ false) (children r 0) k
        (λ q c m n. child_of 0 l (λ d. (false || not (eqb (scope r.nodes d) 0)) ≡ false)
        (λ q t. let s = scope_outer r.nodes a.shaped.program (child r 0 q) (above_is 0 l q t) in rw s refl) q c n))

    pub own_method : cells_in false (own r.nodes (child r 0 k)) ≡ 0
    own_method =
        own_none r.nodes false (child r 0 k)
        (let s = scope_outer r.nodes a.shaped.program (child r 0 k) (above_is 0 l k h) in rw s refl)
