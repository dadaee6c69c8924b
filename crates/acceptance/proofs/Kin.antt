-- An accepted rule, and which kinds its nodes have by the kinds of their parents.
use Rattle.std.proofs.Common.{◌≡◌, ℕ, zero, suc, ◌<◌, Bool, true, false, ◌&&◌, ◌||◌, eqb, List, [], ◌∷◌, map, length, Some, None, ap, ◌∙◌, subst, arith, ne_eqb}
use Rattle.std.proofs.lemmas.Bool.Decides.{nat_tests}
use Rattle.std.specs.List.{slice_get, AllByRecursion as All}
use Rattle.nodes.specs.Kinds.{number, between}
use Rattle.nodes.specs.Shapes.{of_class, shape}
use Rattle.nodes.specs.declared.kind.Kind.{Kind}
use Rattle.nodes.specs.declared.kind.Kind.TheVariants.{Program, Import, ScalarDeclaration, ArrayDeclaration, Method, Parameter, Block, Assignment, Step, CallStatement, If, For, While, Return, Break, Continue, ScalarLocation, ArrayLocation, Literal, Unary, Cast, Call, Len, Binary, Text}
use Rattle.nodes.specs.declared.shape.Slot.{Slot}
use Rattle.rule_laws.specs.Shaped.{Shaped}
use Rattle.node_rules.specs.Rules.{first_violation}
use Rattle.node_rules.specs.Scopes.{above}
use Rattle.node_rules.specs.Tables.{Table, has_main}
use Rattle.node_rules.specs.Tables as table
use Rattle.semantics.specs.Rule.{Rule, node, kind_at, child, has, children}
use Rattle.acceptance.proofs.Children.{child_nth, elem_child}
use Rattle.acceptance.proofs.Slots.{arranged_all}

abbrev pub as_table : Rule → Table
as_table r = record { nodes = r.nodes; main = has_main r.nodes r.names }

-- A rule whose nodes are shaped, without a violation.
pub record Accepted (r : Rule) : Type 0 where
  pub names : ℕ
  pub strings : ℕ
  pub shaped : Shaped r.nodes names strings
  pub none : first_violation (as_table r) ≡ None

-- A node of kind n may be a child of one of kind p.
abbrev pub kin : ℕ → ℕ → Bool
kin p n =
    (eqb p 1 && between 2 5 n)
    || ((eqb p 5 && between 6 7 n)
    || ((eqb p 7 && (between 3 4 n || between 8 16 n)) || (between 8 24 p && between 7 25 n)))

abbrev In : Kind → Slot → Type 0
In k s = (n : ℕ) → of_class s.class n ≡ true → kin (number k) n ≡ true

slots_kin : (k : Kind) → All (In k) (shape k)
slots_kin Program = (λ n h. grind (arith, nat_tests), (λ n h. grind (arith, nat_tests), (λ n h. grind (arith, nat_tests), tt)))
slots_kin Import = tt
slots_kin ScalarDeclaration = tt
slots_kin ArrayDeclaration = tt
slots_kin Method = (λ n h. grind (arith, nat_tests), (λ n h. grind (arith, nat_tests), tt))
slots_kin Parameter = tt
slots_kin Block = (λ n h. grind (arith, nat_tests), (λ n h. grind (arith, nat_tests), tt))
slots_kin Assignment = (λ n h. grind (arith, nat_tests), (λ n h. grind (arith, nat_tests), tt))
slots_kin Step = (λ n h. grind (arith, nat_tests), tt)
slots_kin CallStatement = (λ n h. grind (arith, nat_tests), tt)
slots_kin If = (λ n h. grind (arith, nat_tests), (λ n h. grind (arith, nat_tests), (λ n h. grind (arith, nat_tests), tt)))
slots_kin For = (λ n h. grind (arith, nat_tests), (λ n h. grind (arith, nat_tests), (λ n h. grind (arith, nat_tests), (λ n h. grind (arith, nat_tests), tt))))
slots_kin While = (λ n h. grind (arith, nat_tests), (λ n h. grind (arith, nat_tests), tt))
slots_kin Return = (λ n h. grind (arith, nat_tests), tt)
slots_kin Break = tt
slots_kin Continue = tt
slots_kin ScalarLocation = tt
slots_kin ArrayLocation = (λ n h. grind (arith, nat_tests), tt)
slots_kin Literal = tt
slots_kin Unary = (λ n h. grind (arith, nat_tests), tt)
slots_kin Cast = (λ n h. grind (arith, nat_tests), tt)
slots_kin Call =
    let a : (n : ℕ) → between 17 25 n ≡ true → kin 22 n ≡ true = λ n h. grind (arith, nat_tests) in
    (a, (a, (a, (a, (a, (a, tt))))))
slots_kin Len = tt
slots_kin Binary = (λ n h. grind (arith, nat_tests), (λ n h. grind (arith, nat_tests), tt))
slots_kin Text = tt

-- Each of some nodes, by number.
pub all_nth : (P : ℕ → Type 0) (f : ℕ → ℕ) (cs : List ℕ) (k c : ℕ) → All P (map f cs) → slice_get cs k ≡ Some c → P (f c)
all_nth P f [] k c a h = absurd (grind arith)
all_nth P f (x ∷ xs) zero c a h = let q : x ≡ c = cc in rw q at a.0
all_nth P f (x ∷ xs) (suc k) c a h = all_nth P f xs k c a.1 h

module _ (r : Rule) (a : Accepted r) where
  pub kin_child : (i : ℕ) → i < length r.nodes → (k : ℕ) → has r i k ≡ true → kin (kind_at r i) (kind_at r (child r i k)) ≡ true
  kin_child i l k h =
      let sh = a.shaped in
      all_nth (λ n. kin (kind_at r i) n ≡ true) (table.kind_at r.nodes) (children r i) k (child r i k)
      (arranged_all (λ n. kin (kind_at r i) n ≡ true) (shape (node r i).kind) (map (table.kind_at r.nodes) (children r i)) (slots_kin (node r i).kind) (sh.nodes_fit i l).children_arranged)
      (child_nth r sh.spans sh.families i l k h)

  -- every node but the program is a child, by number
  pub record Numbered (j : ℕ) : Type 0 where
    pub inside : above r.nodes j < length r.nodes
    pub index : ℕ
    pub there : has r (above r.nodes j) index ≡ true
    pub is : j ≡ child r (above r.nodes j) index

  pub numbered : (j : ℕ) → 0 < j → j < length r.nodes → Numbered j
  numbered j z l =
      let sh = a.shaped in
      let p = above r.nodes j in
      let s = sh.spans.lower j z l in
      let m : p < length r.nodes = omega arith in
      let q = elem_child r sh.spans sh.families p m j (sh.families.child_of j z l) in
      record { inside = m; index = q.0; there = q.1.0; is = q.1.1 }

  pub child_number : (j p : ℕ) → 0 < j → j < length r.nodes → above r.nodes j ≡ p → (k : ℕ) × (has r p k ≡ true) × (j ≡ child r p k)
  child_number j p z l e =
      let n = numbered j z l in
      (n.index, subst (λ x. has r x n.index ≡ true) e n.there, n.is ∙ ap (λ x. child r x n.index) e)

  pub kin_above : (j : ℕ) → 0 < j → j < length r.nodes → kin (kind_at r (above r.nodes j)) (kind_at r j) ≡ true
  kin_above j z l =
      let n = numbered j z l in
      let k = kin_child (above r.nodes j) n.inside n.index n.there in
      let q : kind_at r j ≡ kind_at r (child r (above r.nodes j) n.index) = ap (kind_at r) n.is in
      rw q k

  -- nodes of most kinds are no program, nor children of it
  pub no_program : (j : ℕ) → eqb (kind_at r j) 1 ≡ false → 0 < j
  no_program zero h = let p = a.shaped.program in absurd (grind (arith, nat_tests))
  no_program (suc j) h = omega arith

  pub inner_above : (j : ℕ) → j < length r.nodes → between 6 25 (kind_at r j) ≡ true → eqb (above r.nodes j) 0 ≡ false
  inner_above j l h =
      let n : eqb (kind_at r j) 1 ≡ false = grind (arith, nat_tests) in
      let k = kin_above j (no_program j n) l in
      by (above r.nodes j) k
    where
      by : (p : ℕ) → kin (kind_at r p) (kind_at r j) ≡ true → eqb p 0 ≡ false
      by zero k = let p = a.shaped.program in absurd (grind (arith, nat_tests))
      by (suc p) k = ne_eqb (suc p) 0 (λ e. omega arith)
