-- Where there is no violation, every expression has a type, but for a call of a void method that is a statement.
use Rattle.std.proofs.Common.{◌≡◌, ℕ, zero, suc, ◌-◌, ◌<◌, ◌≤◌, true, false, ◌||◌, eqb, ◌⊎◌, List, [], ◌∷◌, ◌++◌, map, length, is_some, Some, None, Option, refl, ap, inl, inr, arith}
use Rattle.std.proofs.lemmas.List.Elements.{All-append, All-from_recursion, recursion_from_All}
use Rattle.std.proofs.lemmas.Bool.{cases_Bool}
use Rattle.std.proofs.lemmas.Bool.Decides.{nat_tests}
use Rattle.std.specs.List.{AllByRecursion as All}
use Rattle.nodes.specs.Kinds.{number, between}
use Rattle.nodes.specs.Fields.{fields}
use Rattle.nodes.specs.Shapes.{of_class, one, shape, every, Arranged}
use Rattle.nodes.specs.declared.kind.Kind.{Kind}
use Rattle.nodes.specs.declared.kind.Kind.TheVariants.{ScalarLocation, ArrayLocation, Literal, Unary, Cast, Call, Len, Binary}
use Rattle.nodes.specs.declared.node.Node.{Node}
use Rattle.nodes.specs.declared.shape.Class.TheVariants as class
use Rattle.nodes.specs.declared.shape.Slot.{Slot}
use Rattle.tree.specs.Spans.{elem}
use Rattle.node_rules.specs.Tables.{Table, node, kind_at, end, parts}
use Rattle.node_rules.specs.Scopes.{meant}
use Rattle.node_rules.specs.Types.{tagged, has_type}
use Rattle.node_rules.specs.Rules.{names_scalar, names_array, names_callable, names_void, declared_type, call_type, sound_type, broken_by, declared, held, facts_at, type_of, first_violation}
use Rattle.node_rules.specs.declared.facts.Declared.{Declared}
use Rattle.node_rules.specs.declared.types.Ty.{Ty}
use Rattle.node_rules.specs.declared.violation.Violation.{Violation}
use Rattle.node_rules.specs.declared.violation.Violation.TheVariants.{Undeclared, VoidValue, NotScalar, NotCallable, NotElement}
use Rattle.rule_laws.specs.Shaped.{Shaped}
use Rattle.rule_laws.specs.Typed.{VoidCall, AcceptedTyped}
use Rattle.rule_laws.proofs.Accepting.{none_broken_at, kept_at}
use Rattle.rule_laws.proofs.Meaning.{meant_below}
use Rattle.rule_laws.proofs.Numbers.{among, one_of}
use Rattle.rule_laws.proofs.Typing.{parts_all, type_is}

-- Each in a list, by what is in it.
each_elem : (P : ℕ → Type 0) (cs : List ℕ) → ((c : ℕ) → elem c cs ≡ true → P c) → All P cs
each_elem P [] h = tt
each_elem P (c ∷ cs) h = (h c (grind (arith, nat_tests)), each_elem P cs (λ x e. h x (grind (arith, nat_tests))))

at_elem : (P : ℕ → Type 0) (cs : List ℕ) (c : ℕ) → All P cs → elem c cs ≡ true → P c
at_elem P [] c a h = grind arith
at_elem P (x ∷ xs) c a h = grind (arith, nat_tests, at_elem P xs c)

-- Children in slots for expressions and arguments are expressions and strings.
abbrev Values : Slot → Type 0
Values s = (k : ℕ) → of_class s.class k ≡ true → between 17 25 k ≡ true

values_run : (s : Slot) → Values s → (run : List ℕ) → every (of_class s.class) run ≡ true → All (λ k. between 17 25 k ≡ true) run
values_run s v [] h = tt
values_run s v (k ∷ run) h = grind (arith, v, values_run s v run)

values_arranged : (slots : List Slot) (ks : List ℕ) → All Values slots → Arranged slots ks → All (λ k. between 17 25 k ≡ true) ks
values_arranged [] ks v a = rw a tt
values_arranged (s ∷ slots) ks v a =
    let P : ℕ → Type 0 = λ k. between 17 25 k ≡ true in
    let run = All-from_recursion P a.0 (values_run s v.0 a.0 a.1.1.1.0) in
    let later = All-from_recursion P a.1.0 (values_arranged slots a.1.0 v.1 a.1.1.1.1.1) in
    rw a.1.1.0 (recursion_from_All P (a.0 ++ a.1.0) (All-append P a.0 a.1.0 run later))

all_unmap : (P : ℕ → Type 0) (f : ℕ → ℕ) (cs : List ℕ) → All P (map f cs) → All (λ c. P (f c)) cs
all_unmap P f [] a = tt
all_unmap P f (c ∷ cs) a = (a.0, all_unmap P f cs a.1)

abbrev expressions : List Kind
expressions = ScalarLocation ∷ ArrayLocation ∷ Literal ∷ Unary ∷ Cast ∷ Call ∷ Len ∷ Binary ∷ []

among_expressions : (k : Kind) → between 17 24 (number k) ≡ true → among k expressions ≡ true
among_expressions k h = grind (arith, nat_tests)

expression_slots : (k : Kind) → between 17 24 (number k) ≡ true → All Values (shape k)
expression_slots k h = grind (arith, nat_tests)

-- Where each child is a string or has a type, the first has one if it is an expression.
module _ (ns : List Node) (τ : ℕ → Option Ty) where
  held_typed : (cs : List ℕ) → All (λ c. (eqb (kind_at ns c) 25 || has_type (τ c)) ≡ true) cs → (held ns τ cs).typed ≡ true
  held_typed [] a = refl
  held_typed (c ∷ cs) a = grind (arith, held_typed cs)

  first_run : (cs run later : List ℕ) → map (kind_at ns) cs ≡ run ++ later → every (of_class class.Expression) run ≡ true → length run ≡ 1 → (held ns τ cs).typed ≡ true → has_type (held ns τ cs).first ≡ true
  first_run cs [] later q e l h = absurd (omega arith)
  first_run [] (k ∷ run) later q e l h = grind arith
  first_run (c ∷ cs) (k ∷ run) later q e l h = grind (arith, nat_tests)

  first_typed : (rest : List Slot) (cs : List ℕ) → Arranged (one class.Expression ∷ rest) (map (kind_at ns) cs) → (held ns τ cs).typed ≡ true → has_type (held ns τ cs).first ≡ true
  first_typed rest cs a h = first_run cs a.0 a.1.0 a.1.1.0 a.1.1.1.0 a.1.1.1.1.0 h

-- Tags from 1 to 3 tell types, and those of variables are such.
tagged_typed : (n : ℕ) → between 1 3 n ≡ true → has_type (tagged n) ≡ true
tagged_typed n h = grind (arith, nat_tests)

abbrev Tagged : Kind → ℕ → Type 0
Tagged k n = between (fields k).first (fields k).last n ≡ true

-- What a name means, where it is declared as its use asks.
module _ (ns : List Node) where
  variable_meant : (m : Option ℕ) → ((d : ℕ) → m ≡ Some d → Tagged (node ns d).kind (node ns d).tag) → is_some (declared ns m) ≡ true → (names_scalar (declared ns m) || names_array (declared ns m)) ≡ true → has_type (declared_type (declared ns m)) ≡ true
  variable_meant m g s h = grind (arith, nat_tests)

  callable_meant : (m : Option ℕ) → is_some (declared ns m) ≡ true → names_callable (declared ns m) ≡ true → (has_type (call_type (declared ns m)) ≡ true) ⊎ (names_void (declared ns m) ≡ true)
  callable_meant m s h = grind (arith, nat_tests)

-- One node of an accepted table: by its kind its fields, its children or what its name means give its type.
module _ (t : Table) (names strings : ℕ) (sh : Shaped t.nodes names strings) (none : first_violation t ≡ None) (i : ℕ) (l : i < length t.nodes) (h : (held t.nodes (type_of t) (parts t.nodes i)).typed ≡ true) where
  abbrev Sound : Kind → Type 0
  Sound k = (node t.nodes i).kind ≡ k → (has_type (sound_type k (facts_at t i)) ≡ true) ⊎ VoidCall t i

  abbrev name_at : Option Declared
  name_at = declared t.nodes (meant t.nodes i)

  kept_rule : (v : Violation) → broken_by v (facts_at t i) ≡ false
  kept_rule v = kept_at t none i l v

  meant_tagged : (d : ℕ) → meant t.nodes i ≡ Some d → Tagged (node t.nodes d).kind (node t.nodes d).tag
  meant_tagged d e = (sh.nodes_fit d (omega (arith, meant_below t.nodes i d e))).tag

  scalar : Sound ScalarLocation
  scalar e =
      let a = kept_rule Undeclared in
      let b = kept_rule NotScalar in
      inl (variable_meant t.nodes (meant t.nodes i) meant_tagged (grind arith) (grind arith))

  array : Sound ArrayLocation
  array e =
      let a = kept_rule Undeclared in
      let b = kept_rule NotElement in
      inl (variable_meant t.nodes (meant t.nodes i) meant_tagged (grind arith) (grind arith))

  literal : Sound Literal
  literal e =
      let a = (sh.nodes_fit i l).tag in inl (tagged_typed (node t.nodes i).tag (grind arith))

  cast : Sound Cast
  cast e =
      let a = (sh.nodes_fit i l).tag in inl (tagged_typed (node t.nodes i).tag (grind (arith, nat_tests)))

  unary : Sound Unary
  unary e =
      let f = first_typed t.nodes (type_of t) [] (parts t.nodes i) (rw e at (sh.nodes_fit i l).children_arranged) h in
      inl (grind arith)

  binary : Sound Binary
  binary e =
      let f = first_typed t.nodes (type_of t) (one class.Expression ∷ []) (parts t.nodes i) (rw e at (sh.nodes_fit i l).children_arranged) h in
      inl (grind arith)

  call : Sound Call
  call e =
      let a = kept_rule Undeclared in
      let b = kept_rule NotCallable in
      let c = kept_rule VoidValue in
      elim (callable_meant t.nodes (meant t.nodes i) (grind arith) (grind arith)) [
        | inl x ↦ inl x
        | inr v ↦ inr (record { call = ap number e; void = v; statement = grind (arith, nat_tests) })
      ]

  len : Sound Len
  len e = inl refl

  sound_node : between 17 24 (kind_at t.nodes i) ≡ true → (has_type (type_of t i) ≡ true) ⊎ VoidCall t i
  sound_node b =
      let k = (node t.nodes i).kind in
      let s = one_of Sound expressions (scalar, (array, (literal, (unary, (cast, (call, (len, (binary, tt)))))))) k (among_expressions k b) refl in
      let n = none_broken_at t none i l in
      let w = type_is t i l in
      let q : type_of t i ≡ sound_type k (facts_at t i) = grind arith in
      elim s [ inl x ↦ inl (rw q x) | inr v ↦ inr v ]

-- All nodes, from the last one down.
module _ (t : Table) (names strings : ℕ) (sh : Shaped t.nodes names strings) (none : first_violation t ≡ None) where
  child_typed : (i c : ℕ) → i < length t.nodes → between 17 24 (kind_at t.nodes i) ≡ true → elem c (parts t.nodes i) ≡ true → (has_type (type_of t c) ≡ true) ⊎ VoidCall t c → has_type (type_of t c) ≡ true
  child_typed i c l b m (inl x) = x
  child_typed i c l b m (inr v) =
      let p = sh.families.parent_of i c l m in
      let q = v.statement in grind (arith, nat_tests)

  typed_from : (m i : ℕ) → length t.nodes - i ≤ m → i < length t.nodes → between 17 24 (kind_at t.nodes i) ≡ true → (has_type (type_of t i) ≡ true) ⊎ VoidCall t i
  typed_from zero i z l b = absurd (omega arith)
  typed_from (suc m) i z l b =
      let ns = t.nodes in
      let w = sh.spans.within i l in
      let ks = all_unmap (λ k. between 17 25 k ≡ true) (kind_at ns) (parts ns i) (values_arranged (shape (node ns i).kind) (map (kind_at ns) (parts ns i)) (expression_slots (node ns i).kind b) (sh.nodes_fit i l).children_arranged) in
      let bounds = parts_all (λ c. (i < c) × (c < end ns i)) ns i (λ k x y. (x, y)) in
      sound_node t names strings sh none i l
      (held_typed ns (type_of t) (parts ns i) (each_elem (λ c. (eqb (kind_at ns c) 25 || has_type (type_of t c)) ≡ true) (parts ns i) (λ c e.
      let n = at_elem (λ c. (i < c) × (c < end ns i)) (parts ns i) c bounds e in
      let k = at_elem (λ c. between 17 25 (kind_at ns c) ≡ true) (parts ns i) c ks e in
      elim (cases_Bool (eqb (kind_at ns c) 25)) [
        | inl s ↦ grind arith
        | inr s ↦
            let x : between 17 24 (kind_at ns c) ≡ true = grind (arith, nat_tests) in
            let y = child_typed i c l b e (typed_from m c (omega arith) (omega arith) x) in grind arith
      ]))) b

pub accepted_typed : AcceptedTyped
accepted_typed t names strings sh none i l b = typed_from t names strings sh none (length t.nodes - i) i (omega arith) l b
