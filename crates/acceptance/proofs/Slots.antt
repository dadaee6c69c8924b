-- Children by kind: what the slots of a node's kind say of child 0, child 1 and so on.
use Rattle.std.proofs.Common.{◌≡◌, ℕ, suc, ◌<◌, ◌≤◌, true, false, ◌⊎◌, List, [], ◌∷◌, ◌++◌, map, length, sym, ap, ◌∙◌, subst, inl, inr, arith, length-append, le-ltb, lt-ltb}
use Rattle.std.proofs.ByRecursion.{All-append}
use Rattle.std.proofs.lemmas.Bool.{cases_lt}
use Rattle.std.specs.List.{AllByRecursion as All}
use Rattle.finding.proofs.Bools.{both}
use Rattle.nodes.specs.Shapes.{of_class, one, perhaps, many, shape, every, Arranged}
use Rattle.nodes.specs.declared.kind.Kind.{Kind}
use Rattle.nodes.specs.declared.shape.Class.{Class}
use Rattle.nodes.specs.declared.shape.Slot.{Slot}
use Rattle.tree.specs.Spans.{Chain}
use Rattle.rule_laws.specs.Shaped.{Shaped}
use Rattle.node_rules.specs.Tables as table
use Rattle.semantics.specs.Rule.{Rule, node, kind_at, end, child, has, children}

-- The children of node i from number k on stand in these slots.
pub record Rest (r : Rule) (i k : ℕ) (slots : List Slot) : Type 0 where
  pub nodes : List ℕ
  pub chained : Chain (table.end r.nodes) (child r i k) (end r i) nodes
  pub arranged : Arranged slots (map (table.kind_at r.nodes) nodes)

pub rest_all : (r : Rule) (names strings : ℕ) → Shaped r.nodes names strings → (i : ℕ) → i < length r.nodes → Rest r i 0 (shape (node r i).kind)
rest_all r names strings sh i l = record { nodes = children r i; chained = sh.families.ordered i l; arranged = (sh.nodes_fit i l).children_arranged }

pub rest_as : (r : Rule) (names strings : ℕ) → Shaped r.nodes names strings → (i : ℕ) → i < length r.nodes → (k : Kind) → (node r i).kind ≡ k → Rest r i 0 (shape k)
rest_as r names strings sh i l k e = subst (λ x. Rest r i 0 (shape x)) e (rest_all r names strings sh i l)

-- Child k is there, and of the class.
pub record Taken (r : Rule) (i k : ℕ) (c : Class) : Type 0 where
  pub there : has r i k ≡ true
  pub kind : of_class c (kind_at r (child r i k)) ≡ true

module _ (r : Rule) (i k : ℕ) (c : Class) (rest : List Slot) where
  abbrev kinds : List ℕ → List ℕ
  kinds = map (table.kind_at r.nodes)

  -- one child goes into the first slot
  first_taken : (cs run later : List ℕ) → Chain (table.end r.nodes) (child r i k) (end r i) cs → kinds cs ≡ run ++ later → every (of_class c) run ≡ true → length run ≡ 1 → Arranged rest later → Taken r i k c × Rest r i (suc k) rest
  first_taken cs [] later h q e l a = absurd (omega arith)
  first_taken cs (x ∷ y ∷ run) later h q e l a = absurd (omega arith)
  first_taken [] (x ∷ []) later h q e l a = absurd (grind arith)
  first_taken (n ∷ cs) (x ∷ []) later h q e l a =
      let s : x ≡ kind_at r (child r i k) = (let p : n ≡ child r i k = h.0 in let w : kind_at r n ≡ x = cc in sym w ∙ ap (kind_at r) p) in
      let m : later ≡ kinds cs = cc in (
        record { there = lt-ltb (child r i k) (end r i) h.1.0; kind = rw s at (both (of_class c x) true e).0 },
        record { nodes = cs; chained = h.1.1; arranged = subst (Arranged rest) m a },
      )

  pub take_one : Rest r i k (one c ∷ rest) → Taken r i k c × Rest r i (suc k) rest
  take_one s =
      let a = s.arranged in
      first_taken s.nodes a.0 a.1.0 s.chained a.1.1.0 a.1.1.1.0 a.1.1.1.1.0 a.1.1.1.1.1

  perhaps_taken : (cs run later : List ℕ) → Chain (table.end r.nodes) (child r i k) (end r i) cs → kinds cs ≡ run ++ later → every (of_class c) run ≡ true → length run ≤ 1 → Arranged rest later → Rest r i k rest ⊎ (Taken r i k c × Rest r i (suc k) rest)
  perhaps_taken cs [] later h q e l a = inl (record { nodes = cs; chained = h; arranged = subst (Arranged rest) (sym q) a })
  perhaps_taken cs (x ∷ run) later h q e l a = inr (first_taken cs (x ∷ run) later h q e (omega arith) a)

  pub take_perhaps : Rest r i k (perhaps c ∷ rest) → Rest r i k rest ⊎ (Taken r i k c × Rest r i (suc k) rest)
  take_perhaps s =
      let a = s.arranged in
      perhaps_taken s.nodes a.0 a.1.0 s.chained a.1.1.0 a.1.1.1.0 a.1.1.1.1.0 a.1.1.1.1.1

-- No slot is left: there is no further child.
pub take_none : (r : Rule) (i k : ℕ) → Rest r i k [] → has r i k ≡ false
take_none r i k s = none s.nodes s.chained s.arranged
  where
    none : (cs : List ℕ) → Chain (table.end r.nodes) (child r i k) (end r i) cs → map (table.kind_at r.nodes) cs ≡ [] → has r i k ≡ false
    none [] h q = le-ltb (child r i k) (end r i) (omega (arith, h))
    none (c ∷ cs) h q = absurd (grind arith)

-- Some children go into a slot for many: those from k up to some number.
pub record Run (r : Rule) (i k : ℕ) (c : Class) (rest : List Slot) : Type 0 where
  pub stop : ℕ
  pub from : k ≤ stop
  pub taken : (q : ℕ) → k ≤ q → q < stop → Taken r i q c
  pub later : Rest r i stop rest

module _ (r : Rule) (i : ℕ) (c : Class) (rest : List Slot) where
  run_taken : (k : ℕ) (cs run later : List ℕ) → Chain (table.end r.nodes) (child r i k) (end r i) cs → map (table.kind_at r.nodes) cs ≡ run ++ later → every (of_class c) run ≡ true → Arranged rest later → Run r i k c rest
  run_taken k cs [] later h q e a =
      record { stop = k; from = omega arith; taken = λ n x y. absurd (omega arith); later = record { nodes = cs; chained = h; arranged = subst (Arranged rest) (sym q) a } }
  run_taken k [] (x ∷ run) later h q e a = absurd (grind arith)
  run_taken k (n ∷ cs) (x ∷ run) later h q e a =
      let p : n ≡ child r i k = h.0 in
      let w : kind_at r n ≡ x = cc in
      let s : x ≡ kind_at r (child r i k) = sym w ∙ ap (kind_at r) p in
      let b = both (of_class c x) (every (of_class c) run) e in
      let m : map (table.kind_at r.nodes) cs ≡ run ++ later = cc in
      let t = run_taken (suc k) cs run later h.1.1 m b.1 a in
      record {
        stop = t.stop;
        from = (let f = t.from in omega arith);
        taken = λ n x y. elim (cases_lt k n) [
          | inl lt ↦ t.taken n (omega arith) y
          | inr le ↦ let v : n ≡ k = omega arith in rw v (record { there = lt-ltb (child r i k) (end r i) h.1.0; kind = rw s at b.0 })
        ];
        later = t.later;
      }

  pub take_many : (k : ℕ) → Rest r i k (many c ∷ rest) → Run r i k c rest
  take_many k s =
      let a = s.arranged in
      run_taken k s.nodes a.0 a.1.0 s.chained a.1.1.0 a.1.1.1.0 a.1.1.1.1.1

-- What holds of every kind of each slot's class holds of all kinds.
every_all : (P : ℕ → Type 0) (c : Class) → ((k : ℕ) → of_class c k ≡ true → P k) → (run : List ℕ) → every (of_class c) run ≡ true → All P run
every_all P c f [] e = tt
every_all P c f (k ∷ run) e = let p = both (of_class c k) (every (of_class c) run) e in (f k p.0, every_all P c f run p.1)

pub arranged_all : (P : ℕ → Type 0) (slots : List Slot) (ks : List ℕ) → All (λ (s : Slot). (k : ℕ) → of_class s.class k ≡ true → P k) slots → Arranged slots ks → All P ks
arranged_all P [] ks f a = rw a tt
arranged_all P (s ∷ slots) ks f a =
    rw a.1.1.0
    (All-append P a.0 a.1.0 (every_all P s.class f.0 a.0 a.1.1.1.0) (arranged_all P slots a.1.0 f.1 a.1.1.1.1.1))

-- Slots for one child at most take no more children than there are slots.
pub arranged_few : (cs : List Class) (ks : List ℕ) → Arranged (map perhaps cs) ks → length ks ≤ length cs
arranged_few [] ks a = rw a (omega arith)
arranged_few (c ∷ cs) ks a =
    let h = arranged_few cs a.1.0 a.1.1.1.1.1 in
    let l = a.1.1.1.1.0 in
    rw a.1.1.0 (simp length-append (omega arith))
