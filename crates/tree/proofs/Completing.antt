-- Children that are arranged in runs fill the slots, for the shapes that kinds have.
--
-- A child goes into the first open slot of its class. That is no loss where a slot for many children stands before slots of
-- other classes only, and one for perhaps a child before slots for perhaps a child only.
use Rattle.std.proofs.Common.{◌≡◌, ℕ, ◌≤◌, Bool, true, false, List, [], ◌∷◌, ◌++◌, length, Some, sym, refl, ap, ◌∙◌, arith}
use Rattle.std.proofs.lemmas.Bool.Decides.{nat_tests}
use Rattle.finding.proofs.Bools.{both}
use Rattle.nodes.specs.Shapes.{of_class, again, asks, filled, satisfied, fill, every, Fitting, Arranged, shape}
use Rattle.nodes.specs.declared.kind.Kind.{Kind}
use Rattle.nodes.specs.declared.kind.Kind.TheVariants.{Program, Import, ScalarDeclaration, ArrayDeclaration, Method, Parameter, Block, Assignment, Step, CallStatement, If, For, While, Return, Break, Continue, ScalarLocation, ArrayLocation, Literal, Unary, Cast, Call, Len, Binary, Text}
use Rattle.nodes.specs.declared.shape.Class.{Class}
use Rattle.nodes.specs.declared.shape.Class.TheVariants as class
use Rattle.nodes.specs.declared.shape.Slot.{Slot}
use Rattle.nodes.specs.declared.shape.Times.{Times}
use Rattle.nodes.specs.declared.shape.Times.TheVariants as times

-- No kind is of both classes.
abbrev Apart : Class → Class → Type 0
Apart c d = (k : ℕ) → of_class d k ≡ true → of_class c k ≡ false

abbrev ApartAll : Class → List Slot → Type 0
ApartAll c [] = Unit {0}
ApartAll c (s ∷ rest) = Apart c s.class × ApartAll c rest

abbrev AllPerhaps : List Slot → Type 0
AllPerhaps [] = Unit {0}
AllPerhaps (s ∷ rest) = (s.times ≡ times.Perhaps) × AllPerhaps rest

abbrev OrderlyAt : Times → Slot → List Slot → Type 0
OrderlyAt times.One s rest = Unit {0}
OrderlyAt times.Perhaps s rest = AllPerhaps rest
OrderlyAt times.Many s rest = ApartAll s.class rest

-- Slots for which the first that is open is the right one.
abbrev Orderly : List Slot → Type 0
Orderly [] = Unit {0}
Orderly (s ∷ rest) = OrderlyAt s.times s rest × Orderly rest

-- slots in which no child is arranged ask for none
unfilled : (t : Times) (n : ℕ) → n ≡ 0 → Fitting t n → asks t ≡ false
unfilled times.One n z f = absurd (omega arith)
unfilled times.Perhaps n z f = refl
unfilled times.Many n z f = refl

nothing : (xs ys : List ℕ) → [] ≡ xs ++ ys → (xs ≡ []) × (ys ≡ [])
nothing [] ys h = (refl, sym h)
nothing (x ∷ xs) ys h = let z : ◌≡◌ {A = ℕ} 0 1 = cc in absurd (omega arith)

arranged_none : (slots : List Slot) (ks : List ℕ) → ks ≡ [] → Arranged slots ks → satisfied slots ≡ true
arranged_none [] ks e a = refl
arranged_none (s ∷ rest) ks e a =
    let p = nothing a.0 a.1.0 (sym e ∙ a.1.1.0) in
    rw (unfilled s.times (length a.0) (ap length p.0) a.1.1.1.1.0)
    (arranged_none rest a.1.0 p.1 a.1.1.1.1.1)

-- the first child of some arranged children is of the class of some slot
first_apart : (c : Class) (slots : List Slot) (k : ℕ) (ks : List ℕ) → ApartAll c slots → Arranged slots (k ∷ ks) → of_class c k ≡ false
first_apart c [] k ks p a = let z : ◌≡◌ {A = ℕ} 0 1 = cc in absurd (omega arith)
first_apart c (s ∷ rest) k ks p a = by_run a.0 a.1.0 a.1.1.0 a.1.1.1.0 a.1.1.1.1.1 (first_apart c rest k ks p.1)
  where
    by_run : (run later : List ℕ) → k ∷ ks ≡ run ++ later → every (of_class s.class) run ≡ true → Arranged rest later → (Arranged rest (k ∷ ks) → of_class c k ≡ false) → of_class c k ≡ false
    by_run [] later e h b r = r (rw e b)
    by_run (x ∷ run) later e h b r = let q : k ≡ x = cc in p.0 k (rw q (both (of_class s.class x) (every (of_class s.class) run) h).0)

-- one child less, in slots for perhaps a child
fewer : (t : Times) (n m : ℕ) → t ≡ times.Perhaps → m ≤ n → Fitting t n → Fitting t m
fewer times.Perhaps n m e l f = omega arith
fewer times.One n m e l f = let z : ◌≡◌ {A = ℕ} 0 1 = cc in absurd (omega arith)
fewer times.Many n m e l f = tt

one_less : (slots : List Slot) (k : ℕ) (ks : List ℕ) → AllPerhaps slots → Arranged slots (k ∷ ks) → Arranged slots ks
one_less [] k ks p a = let z : ◌≡◌ {A = ℕ} 0 1 = cc in absurd (omega arith)
one_less (s ∷ rest) k ks p a = by_run a.0 a.1.0 a.1.1.0 a.1.1.1.0 a.1.1.1.1.0 a.1.1.1.1.1 (one_less rest k ks p.1)
  where
    by_run : (run later : List ℕ) → k ∷ ks ≡ run ++ later → every (of_class s.class) run ≡ true → Fitting s.times (length run) → Arranged rest later → (Arranged rest (k ∷ ks) → Arranged rest ks) → Arranged (s ∷ rest) ks
    by_run [] later e h f b r = ([], (ks, (refl, (refl, (f, r (rw e b))))))
    by_run (x ∷ run) later e h f b r =
        let q : ks ≡ run ++ later = cc in
        (run, (later, (q, ((both (of_class s.class x) (every (of_class s.class) run) h).1, (fewer s.times (length (x ∷ run)) (length run) p.0 (omega arith) f, b)))))

-- a child that goes into the first slot, or passes it over
goes_again : (s : Slot) (rest : List Slot) (k : ℕ) → of_class s.class k ≡ true → again s.times ≡ true → filled (s ∷ rest) k ≡ Some (s ∷ rest)
goes_again s rest k h g = rw (h, g) refl

goes_once : (s : Slot) (rest : List Slot) (k : ℕ) → of_class s.class k ≡ true → again s.times ≡ false → filled (s ∷ rest) k ≡ Some rest
goes_once s rest k h g = rw (h, g) refl

passes : (s : Slot) (rest : List Slot) (k : ℕ) → of_class s.class k ≡ false → asks s.times ≡ false → filled (s ∷ rest) k ≡ filled rest k
passes s rest k h g = rw (h, g) refl

-- Filling the slots that follow, from which filling all follows.
abbrev Completes : List Slot → Type 0
Completes slots = (ks : List ℕ) → Arranged slots ks → fill (Some slots) ks ≡ true

module _ (s : Slot) (rest : List Slot) (ih : Completes rest) where
  -- a slot for one child
  with_one : s.times ≡ times.One → Completes (s ∷ rest)
  with_one t ks a = by_run ks a.0 a.1.0 a.1.1.0 a.1.1.1.0 (one_long s.times t (length a.0) a.1.1.1.1.0) a.1.1.1.1.1
    where
      one_long : (t : Times) → t ≡ times.One → (n : ℕ) → Fitting t n → n ≡ 1
      one_long times.One e n f = f
      one_long times.Perhaps e n f = let z : ◌≡◌ {A = ℕ} 0 1 = cc in absurd (omega arith)
      one_long times.Many e n f = let z : ◌≡◌ {A = ℕ} 0 1 = cc in absurd (omega arith)

      by_run : (ks run later : List ℕ) → ks ≡ run ++ later → every (of_class s.class) run ≡ true → length run ≡ 1 → Arranged rest later → fill (Some (s ∷ rest)) ks ≡ true
      by_run ks [] later e h n b = absurd (omega arith)
      by_run ks (x ∷ []) later e h n b =
          rw e
          (ap (λ o. fill o later) (goes_once s rest x (both (of_class s.class x) true h).0 (ap again t)) ∙ ih later b)
      by_run ks (x ∷ (y ∷ run)) later e h n b = absurd (omega arith)

  -- a slot for perhaps a child
  with_perhaps : s.times ≡ times.Perhaps → AllPerhaps rest → Completes (s ∷ rest)
  with_perhaps t p ks a = by_run ks a.0 a.1.0 a.1.1.0 a.1.1.1.0 (one_long s.times t (length a.0) a.1.1.1.1.0) a.1.1.1.1.1
    where
      one_long : (t : Times) → t ≡ times.Perhaps → (n : ℕ) → Fitting t n → n ≤ 1
      one_long times.Perhaps e n f = f
      one_long times.One e n f = let z : ◌≡◌ {A = ℕ} 0 1 = cc in absurd (omega arith)
      one_long times.Many e n f = let z : ◌≡◌ {A = ℕ} 0 1 = cc in absurd (omega arith)

      passed_over : (ks : List ℕ) → Arranged rest ks → fill (Some (s ∷ rest)) ks ≡ true
      passed_over [] b = rw t (arranged_none rest [] refl b)
      passed_over (k ∷ ks) b = cases (of_class s.class k) refl
        where
          cases : (c : Bool) → of_class s.class k ≡ c → fill (Some (s ∷ rest)) (k ∷ ks) ≡ true
          cases true h = ap (λ o. fill o ks) (goes_once s rest k h (ap again t)) ∙ ih ks (one_less rest k ks p b)
          cases false h = ap (λ o. fill o ks) (passes s rest k h (ap asks t)) ∙ ih (k ∷ ks) b

      by_run : (ks run later : List ℕ) → ks ≡ run ++ later → every (of_class s.class) run ≡ true → length run ≤ 1 → Arranged rest later → fill (Some (s ∷ rest)) ks ≡ true
      by_run ks [] later e h n b = rw e (passed_over later b)
      by_run ks (x ∷ []) later e h n b =
          rw e
          (ap (λ o. fill o later) (goes_once s rest x (both (of_class s.class x) true h).0 (ap again t)) ∙ ih later b)
      by_run ks (x ∷ (y ∷ run)) later e h n b = absurd (omega arith)

  -- a slot for many
  with_many : s.times ≡ times.Many → ApartAll s.class rest → Completes (s ∷ rest)
  with_many t p ks a = rw a.1.1.0 (by_run a.0 a.1.0 a.1.1.1.0 a.1.1.1.1.1)
    where
      passed_over : (ks : List ℕ) → Arranged rest ks → fill (Some (s ∷ rest)) ks ≡ true
      passed_over [] b = rw t (arranged_none rest [] refl b)
      passed_over (k ∷ ks) b =
          ap (λ o. fill o ks) (passes s rest k (first_apart s.class rest k ks p b) (ap asks t)) ∙ ih (k ∷ ks) b

      by_run : (run later : List ℕ) → every (of_class s.class) run ≡ true → Arranged rest later → fill (Some (s ∷ rest)) (run ++ later) ≡ true
      by_run [] later h b = passed_over later b
      by_run (x ∷ run) later h b =
          let q = both (of_class s.class x) (every (of_class s.class) run) h in
          ap (λ o. fill o (run ++ later)) (goes_again s rest x q.0 (ap again t)) ∙ by_run run later q.1 b

by_times : (t : Times) (s : Slot) (rest : List Slot) → s.times ≡ t → OrderlyAt t s rest → Completes rest → Completes (s ∷ rest)
by_times times.One s rest e o ih = with_one s rest ih e
by_times times.Perhaps s rest e o ih = with_perhaps s rest ih e o
by_times times.Many s rest e o ih = with_many s rest ih e o

complete : (slots : List Slot) → Orderly slots → Completes slots
complete [] o ks a = rw a refl
complete (s ∷ rest) o ks a = by_times s.times s rest refl o.0 (λ later b. complete rest o.1 later b) ks a

-- the shapes of the kinds
import_declaration : Apart class.Import class.Declaration
import_declaration k h = grind (arith, nat_tests)

import_method : Apart class.Import class.Method
import_method k h = grind (arith, nat_tests)

declaration_method : Apart class.Declaration class.Method
declaration_method k h = grind (arith, nat_tests)

parameter_block : Apart class.Parameter class.Block
parameter_block k h = grind (arith, nat_tests)

declaration_statement : Apart class.Declaration class.Statement
declaration_statement k h = grind (arith, nat_tests)

orderly : (k : Kind) → Orderly (shape k)
orderly Program = ((import_declaration, (import_method, tt)), ((declaration_method, tt), (tt, tt)))
orderly Import = tt
orderly ScalarDeclaration = tt
orderly ArrayDeclaration = tt
orderly Method = ((parameter_block, tt), (tt, tt))
orderly Parameter = tt
orderly Block = ((declaration_statement, tt), (tt, tt))
orderly Assignment = (tt, (tt, tt))
orderly Step = (tt, tt)
orderly CallStatement = (tt, tt)
orderly If = (tt, (tt, (tt, tt)))
orderly For = (tt, (tt, (tt, (tt, tt))))
orderly While = (tt, (tt, tt))
orderly Return = (tt, tt)
orderly Break = tt
orderly Continue = tt
orderly ScalarLocation = tt
orderly ArrayLocation = (tt, tt)
orderly Literal = tt
orderly Unary = (tt, tt)
orderly Cast = (tt, tt)
orderly Call =
    ((refl, (refl, (refl, (refl, (refl, tt))))), ((refl, (refl, (refl, (refl, tt)))), ((refl, (refl, (refl, tt))), ((refl, (refl, tt)), ((refl, tt), (tt, tt))))))
orderly Len = tt
orderly Binary = (tt, (tt, tt))
orderly Text = tt

pub completes : (k : Kind) (ks : List ℕ) → Arranged (shape k) ks → fill (Some (shape k)) ks ≡ true
completes k ks a = complete (shape k) (orderly k) ks a
