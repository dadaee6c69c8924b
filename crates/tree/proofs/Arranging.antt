-- Children that fill the slots are arranged in runs, one for each slot.
use Rattle.std.proofs.Common.{◌≡◌, ℕ, Bool, true, false, cond, not, List, [], ◌∷◌, length, Some, None, refl, ap, arith}
use Rattle.finding.proofs.Bools.{both, not_true}
use Rattle.nodes.specs.Shapes.{of_class, again, asks, filled, satisfied, fill, Fitting, Arranged}
use Rattle.nodes.specs.declared.shape.Slot.{Slot}
use Rattle.nodes.specs.declared.shape.Times.{Times}
use Rattle.nodes.specs.declared.shape.Times.TheVariants as times

-- how many children a slot may take, by the tests of its times
none_fits : (t : Times) → asks t ≡ false → Fitting t 0
none_fits times.One h = let z : ◌≡◌ {A = ℕ} 0 1 = cc in absurd (omega arith)
none_fits times.Perhaps h = omega arith
none_fits times.Many h = tt

one_fits : (t : Times) → Fitting t 1
one_fits times.One = refl
one_fits times.Perhaps = omega arith
one_fits times.Many = tt

more_fits : (t : Times) (n m : ℕ) → again t ≡ true → Fitting t n → Fitting t m
more_fits times.One n m h f = let z : ◌≡◌ {A = ℕ} 0 1 = cc in absurd (omega arith)
more_fits times.Perhaps n m h f = let z : ◌≡◌ {A = ℕ} 0 1 = cc in absurd (omega arith)
more_fits times.Many n m h f = tt

-- slots that ask for nothing, and no child
idle : (slots : List Slot) → satisfied slots ≡ true → Arranged slots []
idle [] h = refl
idle (s ∷ rest) h =
    let p = both (not (asks s.times)) (satisfied rest) h in
    ([], ([], (refl, (refl, (none_fits s.times (not_true (asks s.times) p.0), idle rest p.1)))))

-- a slot that is passed over takes no child
passed : (s : Slot) (rest : List Slot) (ks : List ℕ) → asks s.times ≡ false → Arranged rest ks → Arranged (s ∷ rest) ks
passed s rest ks h a = ([], (ks, (refl, (refl, (none_fits s.times h, a)))))

-- a slot that takes one child and no more
once : (s : Slot) (rest : List Slot) (k : ℕ) (ks : List ℕ) → of_class s.class k ≡ true → Arranged rest ks → Arranged (s ∷ rest) (k ∷ ks)
once s rest k ks h a = (k ∷ [], (ks, (refl, (rw h refl, (one_fits s.times, a)))))

-- a slot that takes one child more
more : (s : Slot) (rest : List Slot) (k : ℕ) (ks : List ℕ) → of_class s.class k ≡ true → again s.times ≡ true → Arranged (s ∷ rest) ks → Arranged (s ∷ rest) (k ∷ ks)
more s rest k ks h g a =
    let run = a.0 in
    let later = a.1.0 in (
      k ∷ run,
      (later, (ap (λ xs. k ∷ xs) a.1.1.0, (rw h a.1.1.1.0, (more_fits s.times (length run) (length (k ∷ run)) g a.1.1.1.1.0, a.1.1.1.1.1)))),
    )

-- one child, where what follows it is arranged in the slots that are left
module _ (k : ℕ) (ks : List ℕ) (later : (slots : List Slot) → fill (Some slots) ks ≡ true → Arranged slots ks) where
  by_again : (s : Slot) (rest : List Slot) (g : Bool) → again s.times ≡ g → of_class s.class k ≡ true → fill (Some (cond g (s ∷ rest) rest)) ks ≡ true → Arranged (s ∷ rest) (k ∷ ks)
  by_again s rest true e h f = more s rest k ks h e (later (s ∷ rest) f)
  by_again s rest false e h f = once s rest k ks h (later rest f)

  by_class : (s : Slot) (rest : List Slot) (b a : Bool) → of_class s.class k ≡ b → asks s.times ≡ a → fill (cond b (Some (cond (again s.times) (s ∷ rest) rest)) (cond a None (filled rest k))) ks ≡ true → (fill (filled rest k) ks ≡ true → Arranged rest (k ∷ ks)) → Arranged (s ∷ rest) (k ∷ ks)
  by_class s rest true a e q f r = by_again s rest (again s.times) refl e f
  by_class s rest false true e q f r = let z : ◌≡◌ {A = ℕ} 0 1 = cc in absurd (omega arith)
  by_class s rest false false e q f r = passed s rest (k ∷ ks) q (r f)

  first_child : (slots : List Slot) → fill (filled slots k) ks ≡ true → Arranged slots (k ∷ ks)
  first_child [] f = let z : ◌≡◌ {A = ℕ} 0 1 = cc in absurd (omega arith)
  first_child (s ∷ rest) f = by_class s rest (of_class s.class k) (asks s.times) refl refl f (first_child rest)

pub arranged : (ks : List ℕ) (slots : List Slot) → fill (Some slots) ks ≡ true → Arranged slots ks
arranged [] slots f = idle slots f
arranged (k ∷ ks) slots f = first_child k ks (arranged ks) slots f
