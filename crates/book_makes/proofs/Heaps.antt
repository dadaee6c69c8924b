-- What a slip found says of a pile, and what a slip filled in anew or put in does to it.
use Rattle.std.proofs.Common.{◌≡◌, ℕ, zero, suc, ◌-◌, ◌<◌, true, false, cond, ltb, List, [], ◌∷◌, set, ℤ, Some, None, Ok, Err, refl, ◌∙◌, arith}
use mathlib.Core.Path.{fun_ext}
use Rattle.std.specs.List.{insert}
use Rattle.std.proofs.lemmas.Bool.Decides.{nat_tests}
use Rattle.book.specs.Meanings.{changed, with_room, done, left}
use Rattle.book.specs.declared.fault.BookFault.TheVariants.{NoPlace}
use Rattle.book.specs.declared.spot.Spot.{Spot}
use Rattle.book_makes.specs.Piles.{of, holds, value_in, slip_at, slip_of, Found}
use Rattle.book_makes.specs.Slips.{of_pile}
use Rattle.book_makes.specs.declared.slip.Slip.{Slip}

-- The first slip of a spot is below the head of the pile.
below : (x : Slip) (ss : List Slip) (s : Spot) (i : ℕ) → Found (Some (suc i)) (x ∷ ss) s → Found (Some i) ss s
below x ss s i f = (omega (arith, f.0), f.1, λ k h. f.2 (suc k) (omega arith))

none_below : (x : Slip) (ss : List Slip) (s : Spot) → Found None (x ∷ ss) s → Found None ss s
none_below x ss s f = λ k h. f (suc k) (omega arith)

pub value_found : (ss : List Slip) (s : Spot) (i : ℕ) → Found (Some i) ss s → value_in ss s.column s.lot ≡ Some (slip_at ss i).value
value_found [] s i f = absurd (omega (arith, f.0))
value_found (x ∷ ss) s zero f = rw f.1 refl
value_found (x ∷ ss) s (suc i) f = rw (f.2 0 (omega arith)) (value_found ss s i (below x ss s i f))

pub value_none : (ss : List Slip) (s : Spot) → Found None ss s → value_in ss s.column s.lot ≡ None
value_none [] s f = refl
value_none (x ∷ ss) s f = rw (f 0 (omega arith)) (value_none ss s (none_below x ss s f))

holds_found : (ss : List Slip) (s : Spot) (i : ℕ) → Found (Some i) ss s → holds ss s.column s.lot ≡ true
holds_found [] s i f = absurd (omega (arith, f.0))
holds_found (x ∷ ss) s zero f = rw f.1 refl
holds_found (x ∷ ss) s (suc i) f = rw (f.2 0 (omega arith)) (holds_found ss s i (below x ss s i f))

pub holds_none : (ss : List Slip) (s : Spot) → Found None ss s → holds ss s.column s.lot ≡ false
holds_none [] s f = refl
holds_none (x ∷ ss) s f = rw (f 0 (omega arith)) (holds_none ss s (none_below x ss s f))

-- A slip filled in anew.
value_set : (ss : List Slip) (s : Spot) (v : ℤ) (i : ℕ) → Found (Some i) ss s → (c l : ℕ) → value_in (set ss i (slip_of s v)) c l ≡ changed (value_in ss) s (Some v) c l
value_set [] s v i f c l = absurd (omega (arith, f.0))
value_set (x ∷ ss) s v zero f c l = let e = f.1 in grind (arith, nat_tests)
value_set (x ∷ ss) s v (suc i) f c l =
    let z : of x s.column s.lot ≡ false = f.2 0 (omega arith) in
    let more = value_set ss s v i (below x ss s i f) c l in
    grind (arith, nat_tests)

holds_set : (ss : List Slip) (s : Spot) (v : ℤ) (i : ℕ) → Found (Some i) ss s → (c l : ℕ) → holds (set ss i (slip_of s v)) c l ≡ holds ss c l
holds_set [] s v i f c l = absurd (omega (arith, f.0))
holds_set (x ∷ ss) s v zero f c l = let e = f.1 in grind (arith, nat_tests)
holds_set (x ∷ ss) s v (suc i) f c l = rw (holds_set ss s v i (below x ss s i f) c l) refl

place_set : (ss : List Slip) (s : Spot) (c l : ℕ) → holds ss s.column s.lot ≡ true → holds ss c l ≡ changed (holds ss) s true c l
place_set ss s c l h = grind (arith, nat_tests)

-- A slip put in.
value_insert : (ss : List Slip) (s : Spot) (v : ℤ) (i : ℕ) → Found None ss s → (c l : ℕ) → value_in (insert ss i (slip_of s v)) c l ≡ changed (value_in ss) s (Some v) c l
value_insert [] s v zero f c l = refl
value_insert [] s v (suc i) f c l = refl
value_insert (x ∷ ss) s v zero f c l = refl
value_insert (x ∷ ss) s v (suc i) f c l =
    let z : of x s.column s.lot ≡ false = f 0 (omega arith) in
    let more = value_insert ss s v i (none_below x ss s f) c l in
    grind (arith, nat_tests)

holds_insert : (ss : List Slip) (s : Spot) (v : ℤ) (i c l : ℕ) → holds (insert ss i (slip_of s v)) c l ≡ changed (holds ss) s true c l
holds_insert [] s v zero c l = grind (arith, nat_tests)
holds_insert [] s v (suc i) c l = grind (arith, nat_tests)
holds_insert (x ∷ ss) s v zero c l = grind (arith, nat_tests)
holds_insert (x ∷ ss) s v (suc i) c l = let more = holds_insert ss s v i c l in grind (arith, nat_tests)

-- The two as puts of a meaning, and a put that finds no slip free.
module _ (n free : ℕ) (ss : List Slip) (s : Spot) (v : ℤ) where
  pub put_set : (i : ℕ) → Found (Some i) ss s → (Ok tt ≡ done (with_room (of_pile n ss free) (Ok s))) × (of_pile n (set ss i (slip_of s v)) free ≡ left (of_pile n ss free) v (with_room (of_pile n ss free) (Ok s)))
  put_set i f =
      let has = holds_found ss s i f in
      let values : value_in (set ss i (slip_of s v)) ≡ changed (value_in ss) s (Some v) = fun_ext (λ c. fun_ext (λ l. value_set ss s v i f c l)) in
      let places : holds (set ss i (slip_of s v)) ≡ changed (holds ss) s true = fun_ext (λ c. fun_ext (λ l. holds_set ss s v i f c l ∙ place_set ss s c l has)) in
      let same : free ≡ cond (holds ss s.column s.lot) free (free - 1) = rw has refl in
      (rw has refl, rw has (λ j. record { lots = n; value = values j; place = places j; free = same j }))

  pub put_insert : (i : ℕ) → Found None ss s → 0 < free → (Ok tt ≡ done (with_room (of_pile n ss free) (Ok s))) × (of_pile n (insert ss i (slip_of s v)) (free - 1) ≡ left (of_pile n ss free) v (with_room (of_pile n ss free) (Ok s)))
  put_insert i f more =
      let has = holds_none ss s f in
      let some : ltb 0 free ≡ true = grind (arith, nat_tests) in
      let values : value_in (insert ss i (slip_of s v)) ≡ changed (value_in ss) s (Some v) = fun_ext (λ c. fun_ext (λ l. value_insert ss s v i f c l)) in
      let places : holds (insert ss i (slip_of s v)) ≡ changed (holds ss) s true = fun_ext (λ c. fun_ext (λ l. holds_insert ss s v i c l)) in
      let fewer : free - 1 ≡ cond (holds ss s.column s.lot) free (free - 1) = rw has refl in
      (rw (has, some) refl, rw (has, some) (λ j. record { lots = n; value = values j; place = places j; free = fewer j }))

  pub put_full : Found None ss s → free ≡ 0 → (Err NoPlace ≡ done (with_room (of_pile n ss free) (Ok s))) × (of_pile n ss free ≡ left (of_pile n ss free) v (with_room (of_pile n ss free) (Ok s)))
  put_full f none = let has = holds_none ss s f in (rw (has, none) refl, rw (has, none) refl)
