-- The laws of books, proved from what a put and a get are.
use Rattle.std.proofs.Common.{◌≡◌, ℕ, zero, suc, true, [], ◌∷◌, ℤ, pos, negsuc, Ok, Err, Result, sym, refl, ap, ◌∙◌, arith}
use Rattle.std.proofs.lemmas.Bool.Decides.{nat_tests}
use Rattle.book.specs.Meanings.{Meaning, put_spot, done, left}
use Rattle.book.specs.Calls.{after, answer_of}
use Rattle.book.specs.Laws.{PutThenGet, PutElsewhere, RefusedPut, PlaceStays, Alike}
use Rattle.book.specs.declared.fault.BookFault.{BookFault}
use Rattle.book.specs.declared.spot.Spot.{Spot}
use Rattle.book.specs.declared.calls.Call.{Call}
use Rattle.book.specs.declared.calls.Call.TheVariants.{Put, Get, Lots}

pub put_then_get : PutThenGet
put_then_get m c (pos l) v h = grind (arith, nat_tests)
put_then_get m c (negsuc l) v h = grind (arith, nat_tests)

pub put_elsewhere : PutElsewhere
put_elsewhere m c c' (pos l) (pos l') v h =
    let apart : c' ≡ c → l' ≡ l → ⊥ = λ p q. h (p, ap pos q) in
    grind (arith, nat_tests)
put_elsewhere m c c' (pos l) (negsuc l') v h = grind (arith, nat_tests)
put_elsewhere m c c' (negsuc l) (pos l') v h = grind (arith, nat_tests)
put_elsewhere m c c' (negsuc l) (negsuc l') v h = grind (arith, nat_tests)

refused : (m : Meaning) (v : ℤ) (e : BookFault) (r : Result Spot BookFault) → done r ≡ Err e → left m v r ≡ m
refused m v e (Ok s) h = absurd (grind arith)
refused m v e (Err f) h = refl

pub refused_put : RefusedPut
refused_put m c l v e h = refused m v e (put_spot m c l) h

-- A put keeps the number of lots, and every place.
lots_left : (m : Meaning) (v : ℤ) (r : Result Spot BookFault) → (left m v r).lots ≡ m.lots
lots_left m v (Ok s) = refl
lots_left m v (Err e) = refl

place_left : (m : Meaning) (v : ℤ) (r : Result Spot BookFault) (c l : ℕ) → m.place c l ≡ true → (left m v r).place c l ≡ true
place_left m v (Ok s) c l h = grind (arith, nat_tests)
place_left m v (Err e) c l h = h

lots_after : (m : Meaning) (call : Call) → (after m call).lots ≡ m.lots
lots_after m (Put c l v) = lots_left m v (put_spot m c l)
lots_after m (Get c l) = refl
lots_after m Lots = refl

place_after : (m : Meaning) (call : Call) (c l : ℕ) → m.place c l ≡ true → (after m call).place c l ≡ true
place_after m (Put c l v) c' l' h = place_left m v (put_spot m c l) c' l' h
place_after m (Get c l) c' l' h = h
place_after m Lots c' l' h = h

pub place_stays : PlaceStays
place_stays m c l col lot h [] = grind (arith, nat_tests)
place_stays m c l col lot h (call ∷ calls) =
    let n = lots_after m call in
    place_stays (after m call) c l col (omega arith) (place_after m call c l h) calls

pub alike : Alike
alike calls a b e zero = (a.answered 0 ∙ ap (λ m. answer_of m (calls 0)) e ∙ sym (b.answered 0), e)
alike calls a b e (suc n) =
    let before = (alike calls a b e n).1 in
    let now = a.kept n ∙ ap (λ m. after m (calls n)) before ∙ sym (b.kept n) in
    (a.answered (suc n) ∙ ap (λ m. answer_of m (calls (suc n))) now ∙ sym (b.answered (suc n)), now)
