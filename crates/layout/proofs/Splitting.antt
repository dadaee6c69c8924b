-- The items of a body, taken one by one.
use Rattle.std.proofs.Common.{◌≡◌, ℕ, zero, suc, ◌+◌, ◌-◌, ◌<◌, ◌≤◌, min, List, [], ◌∷◌, length, get_or, take, drop, Some, None, Option, option_map, slice_get, sym, refl, ap, ◌∙◌, inl, inr, arith, Bor}
use Rattle.std.proofs.lemmas.List.{take_all, drop_all}
use Rattle.std.proofs.lemmas.Bool.{cases_lt}
use Rattle.layout.specs.Items.{items}
use Rattle.layout.specs.Readers.{Shows}

pub items_none : (n : ℕ) → items n [] ≡ []
items_none zero = refl
items_none (suc n) = refl

pub items_end : (n : ℕ) (bs : List ℕ) → length bs ≡ 0 → items n bs ≡ []
items_end n [] h = items_none n
items_end n (b ∷ bs) h = absurd (omega arith)

pub items_next : (n : ℕ) (bs : List ℕ) (e : ℕ) → 0 < n → 0 < length bs → e ≡ min (length bs) (get_or bs 0 0 + 1) → items n bs ≡ take e bs ∷ items (n - 1) (drop e bs)
items_next zero bs e l s q = absurd (omega arith)
items_next (suc n) [] e l s q = absurd (omega arith)
items_next (suc n) (b ∷ bs) e l s q =
    let m : suc n - 1 ≡ n = omega arith in
    elim (cases_lt (length bs) b) [
      | inl over ↦
          let x : e ≡ suc (length bs) = omega arith in
          rw (m, x)
          (ap (λ xs. (b ∷ xs) ∷ items n (drop b bs)) (take_all b bs (omega arith) ∙ sym (take_all (length bs) bs (omega arith)))
          ∙ ap (λ xs. (b ∷ take (length bs) bs) ∷ items n xs) (drop_all b bs (omega arith) ∙ sym (drop_all (length bs) bs (omega arith))))
      | inr fits ↦ let x : e ≡ suc b = omega arith in rw (m, x) refl
    ]

pub items_few : (n : ℕ) (bs : List ℕ) → length (items n bs) ≤ n
items_few zero bs = omega arith
items_few (suc n) [] = omega arith
items_few (suc n) (b ∷ bs) = let h = items_few n (drop b bs) in omega arith

-- the window that is shown is item k
pub shows_nth : (r : Option (Bor (List ℕ))) (all : List (List ℕ)) (k : ℕ) → option_map (λ x. x.now) r ≡ slice_get all k → Shows r (slice_get all k)
shows_nth None all k h = sym h
shows_nth (Some item) all k h = sym h
