-- The lowest number that passes a test: it is there, none below it passes, and where there is none none passes.
use Rattle.std.proofs.Common.{◌≡◌, ℕ, zero, suc, ◌<◌, Bool, true, false, Some, None, Option, refl, inl, inr, arith}
use Rattle.std.proofs.lemmas.Bool.{cases_lt}
use Rattle.finding.specs.Search.{first_of, passing, lowest_below, lowest}

below_none : (t : ℕ → Bool) (n : ℕ) → ((k : ℕ) → k < n → t k ≡ false) → lowest_below t n ≡ None
below_none t zero h = refl
below_none t (suc n) h = rw (below_none t n (λ k l. h k (omega arith))) (rw (h n (omega arith)) refl)

below_at : (t : ℕ → Bool) (n i : ℕ) → i < n → ((k : ℕ) → k < i → t k ≡ false) → t i ≡ true → lowest_below t n ≡ Some i
below_at t zero i l h y = absurd (omega arith)
below_at t (suc n) i l h y =
    elim (cases_lt i n) [
      | inl lt ↦ rw (below_at t n i lt h y) refl
      | inr le ↦ let q : n ≡ i = omega arith in rw q (rw (below_none t i h) (rw y refl))
    ]

first_none : (a b : Option ℕ) → first_of a b ≡ None → (a ≡ None) × (b ≡ None)
first_none None b h = (refl, h)
first_none (Some k) b h = let z : ◌≡◌ {A = ℕ} 0 1 = cc in absurd (omega arith)

test_none : (b : Bool) (n : ℕ) → passing b n ≡ None → b ≡ false
test_none false n h = refl
test_none true n h = let z : ◌≡◌ {A = ℕ} 0 1 = cc in absurd (omega arith)

none_below : (t : ℕ → Bool) (n : ℕ) → lowest_below t n ≡ None → (k : ℕ) → k < n → t k ≡ false
none_below t zero h k l = absurd (omega arith)
none_below t (suc n) h k l =
    let p = first_none (lowest_below t n) (passing (t n) n) h in
    elim (cases_lt k n) [
      | inl lt ↦ none_below t n p.0 k lt
      | inr le ↦ let q : k ≡ n = omega arith in rw q (test_none (t n) n p.1)
    ]

pub lowest_none : (t : ℕ → Bool) (n : ℕ) → ((k : ℕ) → k < n → t k ≡ false) → lowest t n ≡ None
unfolding lowest
lowest_none t n h = below_none t n h

pub lowest_at : (t : ℕ → Bool) (n i : ℕ) → i < n → ((k : ℕ) → k < i → t k ≡ false) → t i ≡ true → lowest t n ≡ Some i
unfolding lowest
lowest_at t n i l h y = below_at t n i l h y

pub none_lowest : (t : ℕ → Bool) (n : ℕ) → lowest t n ≡ None → (k : ℕ) → k < n → t k ≡ false
unfolding lowest
none_lowest t n h k l = none_below t n h k l
