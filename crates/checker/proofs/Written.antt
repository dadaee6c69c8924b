-- Tables written place by place, from the front or from the back.
use Rattle.std.proofs.Common.{◌≡◌, ℕ, ◌+◌, ◌<◌, ◌≤◌, ◌≢◌, List, length, get_or, set, ◌∙◌, inl, inr, arith}
use Rattle.std.proofs.lemmas.List.{get_or-set_same, get_or-set_other}
use Rattle.std.proofs.lemmas.Bool.{cases_lt}

module _ {X : Type 0} (xs : List X) (d x : X) (f : ℕ → X) (i : ℕ) (l : i < length xs) (e : x ≡ f i) where
  written : (k : ℕ) → (k ≢ i → get_or xs k d ≡ f k) → get_or (set xs i x) k d ≡ f k
  written k h =
      elim (cases_lt k i) [
        | inl lt ↦ (let ne : k ≢ i = omega arith in get_or-set_other xs i k x d ne ∙ h ne)
        | inr le ↦ elim (cases_lt i k) [
          | inl gt ↦ (let ne : k ≢ i = omega arith in get_or-set_other xs i k x d ne ∙ h ne)
          | inr ge ↦ (let q : k ≡ i = omega arith in rw q (get_or-set_same xs i x d l ∙ e))
        ]
      ]

  pub written_front : ((k : ℕ) → k < i → get_or xs k d ≡ f k) → (k : ℕ) → k < i + 1 → get_or (set xs i x) k d ≡ f k
  written_front h k b = written k (λ ne. h k (omega arith))

  pub written_back : (n : ℕ) → ((k : ℕ) → i + 1 ≤ k → k < n → get_or xs k d ≡ f k) → (k : ℕ) → i ≤ k → k < n → get_or (set xs i x) k d ≡ f k
  written_back n h k a b = written k (λ ne. h k (omega arith) b)
