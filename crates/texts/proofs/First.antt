-- The first item that fails a test, found with its number.
use Rattle.std.proofs.Common.{◌≡◌, ℕ, ◌+◌, ◌<◌, Bool, true, false, List, [], length, get_or, Some, None, Option, sym, arith}
use Rattle.std.specs.List.{enumerate_from, AllWithin, HoldsAt}
use Rattle.std.specs.Option.{MatchOption}
use Rattle.std.proofs.lemmas.List.FromFn.{length-enumerate_from, get_or-enumerate_from}
use Rattle.finding.specs.Search.{lowest}
use Rattle.finding.proofs.Lowest.{lowest_at, lowest_none}

-- The test answers b at an item with its number.
abbrev pub Answers : (ℕ → List ℕ → Bool) → Bool → ℕ × List ℕ → Type 0
Answers test b p = test p.0 p.1 ≡ b

module _ (test : ℕ → List ℕ → Bool) (xs : List (List ℕ)) where
  here : (b : Bool) (k : ℕ) → k < length xs → Answers test b (get_or (enumerate_from 0 xs) k (0, [])) → test k (get_or xs k []) ≡ b
  here b k l h =
      let z : 0 + k ≡ k = omega arith in
      let e = get_or-enumerate_from 0 xs k (0, []) l in
      rw z at (rw e at h)

  pub first_is : (r : Option ℕ) → MatchOption r (AllWithin (Answers test false) (enumerate_from 0 xs) 0 (length (enumerate_from 0 xs))) (λ i. (i < length (enumerate_from 0 xs)) × HoldsAt (Answers test true) (enumerate_from 0 xs) i × AllWithin (Answers test false) (enumerate_from 0 xs) 0 i) → r ≡ lowest (λ k. test k (get_or xs k [])) (length xs)
  first_is None h =
      let n = length-enumerate_from 0 xs in
      sym (lowest_none _ (length xs) (λ k l. here false k l (h k (0, []) (omega arith) (omega arith))))
  first_is (Some i) h =
      let n = length-enumerate_from 0 xs in
      let l : i < length xs = omega (arith, h.0) in
      sym (lowest_at _ (length xs) i l (λ k m. here false k (omega arith) (h.2 k (0, []) (omega arith) m)) (here true i l (h.1 (0, []))))
