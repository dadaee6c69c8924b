-- The nodes that span a node: how many of those in a range do, and which is the highest.
use Rattle.std.proofs.Common.{◌≡◌, ℕ, zero, suc, ◌+◌, ◌-◌, Bool, true, false, cond, nat_lt, List, [], ◌∷◌, length, Some, Option, refl, arith}
use Rattle.std.specs.List.{find}
use Rattle.std.specs.Option.{unwrap_or}
use Rattle.std.specs.Range.{range_steps_back}
use Rattle.std.proofs.lemmas.Iterator.{YieldsList}
use Rattle.std.proofs.lemmas.Iterator.Consumers.{YieldsList-from_shown}
use Rattle.std.specs.declared.ops.Range.{Range}
use Rattle.nodes.specs.Tree.{around, holder}

abbrev gap : ℕ → ℕ → ℕ
gap a b = b - a

abbrev Follows : ℕ → ℕ → Type 0
Follows a b = b ≡ a + 1

-- the n numbers from a on, the highest first
abbrev pub down_from : ℕ → ℕ → List ℕ
down_from a zero = []
down_from a (suc n) = (a + n) ∷ down_from a n

abbrev down : Range ℕ → List ℕ
down s = down_from s.start (s.end - s.start)

down_next : (a n m x : ℕ) → n ≡ m + 1 → x ≡ a + m → down_from a n ≡ x ∷ down_from a m
down_next a n m x e q = let k : n ≡ suc m = omega arith in rw (k, q) refl

yields_down : (s : Range ℕ) → YieldsList (range_steps_back gap Follows) (λ x. x) s (down s)
yields_down =
    YieldsList-from_shown (range_steps_back gap Follows) (λ x. x) down
    (λ s t h. rw h.1.0 refl)
    (λ s x t h. rw h.0 (down_next s.start (s.end - s.start) (t.end - s.start) x (omega arith) (omega arith)))

-- `0..n`, from the back
pub yields_below : (s : Range ℕ) (n : ℕ) → s ≡ record { start = 0; end = n } → YieldsList (range_steps_back gap Follows) (λ x. x) s (down_from 0 n)
yields_below s n h =
    let k : s.end - s.start ≡ n = rw h (omega arith) in
    let l : down s ≡ down_from 0 n = rw (k, h) refl in
    rw l at (yields_down s)

module _ (e : ℕ → ℕ) (i : ℕ) where
  abbrev spans : ℕ → Bool
  spans j = nat_lt i (e j)

  counted : (b : Bool) (n k : ℕ) (xs : List ℕ) → k ≡ length xs → b ≡ true → k + 1 ≡ length (cond b (n ∷ xs) xs)
  counted b n k xs h t = rw t (omega arith)

  left_out : (b : Bool) (n k : ℕ) (xs : List ℕ) → k ≡ length xs → b ≡ false → k ≡ length (cond b (n ∷ xs) xs)
  left_out b n k xs h f = rw f h

  -- one node more, n, among those that are counted below it
  pub spanning_too : (n k : ℕ) → k ≡ length (around e i n) → nat_lt i (e n) ≡ true → k + 1 ≡ length (around e i (n + 1))
  spanning_too n k h t = let z : n + 1 ≡ suc n = omega arith in rw z (counted (spans n) n k (around e i n) h t)

  pub not_spanning_too : (n k : ℕ) → k ≡ length (around e i n) → nat_lt i (e n) ≡ false → k ≡ length (around e i (n + 1))
  not_spanning_too n k h f = let z : n + 1 ≡ suc n = omega arith in rw z (left_out (spans n) n k (around e i n) h f)

  pick : (b : Bool) (n m : ℕ) (o : Option ℕ) → unwrap_or o 0 ≡ m → unwrap_or (cond b (Some n) o) 0 ≡ cond b n m
  pick true n m o h = refl
  pick false n m o h = h

  -- the highest node below n that spans i
  pub highest : (n : ℕ) → unwrap_or (find spans (down_from 0 n)) 0 ≡ holder e i n
  highest zero = refl
  highest (suc n) = let z : 0 + n ≡ n = omega arith in rw z (pick (spans n) n (holder e i n) (find spans (down_from 0 n)) (highest n))
