-- Bytes from a place on, by what follows the bytes before it.
use Rattle.std.proofs.Common.{◌≡◌, ℕ, zero, suc, ◌+◌, ◌<◌, ◌≤◌, List, ◌∙◌, inl, inr, arith, subst, slice_index}
use Rattle.std.proofs.lemmas.Bool.{cases_lt}
use Rattle.std.specs.Array.{IsFromFnResultFrom}
use Rattle.std.specs.Fn.{Called}
use denote.Param.Members.{Mut}

-- an array of calls at each number in turn, each of which leaves the closure as it was
pub from_calls : {F : Type 0} {g : Mut F (ℕ × Unit {0}) ℕ} (f q : F) (h : ℕ → ℕ) (ys : List ℕ) (i n : ℕ) → q ≡ f → ((k y : ℕ) (r : F) → Called g f (k, tt) y r → (r ≡ f) × (y ≡ h k)) → IsFromFnResultFrom g q ys i n → (k : ℕ) → i ≤ k → k < i + n → slice_index ys k ≡ h k
from_calls f q h ys i zero e c r k a b = absurd (omega arith)
from_calls {g = g} f q h ys i (suc n) e c r k a b =
    let d = c i r.1 r.0 (subst (λ p. Called g p (i, tt) r.1 r.0) e r.3) in
    elim (cases_lt i k) [
      | inl lt ↦ from_calls f r.0 h ys (i + 1) n d.0 c r.4 k (omega arith) (omega arith)
      | inr le ↦ let z : k ≡ i = omega arith in rw z (r.2.1 0 ∙ d.1)
    ]
