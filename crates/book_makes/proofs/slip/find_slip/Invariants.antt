use Rattle.std.proofs.Common.{◌≡◌, ℕ, ◌<◌, false}
use Rattle.book_makes.specs.Piles.{of, slip_at}
use Rattle.book_makes.proofs.slip.find_slip.Given as goal

-- No slip so far is of the spot.
abbrev pub invariant-loop-i : goal.invariant-loop-i
invariant-loop-i l = (k : ℕ) → k < l.i → of (slip_at l.pile k) l.spot.column l.spot.lot ≡ false
