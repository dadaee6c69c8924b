-- A rule that was checked is never stuck.
--
-- In every state that acts lead to from its origin it is at its end, or there is a next act: a node begins, or is hindered for want of a
-- place or cells, or a free act is done, or the run stops for a cause that has a number.
use Rattle.std.specs.Prelude.{◌≡◌, ℕ, List, Option, ◌≢◌}
use Rattle.book.specs.Meanings.{Meaning}
use Rattle.node_rules.specs.declared.types.Ty.{Ty}
use Rattle.semantics.specs.Rule.{Rule}
use Rattle.semantics.specs.Acts.{State, stuck, next, origin}
use Rattle.semantics.specs.Runs.{Acts}
use Rattle.semantics.specs.declared.import.Event.{Event}
use Rattle.soundness.specs.Checked.{Checked}

-- Acts lead there from the origin, with the book that they leave.
abbrev pub NeverStuck : Type 0
NeverStuck =
    (r : Rule) (type : ℕ → Option Ty)
    → Checked r type
    → (m n : Meaning) (units : ℕ) (events : List Event) (s : State)
    → Acts r (origin r) m units events s n
    → next r s n ≡ stuck
    → ⊥

-- A state to which acts lead from the origin, in one stretch or in several; between two of them the book may be changed.
pub data Reached (r : Rule) : State → Type 0 where
  set_out : Reached r (origin r)
  went_on : {s t : State} {m n : Meaning} {units : ℕ} {events : List Event}
      → Reached r s
      → Acts r s m units events t n
      → Reached r t

-- The same of several stretches, whatever the book means.
abbrev pub NeverStuckLater : Type 0
NeverStuckLater = (r : Rule) (type : ℕ → Option Ty) → Checked r type → (s : State) → Reached r s → (m : Meaning) → next r s m ≢ stuck
