-- Runs of acts: a stretch of them with its units and events, and a go within a budget.
--
-- Runs are relations and have no bound but the budget, so that nothing has to be said of how long a run may take. That a go has one outcome
-- only is a law. Events are told the newest first.
use Rattle.std.specs.Prelude.{◌≡◌, ℕ, suc, ◌≤◌, Bool, cond, List, [], ◌++◌, Some, None, Option, nat_lt}
use Rattle.book.specs.Meanings.{Meaning}
use Rattle.semantics.specs.Rule.{Rule}
use Rattle.semantics.specs.Acts.{State, Next, begins, hindered, moves, halts, finished, stuck, next}
use Rattle.semantics.specs.declared.answer.Ending.{Ending}
use Rattle.semantics.specs.declared.answer.Ending.TheVariants.{Finished, Spent, Stopped}
use Rattle.semantics.specs.declared.import.Event.{Event}

-- Acts that lead from the state s and the book m to t and n, for k units, and what passed between rule and book.
pub data Acts (r : Rule) : State → Meaning → ℕ → List Event → State → Meaning → Type 0 where
  none : {s : State} {m : Meaning} → Acts r s m 0 [] s m
  -- a node begins
  paid : {s t u : State} {m n : Meaning} {k : ℕ} {es : List Event}
      → next r s m ≡ begins t
      → Acts r t m k es u n
      → Acts r s m (suc k) es u n
  -- any other act
  freely : {s t u : State} {m n o : Meaning} {k : ℕ} {e es : List Event}
      → next r s m ≡ moves t n e
      → Acts r t n k es u o
      → Acts r s m k (es ++ e) u o

-- How a go ends where this is next, if it does; `more` says whether budget is left. A spent budget goes before what hinders a node.
abbrev pub ending : Bool → Next → Option Ending
ending more (begins t) = cond more None (Some Spent)
ending more (hindered f) = Some (cond more (Stopped f) Spent)
ending more (moves t n e) = None
ending more (halts f) = Some (Stopped f)
ending more finished = Some Finished
ending more stuck = None

-- Only a spent go leaves the rule under way.
abbrev pub left_by : Ending → State → Option State
left_by Finished t = None
left_by Spent t = Some t
left_by (Stopped f) t = None

-- A go with this budget, from the state s and the book m: how it ends, its units and events, and the state and the book that it leaves.
pub record Going (r : Rule) (budget : ℕ) (s : State) (m : Meaning) (how : Ending) (units : ℕ) (es : List Event) (z : Option State) (n : Meaning) : Type 0 where
  pub last : State
  pub within : units ≤ budget
  pub acts : Acts r s m units es last n
  pub ends : ending (nat_lt units budget) (next r last n) ≡ Some how
  pub leaves : z ≡ left_by how last
