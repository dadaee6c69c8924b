-- The state of a rule under way, and what it does next.
--
-- What is next is part of the state: a node that is to begin, a node that has just begun, or what a child gave. So every state has one next
-- act at most, and no act looks for its node. Only the beginning of a node costs a unit; a node that lacks a place or cells is not begun,
-- at no cost, and the place is looked at first. A state that is not at its end and has no next act is stuck.
use Rattle.std.specs.Prelude.{ℕ, ◌+◌, true, false, List, [], ◌∷◌, ◌++◌, length, take, replicate, pos, Some, None, Option, ◌==◌, nat_le, nat_lt, slice_set}
use Rattle.finding.specs.declared.Finding.{Finding}
use Rattle.book.specs.Meanings.{Meaning}
use Rattle.node_rules.specs.Rules.{cells_all}
use Rattle.node_rules.specs.Scopes.{body}
use Rattle.semantics.specs.Rule.{Rule, node, kind_at, children, first_statement, main}
use Rattle.semantics.specs.Values.{fresh}
use Rattle.semantics.specs.Turns.{Turn, runs, enters, ends, sets, deals, no_turn}
use Rattle.semantics.specs.Turns as turn
use Rattle.semantics.specs.Kinds.{started, resumed}
use Rattle.semantics.specs.declared.value.Value.{Value}
use Rattle.semantics.specs.declared.value.Value.TheVariants.{Int}
use Rattle.semantics.specs.declared.import.Event.{Event}
use Rattle.semantics.specs.declared.progress.Completion.{Completion}
use Rattle.semantics.specs.declared.progress.Completion.TheVariants.{Ended, Valued, Located, Broke, Continued, Returned}
use Rattle.semantics.specs.declared.progress.Kept.{Kept}
use Rattle.semantics.specs.declared.progress.Open.{Open}
use Rattle.semantics.specs.declared.progress.Pending.{Pending}
use Rattle.semantics.specs.declared.progress.Pending.TheVariants.{Begin, Begun, Given}
use Rattle.semantics.specs.declared.stop.Stop.{Stop}
use Rattle.semantics.specs.declared.stop.Stop.TheVariants as stop

-- The open nodes, the innermost first, the cells in use, and what is next.
pub record State : Type 0 where
  pub opens : List Open
  pub cells : List Value
  pub pending : Pending

abbrev pub state : List Open → List Value → Pending → State
state os cs p = record { opens = os; cells = cs; pending = p }

pub data Next : Type 0 where
  -- a node begins, for one unit
  begins : State → Next
  -- a node is next to begin, and cannot
  hindered : Finding Stop → Next
  -- any other act, which is free: where it leads, what the book means after it, and what passed between them, the newest first
  moves : State → Meaning → List Event → Next
  -- any other act that cannot be done
  halts : Finding Stop → Next
  -- the rule is at its end
  finished : Next
  -- there is no next act
  stuck : Next

-- A cause at a node.
abbrev pub stopped_at : Stop → ℕ → Finding Stop
stopped_at c i = record { place = i; cause = c }

-- The cells that node i takes when it begins: a block for its variables, a call one for each argument.
abbrev pub needs : Rule → ℕ → ℕ
needs r i = elim (kind_at r i == 7) [
  | true ↦ cells_all r.nodes (children r i)
  | false ↦ elim (kind_at r i == 22) [ true ↦ length (children r i) | false ↦ 0 ]
]

-- What these hold at first: zero or false, and int 0 until the argument is there.
abbrev pub takes : Rule → ℕ → List Value
takes r i = elim (kind_at r i == 7) [
  | true ↦ fresh r (children r i)
  | false ↦ elim (kind_at r i == 22) [ true ↦ replicate (length (children r i)) (Int (pos 0)) | false ↦ [] ]
]

-- A block comes to its first statement at once; of any other node the count is 0.
abbrev pub first_came : Rule → ℕ → ℕ
first_came r i = elim (kind_at r i == 7) [ true ↦ first_statement r i | false ↦ 0 ]

-- Node i as it begins, with the cells of its names from f on.
abbrev pub begun : Rule → State → ℕ → ℕ → State
begun r s i f =
    let o : Open = record { node = i; came = first_came r i; base = length s.cells; frame = f; kept = None } in
    state (o ∷ s.opens) (s.cells ++ takes r i) Begun

-- There are 512 places for open nodes, and 2,048 cells.
abbrev pub begin_act : Rule → State → ℕ → ℕ → Next
begin_act r s i f = elim (nat_lt (length s.opens) 512) [
  | true ↦ elim (nat_le (length s.cells + needs r i) 2048) [ true ↦ begins (begun r s i f) | false ↦ hindered (stopped_at stop.NoCells i) ]
  | false ↦ hindered (stopped_at stop.NoPlace i)
]

-- An open node that has come so far and keeps this, if anything.
abbrev pub onward : Open → ℕ → Option Kept → Open
onward o came kept = record { node = o.node; came = came; base = o.base; frame = o.frame; kept = kept }

-- The turn of the innermost open node, carried out. A node that ends gives its cells back.
abbrev pub turned : Turn → Open → List Open → List Value → Meaning → List Event → Next
turned (runs came kept j) o os cs m es = moves (state (onward o came kept ∷ os) cs (Begin j o.frame)) m es
turned (enters came j) o os cs m es = moves (state (onward o came None ∷ os) cs (Begin j o.base)) m es
turned (ends e) o os cs m es = moves (state os (take o.base cs) (Given e)) m es
turned (sets a v t) o os cs m es = turned t o os (slice_set cs a v) m es
turned (deals n e t) o os cs m es = turned t o os cs n (e ∷ es)
turned (turn.stops c i) o os cs m es = halts (stopped_at c i)
turned no_turn o os cs m es = stuck

-- With no node open, main's body has ended or has returned without a value.
abbrev pub last_act : Completion → Next
last_act Ended = finished
last_act (Valued v) = stuck
last_act (Located a v) = stuck
last_act Broke = stuck
last_act Continued = stuck
last_act (Returned None) = finished
last_act (Returned (Some v)) = stuck

abbrev pub first_act : Rule → List Open → List Value → Meaning → Next
first_act r [] cs m = stuck
first_act r (o ∷ os) cs m = turned (started (node r o.node).kind r o cs m) o os cs m []

abbrev pub given_act : Rule → List Open → List Value → Meaning → Completion → Next
given_act r [] cs m e = last_act e
given_act r (o ∷ os) cs m e = turned (resumed (node r o.node).kind r o cs m e) o os cs m []

abbrev pub by_pending : Rule → State → Meaning → Pending → Next
by_pending r s m (Begin i f) = begin_act r s i f
by_pending r s m Begun = first_act r s.opens s.cells m
by_pending r s m (Given e) = given_act r s.opens s.cells m e

-- The one next act of rule r in state s, where the book means m.
unfoldable pub next : Rule → State → Meaning → Next
next r s m = by_pending r s m s.pending

-- The state of a rule that has just been set under way: its fields have their cells, and main's body is next to begin.
unfoldable pub origin : Rule → State
origin r =
    let cells = fresh r (children r 0) in
    state [] cells (Begin (body r.nodes (main r)) (length cells))
