-- What an open node does in one act, its turn; and small words by which the turns of the kinds are said.
--
-- A turn says only what the node itself does; `Acts` carries it out on the state. Each of the small words asks for something of a child or
-- of what was kept, and there is no turn where that is not so.
use Rattle.std.specs.Prelude.{ℕ, Bool, true, false, cond, ℤ, Some, None, Ok, Err, Option, Result}
use Rattle.book.specs.Meanings.{Meaning}
use Rattle.semantics.specs.declared.value.Value.{Value}
use Rattle.semantics.specs.declared.value.Value.TheVariants.{Int, Long, Bool as Truth, Text}
use Rattle.semantics.specs.declared.value.Misfit.{Misfit}
use Rattle.semantics.specs.declared.value.Misfit.TheVariants.{ZeroDivisor, IllTyped}
use Rattle.semantics.specs.declared.import.Event.{Event}
use Rattle.semantics.specs.declared.progress.Completion.{Completion}
use Rattle.semantics.specs.declared.progress.Completion.TheVariants.{Ended, Valued, Located, Broke, Continued, Returned}
use Rattle.semantics.specs.declared.progress.Kept.{Kept}
use Rattle.semantics.specs.declared.progress.Kept.TheVariants.{Target, Left}
use Rattle.semantics.specs.declared.stop.Stop.{Stop}
use Rattle.semantics.specs.declared.stop.Stop.TheVariants as stop

pub data Turn : Type 0 where
  -- it has come so far, keeps this, if anything, and this child is next to begin
  runs : ℕ → Option Kept → ℕ → Turn
  -- a call has come so far, and this body, whose names have the call's cells, is next to begin
  enters : ℕ → ℕ → Turn
  -- it ends
  ends : Completion → Turn
  -- it sets a cell, and then
  sets : ℕ → Value → Turn → Turn
  -- it deals with the book, which then means this, and then
  deals : Meaning → Event → Turn → Turn
  -- the run stops, at this node
  stops : Stop → ℕ → Turn
  -- there is nothing that it can do
  no_turn : Turn

-- A child that must give a value.
abbrev pub on_value : Completion → (Value → Turn) → Turn
on_value Ended f = no_turn
on_value (Valued v) f = f v
on_value (Located a v) f = f v
on_value Broke f = no_turn
on_value Continued f = no_turn
on_value (Returned x) f = no_turn

-- A child that must give a cell.
abbrev pub on_cell : Completion → (ℕ → Value → Turn) → Turn
on_cell Ended f = no_turn
on_cell (Valued v) f = no_turn
on_cell (Located a v) f = f a v
on_cell Broke f = no_turn
on_cell Continued f = no_turn
on_cell (Returned x) f = no_turn

-- A statement or a block, which may end, break, continue or return; a return goes on to the call.
abbrev pub on_end : Completion → Turn → Turn → Turn → Turn
on_end Ended ended broke continued = ended
on_end (Valued v) ended broke continued = no_turn
on_end (Located a v) ended broke continued = no_turn
on_end Broke ended broke continued = broke
on_end Continued ended broke continued = continued
on_end (Returned x) ended broke continued = ends (Returned x)

-- A call, whose value is dropped.
abbrev pub on_call : Completion → Turn → Turn
on_call Ended t = t
on_call (Valued v) t = t
on_call (Located a v) t = no_turn
on_call Broke t = no_turn
on_call Continued t = no_turn
on_call (Returned x) t = no_turn

-- A condition.
abbrev pub on_truth : Value → Turn → Turn → Turn
on_truth (Int x) if-so if-not = no_turn
on_truth (Long x) if-so if-not = no_turn
on_truth (Truth b) if-so if-not = cond b if-so if-not
on_truth (Text t) if-so if-not = no_turn

abbrev pub on_int : Value → (ℤ → Turn) → Turn
on_int (Int x) f = f x
on_int (Long x) f = no_turn
on_int (Truth b) f = no_turn
on_int (Text t) f = no_turn

abbrev pub on_target : Option Kept → (ℕ → Turn) → Turn
on_target None f = no_turn
on_target (Some (Target a)) f = f a
on_target (Some (Left v)) f = no_turn

abbrev pub on_left : Option Kept → (Value → Turn) → Turn
on_left None f = no_turn
on_left (Some (Target a)) f = no_turn
on_left (Some (Left v)) f = f v

-- What the operator of node i made; a zero divisor stops there.
abbrev pub on_computed : ℕ → Result Value Misfit → (Value → Turn) → Turn
on_computed i (Ok v) f = f v
on_computed i (Err ZeroDivisor) f = stops stop.ZeroDivisor i
on_computed i (Err IllTyped) f = no_turn

-- Something that must be there.
abbrev pub on_some : {A : Type 0} → Option A → (A → Turn) → Turn
on_some None f = no_turn
on_some (Some x) f = f x

abbrev pub only_if : Bool → Turn → Turn
only_if true t = t
only_if false t = no_turn
