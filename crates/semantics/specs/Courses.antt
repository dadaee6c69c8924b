-- The calls of a runner: what each answers, what it leaves, and courses of calls.
--
-- A runner has a rule, and is idle or has that rule under way. A new one is idle, with a rule that does nothing. A refused call answers why,
-- and leaves runner and book as they were. Finishing, stopping and close make it idle and keep its rule. Files and budgets are all that a
-- course is fed; its events are told the newest first.
use Rattle.std.specs.Prelude.{◌≡◌, ℕ, List, [], ◌∷◌, ◌++◌, pos, Some, None, Ok, Err, codes, Option, Result}
use Rattle.finding.specs.declared.Finding.{Finding}
use Rattle.book.specs.Meanings.{Meaning}
use Rattle.checker.specs.declared.Refusal.{Refusal}
use Rattle.checker.specs.declared.Refusal.TheVariants as refusal
use Rattle.layout.specs.Faults as faults
use Rattle.layout.specs.declared.fault.FileFault.{FileFault}
use Rattle.nodes.specs.declared.kind.Kind.TheVariants as kind
use Rattle.rule_file.specs.Verdict.{first_fault}
use Rattle.node_rules.specs.Rules.{first_violation}
use Rattle.node_rules.specs.Tables.{table_of}
use Rattle.node_rules.specs.Violations as violations
use Rattle.node_rules.specs.declared.violation.Violation.{Violation}
use Rattle.semantics.specs.Acts.{State, origin}
use Rattle.semantics.specs.Rule.{Rule, rule_of}
use Rattle.semantics.specs.Runs.{Going}
use Rattle.semantics.specs.Stops as stops
use Rattle.semantics.specs.declared.answer.Answer.{Answer}
use Rattle.semantics.specs.declared.answer.Answer.TheVariants.{Done, Went}
use Rattle.semantics.specs.declared.answer.Denial.{Denial}
use Rattle.semantics.specs.declared.answer.Denial.TheVariants.{UnderWay, Idle, File}
use Rattle.semantics.specs.declared.answer.Ending.{Ending}
use Rattle.semantics.specs.declared.answer.Ending.TheVariants.{Finished, Spent, Stopped}
use Rattle.semantics.specs.declared.import.Event.{Event}

-- The number of a refusal, and the place.
abbrev pub refusal_number : Denial → ℕ
refusal_number UnderWay = 45
refusal_number Idle = 46
refusal_number (File (refusal.Fault f)) = faults.number_of f.cause
refusal_number (File (refusal.Violation v)) = violations.number_of v.cause

abbrev pub refusal_place : Denial → ℕ
refusal_place UnderWay = 0
refusal_place Idle = 0
refusal_place (File (refusal.Fault f)) = f.place
refusal_place (File (refusal.Violation v)) = v.place

-- The number of an answer, where it has one, and the place that goes with it.
abbrev pub ending_number : Ending → Option ℕ
ending_number Finished = None
ending_number Spent = None
ending_number (Stopped f) = Some (stops.number_of f.cause)

abbrev pub ending_place : Ending → Option ℕ
ending_place Finished = None
ending_place Spent = None
ending_place (Stopped f) = Some f.place

abbrev pub number_of : Result Answer Denial → Option ℕ
number_of (Ok Done) = None
number_of (Ok (Went how units)) = ending_number how
number_of (Err d) = Some (refusal_number d)

abbrev pub place_of : Result Answer Denial → Option ℕ
place_of (Ok Done) = None
place_of (Ok (Went how units)) = ending_place how
place_of (Err d) = Some (refusal_place d)

-- Only a go answers units.
abbrev pub units_of : Result Answer Denial → Option ℕ
units_of (Ok Done) = None
units_of (Ok (Went how units)) = Some units
units_of (Err d) = None

-- Why a file is not accepted: its first fault, or where it has none its first violation.
abbrev pub by_violation : Option (Finding Violation) → Option Refusal
by_violation None = None
by_violation (Some v) = Some (refusal.Violation v)

abbrev pub by_fault : Option (Finding FileFault) → Option (Finding Violation) → Option Refusal
by_fault (Some f) v = Some (refusal.Fault f)
by_fault None v = by_violation v

unfoldable pub refused : List ℕ → Option Refusal
refused file = by_fault (first_fault file) (first_violation (table_of file))

-- A rule, and its state where it is under way.
pub record Runner : Type 0 where
  pub rule : Rule
  pub under_way : Option State

abbrev pub runner : Rule → Option State → Runner
runner r z = record { rule = r; under_way = z }

-- Program, void main, empty block.
abbrev pub first_rule : Rule
first_rule = record {
  nodes =
      record { kind = kind.Program; tag = 0; name = 0; size = 3; value = pos 0 }
      ∷ record { kind = kind.Method; tag = 0; name = 0; size = 2; value = pos 0 }
      ∷ record { kind = kind.Block; tag = 0; name = 0; size = 1; value = pos 0 }
      ∷ [];
  names = (4 ∷ codes "main") ∷ [];
  strings = [];
}

abbrev pub new_runner : Runner
new_runner = runner first_rule None

-- A load is refused while a rule is under way; a file that is accepted replaces the rule.
abbrev pub load_answer : Option State → Option Refusal → Result Answer Denial
load_answer (Some s) x = Err UnderWay
load_answer None (Some x) = Err (File x)
load_answer None None = Ok Done

abbrev pub load_after : Option State → Option Refusal → List ℕ → Runner → Runner
load_after (Some s) x file w = w
load_after None (Some x) file w = w
load_after None None file w = runner (rule_of file) None

-- A begin is refused while a rule is under way; else the rule is at its origin.
abbrev pub begin_answer : Option State → Result Answer Denial
begin_answer (Some s) = Err UnderWay
begin_answer None = Ok Done

abbrev pub begin_after : Option State → Runner → Runner
begin_after (Some s) w = w
begin_after None w = runner w.rule (Some (origin w.rule))

-- A close is refused while no rule is under way.
abbrev pub close_answer : Option State → Result Answer Denial
close_answer (Some s) = Ok Done
close_answer None = Err Idle

abbrev pub close_after : Runner → Runner
close_after w = runner w.rule None

-- A runner and what its book means.
pub record World : Type 0 where
  pub runner : Runner
  pub book : Meaning

abbrev pub world : Runner → Meaning → World
world w m = record { runner = w; book = m }

pub data Call : Type 0 where
  load : List ℕ → Call
  begin : Call
  go : ℕ → Call
  close : Call

-- A call that is no go: its answer and the runner after. The book stays, and nothing passes between.
pub record Plainly (w : World) (answer : Result Answer Denial) (after : Runner) (a : Result Answer Denial) (es : List Event) (v : World) : Type 0 where
  pub answers : a ≡ answer
  pub quiet : es ≡ []
  pub leaves : v ≡ world after w.book

-- A go that is not refused: it ends so, after so many units.
pub record Gone (w : World) (s : State) (budget : ℕ) (a : Result Answer Denial) (es : List Event) (v : World) : Type 0 where
  pub how : Ending
  pub units : ℕ
  pub answers : a ≡ Ok (Went how units)
  pub going : Going w.runner.rule budget s w.book how units es v.runner.under_way v.book
  pub keeps : v.runner.rule ≡ w.runner.rule

abbrev pub WentFrom : Option State → World → ℕ → Result Answer Denial → List Event → World → Type 0
WentFrom None w budget a es v = Plainly w (Err Idle) w.runner a es v
WentFrom (Some s) w budget a es v = Gone w s budget a es v

-- What a call answers in the world w, what passes between rule and book meanwhile, and what it leaves.
abbrev pub Called : Call → World → Result Answer Denial → List Event → World → Type 0
Called (load file) w a es v =
    Plainly w (load_answer w.runner.under_way (refused file)) (load_after w.runner.under_way (refused file) file w.runner) a es v
Called begin w a es v = Plainly w (begin_answer w.runner.under_way) (begin_after w.runner.under_way w.runner) a es v
Called (go budget) w a es v = WentFrom w.runner.under_way w budget a es v
Called close w a es v = Plainly w (close_answer w.runner.under_way) (close_after w.runner) a es v

-- Calls one after another, with their answers.
pub data Course : List Call → World → List (Result Answer Denial) → List Event → World → Type 0 where
  over : {w : World} → Course [] w [] [] w
  call : {c : Call} {cs : List Call} {w v u : World} {a : Result Answer Denial} {bs : List (Result Answer Denial)} {es : List Event} (e : List Event)
      → Called c w a e v
      → Course cs v bs es u
      → Course (c ∷ cs) w (a ∷ bs) (es ++ e) u

-- A course of a new runner, with a book that means m.
abbrev pub CourseOf : Meaning → List Call → List (Result Answer Denial) → List Event → World → Type 0
CourseOf m cs bs es w = Course cs (world new_runner m) bs es w
