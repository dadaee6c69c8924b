-- What follows from the definitions of runs for every rule, accepted or not.
use Rattle.std.specs.Prelude.{◌≡◌, ℕ, Bool, true, false, List, [], Some, Option, Result}
use Rattle.book.specs.Meanings.{Meaning}
use Rattle.semantics.specs.Acts.{State, Next, begins, hindered, moves, halts, finished, stuck, next, origin}
use Rattle.semantics.specs.Courses.{World, Call, Course, CourseOf}
use Rattle.semantics.specs.Rule.{Rule}
use Rattle.semantics.specs.Runs.{Going}
use Rattle.semantics.specs.declared.answer.Answer.{Answer}
use Rattle.semantics.specs.declared.answer.Denial.{Denial}
use Rattle.semantics.specs.declared.answer.Ending.{Ending}
use Rattle.semantics.specs.declared.answer.Ending.TheVariants.{Spent}
use Rattle.semantics.specs.declared.import.Event.{Event}

-- A state has one next act.
abbrev pub NextOne : Type 0
NextOne = (r : Rule) (s : State) (m : Meaning) (x y : Next) → next r s m ≡ x → next r s m ≡ y → x ≡ y

pub record SameGo (how how' : Ending) (units units' : ℕ) (es es' : List Event) (z z' : Option State) (n n' : Meaning) : Type 0 where
  pub ending : how ≡ how'
  pub units_spent : units ≡ units'
  pub events : es ≡ es'
  pub left : z ≡ z'
  pub book : n ≡ n'

-- A go has one outcome.
abbrev pub GoOne : Type 0
GoOne =
    (r : Rule) (budget : ℕ) (s : State) (m : Meaning)
    (how how' : Ending) (units units' : ℕ) (es es' : List Event) (z z' : Option State) (n n' : Meaning)
    → Going r budget s m how units es z n
    → Going r budget s m how' units' es' z' n'
    → SameGo how how' units units' es es' z z' n n'

pub record SameCourse (bs bs' : List (Result Answer Denial)) (es es' : List Event) (v v' : World) : Type 0 where
  pub answers : bs ≡ bs'
  pub events : es ≡ es'
  pub world : v ≡ v'

-- A course of calls has one outcome.
abbrev pub CourseOne : Type 0
CourseOne =
    (cs : List Call) (w : World) (bs bs' : List (Result Answer Denial)) (es es' : List Event) (v v' : World)
    → Course cs w bs es v
    → Course cs w bs' es' v'
    → SameCourse bs bs' es es' v v'

-- A node is next to begin, whether or not it can.
abbrev pub beginning : Next → Bool
beginning (begins t) = true
beginning (hindered f) = true
beginning (moves t n e) = false
beginning (halts f) = false
beginning finished = false
beginning stuck = false

-- So it is whatever book is handed over.
abbrev pub Beginning : Rule → State → Type 0
Beginning r s = (m : Meaning) → beginning (next r s m) ≡ true

-- When a rule has been set under way, a node is next to begin; and so it is where a go was spent.
abbrev pub OriginBegins : Type 0
OriginBegins = (r : Rule) → Beginning r (origin r)

abbrev pub SpentBegins : Type 0
SpentBegins =
    (r : Rule) (budget units : ℕ) (s t : State) (m n : Meaning) (es : List Event)
    → Going r budget s m Spent units es (Some t) n
    → Beginning r t

-- So it is whenever a rule is under way after calls of a new runner.
abbrev pub UnderWayBegins : Type 0
UnderWayBegins =
    (m : Meaning) (cs : List Call) (bs : List (Result Answer Denial)) (es : List Event) (w : World) (s : State)
    → CourseOf m cs bs es w
    → w.runner.under_way ≡ Some s
    → Beginning w.runner.rule s

-- A go without a budget is then spent at once, and changes nothing.
abbrev pub NothingSpent : Type 0
NothingSpent = (r : Rule) (s : State) (m : Meaning) → Beginning r s → Going r 0 s m Spent 0 [] (Some s) m

pub record Laws : Type 0 where
  pub next_one : NextOne
  pub go_one : GoOne
  pub course_one : CourseOne
  pub origin_begins : OriginBegins
  pub spent_begins : SpentBegins
  pub under_way_begins : UnderWayBegins
  pub nothing_spent : NothingSpent
