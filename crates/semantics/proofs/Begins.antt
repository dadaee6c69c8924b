-- A rule that is under way between calls has a node that is next to begin.
use Rattle.std.proofs.Common.{◌≡◌, ℕ, ◌+◌, Bool, true, false, ltb, leb, List, [], ◌∷◌, length, Some, None, Option, sym, refl, ◌∙◌, arith, Result}
use Rattle.std.proofs.lemmas.Option.{none-some, same_Some}
use Rattle.std.proofs.lemmas.Bool.{true≢false}
use Rattle.book.specs.Meanings.{Meaning}
use Rattle.finding.specs.declared.Finding.{Finding}
use Rattle.checker.specs.declared.Refusal.{Refusal}
use Rattle.semantics.specs.Acts.{State, Next, begins, hindered, moves, halts, finished, stuck, next, origin, begin_act, begun, stopped_at, needs, turned, last_act, first_act, given_act, by_pending}
use Rattle.semantics.specs.Courses.{Runner, runner, World, Call, load, begin, go, close, refused, load_after, begin_after, Plainly, Called, WentFrom, Course, over, call, CourseOf}
use Rattle.semantics.specs.Kinds.{started, resumed}
use Rattle.semantics.specs.Laws.{beginning, Beginning}
use Rattle.semantics.specs.Rule.{Rule, node}
use Rattle.semantics.specs.Runs.{ending, Going, none}
use Rattle.semantics.specs.Turns.{Turn, runs, enters, ends, sets, deals, stops, no_turn}
use Rattle.semantics.specs.declared.value.Value.{Value}
use Rattle.semantics.specs.declared.answer.Answer.{Answer}
use Rattle.semantics.specs.declared.answer.Denial.{Denial}
use Rattle.semantics.specs.declared.answer.Ending.{Ending}
use Rattle.semantics.specs.declared.answer.Ending.TheVariants.{Finished, Spent, Stopped}
use Rattle.semantics.specs.declared.import.Event.{Event}
use Rattle.semantics.specs.declared.progress.Completion.{Completion}
use Rattle.semantics.specs.declared.progress.Completion.TheVariants.{Ended, Valued, Located, Broke, Continued, Returned}
use Rattle.semantics.specs.declared.stop.Stop.{Stop}
use Rattle.semantics.specs.declared.stop.Stop.TheVariants.{NoCells, NoPlace}
use Rattle.semantics.specs.declared.progress.Open.{Open}
use Rattle.semantics.specs.declared.progress.Pending.{Pending}
use Rattle.semantics.specs.declared.progress.Pending.TheVariants.{Begin, Begun, Given}

one_or_other : (a b : Bool) (x : State) (f g : Finding Stop) → beginning (elim a [ true ↦ elim b [ true ↦ begins x | false ↦ hindered f ] | false ↦ hindered g ]) ≡ true
one_or_other true true x f g = refl
one_or_other true false x f g = refl
one_or_other false b x f g = refl

begin_begins : (r : Rule) (s : State) (i f : ℕ) → beginning (begin_act r s i f) ≡ true
begin_begins r s i f =
    one_or_other (ltb (length s.opens) 512) (leb (length s.cells + needs r i) 2048) (begun r s i f) (stopped_at NoCells i) (stopped_at NoPlace i)

-- An open node's turn begins nothing.
turn_free : (t : Turn) (o : Open) (os : List Open) (cs : List Value) (m : Meaning) (es : List Event) → beginning (turned t o os cs m es) ≡ false
turn_free (runs came kept j) o os cs m es = refl
turn_free (enters came j) o os cs m es = refl
turn_free (ends e) o os cs m es = refl
turn_free (sets a v t) o os cs m es = turn_free t o os _ m es
turn_free (deals n e t) o os cs m es = turn_free t o os cs n _
turn_free (stops c i) o os cs m es = refl
turn_free no_turn o os cs m es = refl

last_free : (e : Completion) → beginning (last_act e) ≡ false
last_free Ended = refl
last_free (Valued v) = refl
last_free (Located a v) = refl
last_free Broke = refl
last_free Continued = refl
last_free (Returned None) = refl
last_free (Returned (Some v)) = refl

first_free : (r : Rule) (os : List Open) (cs : List Value) (m : Meaning) → beginning (first_act r os cs m) ≡ false
first_free r [] cs m = refl
first_free r (o ∷ os) cs m = turn_free (started (node r o.node).kind r o cs m) o os cs m []

given_free : (r : Rule) (os : List Open) (cs : List Value) (m : Meaning) (e : Completion) → beginning (given_act r os cs m e) ≡ false
given_free r [] cs m e = last_free e
given_free r (o ∷ os) cs m e = turn_free (resumed (node r o.node).kind r o cs m e) o os cs m []

-- The book has no part in whether a node is next to begin.
any_book : (r : Rule) (s : State) (m n : Meaning) (p : Pending) → beginning (by_pending r s m p) ≡ true → beginning (by_pending r s n p) ≡ true
any_book r s m n (Begin i f) h = h
any_book r s m n Begun h = absurd (true≢false (sym h ∙ first_free r s.opens s.cells m))
any_book r s m n (Given e) h = absurd (true≢false (sym h ∙ given_free r s.opens s.cells m e))

any_next : (r : Rule) (s : State) (m n : Meaning) → beginning (next r s m) ≡ true → beginning (next r s n) ≡ true
unfolding next
any_next r s m n h = any_book r s m n s.pending h

pub origin_begins : (r : Rule) → Beginning r (origin r)
unfolding next origin
origin_begins r m = begin_begins r (origin r) _ _

spent_next : (x : Next) (b : Bool) → ending b x ≡ Some Spent → beginning x ≡ true
spent_next (begins t) b h = refl
spent_next (hindered f) b h = refl
spent_next (moves t n e) b h = absurd (none-some Spent h)
spent_next (halts f) b h = absurd (grind arith)
spent_next finished b h = absurd (grind arith)
spent_next stuck b h = absurd (none-some Spent h)

pub spent_begins : (r : Rule) (budget units : ℕ) (s t : State) (m n : Meaning) (es : List Event) → Going r budget s m Spent units es (Some t) n → Beginning r t
spent_begins r budget units s t m n es g o =
    any_next r t n o (rw (same_Some t g.last g.leaves) (spent_next (next r g.last n) (ltb units budget) g.ends))

zero_ends : (x : Next) → beginning x ≡ true → ending (ltb 0 0) x ≡ Some Spent
zero_ends (begins t) h = refl
zero_ends (hindered f) h = refl
zero_ends (moves t n e) h = absurd (true≢false (sym h))
zero_ends (halts f) h = absurd (true≢false (sym h))
zero_ends finished h = absurd (true≢false (sym h))
zero_ends stuck h = absurd (true≢false (sym h))

pub nothing_spent : (r : Rule) (s : State) (m : Meaning) → Beginning r s → Going r 0 s m Spent 0 [] (Some s) m
nothing_spent r s m h = record { last = s; within = omega arith; acts = none; ends = zero_ends (next r s m) (h m); leaves = refl }

-- Whatever is under way.
abbrev Ready : Runner → Type 0
Ready w = (s : State) → w.under_way ≡ Some s → Beginning w.rule s

idle : (r : Rule) → Ready (runner r None)
idle r s h = absurd (none-some s h)

load_ready : (z : Option State) (x : Option Refusal) (file : List ℕ) (w : Runner) → Ready w → Ready (load_after z x file w)
load_ready (Some s) x file w h = h
load_ready None (Some x) file w h = h
load_ready None None file w h = idle _

begin_ready : (z : Option State) (w : Runner) → Ready w → Ready (begin_after z w)
begin_ready (Some s) w h = h
begin_ready None w h = λ s e. rw (← (same_Some (origin w.rule) s e)) (origin_begins w.rule)

plain_ready : (w : World) (b : Result Answer Denial) (u : Runner) (a : Result Answer Denial) (es : List Event) (v : World) → Plainly w b u a es v → Ready u → Ready v.runner
plain_ready w b u a es v x h = rw x.leaves h

left_ready : (r : Rule) (b units : ℕ) (s : State) (m n : Meaning) (es : List Event) (how : Ending) (z : Option State) → Going r b s m how units es z n → (t : State) → z ≡ Some t → Beginning r t
left_ready r b units s m n es Finished z g t e = absurd (none-some t (sym g.leaves ∙ e))
left_ready r b units s m n es Spent z g t e = spent_begins r b units s t m n es (rw e at g)
left_ready r b units s m n es (Stopped f) z g t e = absurd (none-some t (sym g.leaves ∙ e))

went_ready : (z : Option State) (w : World) (b : ℕ) (a : Result Answer Denial) (es : List Event) (v : World) → WentFrom z w b a es v → Ready w.runner → Ready v.runner
went_ready None w b a es v x h = plain_ready w _ _ a es v x h
went_ready (Some s) w b a es v x h =
    λ t e. rw x.keeps (left_ready w.runner.rule b x.units s w.book v.book es x.how v.runner.under_way x.going t e)

called_ready : (c : Call) (w : World) (a : Result Answer Denial) (es : List Event) (v : World) → Called c w a es v → Ready w.runner → Ready v.runner
called_ready (load file) w a es v x h = plain_ready w _ _ a es v x (load_ready w.runner.under_way (refused file) file w.runner h)
called_ready begin w a es v x h = plain_ready w _ _ a es v x (begin_ready w.runner.under_way w.runner h)
called_ready (go b) w a es v x h = went_ready w.runner.under_way w b a es v x h
called_ready close w a es v x h = plain_ready w _ _ a es v x (idle _)

course_ready : {cs : List Call} {w v : World} {bs : List (Result Answer Denial)} {es : List Event} → Course cs w bs es v → Ready w.runner → Ready v.runner
course_ready over h = h
course_ready {w = w} (call {c = c} {v = v} {a = a} e x t) h = course_ready t (called_ready c w a e v x h)

pub under_way_begins : (m : Meaning) (cs : List Call) (bs : List (Result Answer Denial)) (es : List Event) (w : World) (s : State) → CourseOf m cs bs es w → w.runner.under_way ≡ Some s → Beginning w.runner.rule s
under_way_begins m cs bs es w s c e = course_ready c (idle _) s e
