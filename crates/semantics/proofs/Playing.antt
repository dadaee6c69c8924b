-- Courses computed: what a function with a bound on acts finds is a course of the definitions.
use Rattle.std.proofs.Common.{◌≡◌, ℕ, zero, suc, ◌+◌, Bool, true, false, ltb, List, [], ◌∷◌, ◌++◌, ℤ, Some, None, Option, sym, refl, add-one, arith, Ok, Err, Result}
use Rattle.std.proofs.lemmas.Bool.Decides.{nat_tests}
use Rattle.std.proofs.lemmas.Option.{none-some, same_Some}
use Rattle.std.proofs.lemmas.Bool.{lt-ltb, true≢false}
use Rattle.book.specs.Meanings.{Meaning}
use Rattle.semantics.specs.Acts.{State, Next, begins, hindered, moves, halts, finished, stuck, next}
use Rattle.semantics.specs.Courses.{Runner, runner, World, world, Call, load, begin, go, close, refused, load_answer, load_after, begin_answer, begin_after, close_answer, close_after, WentFrom, Called, Course, over, call, new_runner}
use Rattle.semantics.specs.Rule.{Rule}
use Rattle.semantics.specs.Runs.{none, paid, freely, ending, left_by, Going}
use Rattle.semantics.specs.Worked.{empty_book, Case}
use Rattle.semantics.specs.declared.answer.Answer.{Answer}
use Rattle.semantics.specs.declared.answer.Denial.{Denial}
use Rattle.semantics.specs.declared.answer.Answer.TheVariants.{Went}
use Rattle.semantics.specs.declared.answer.Denial.TheVariants.{Idle}
use Rattle.semantics.specs.declared.answer.Ending.{Ending}
use Rattle.semantics.specs.declared.answer.Ending.TheVariants.{Finished, Spent, Stopped}
use Rattle.semantics.specs.declared.import.Event.{Event}

-- One go.
pub record Out : Type 0 where
  pub units : ℕ
  pub how : Ending
  pub events : List Event
  pub last : State
  pub book : Meaning

abbrev pub out : Ending → State → Meaning → Option Out
out how s m = Some (record { units = 0; how = how; events = []; last = s; book = m })

abbrev pub dearer : Option Out → Option Out
dearer None = None
dearer (Some o) = Some (record { units = o.units + 1; how = o.how; events = o.events; last = o.last; book = o.book })

abbrev pub later : List Event → Option Out → Option Out
later e None = None
later e (Some o) = Some (record { units = o.units; how = o.how; events = o.events ++ e; last = o.last; book = o.book })

abbrev pub by_next : (ℕ → State → Meaning → Option Out) → ℕ → State → Meaning → Next → Option Out
by_next f zero s m (begins t) = out Spent s m
by_next f (suc b) s m (begins t) = dearer (f b t m)
by_next f zero s m (hindered x) = out Spent s m
by_next f (suc b) s m (hindered x) = out (Stopped x) s m
by_next f b s m (moves t n e) = later e (f b t n)
by_next f b s m (halts x) = out (Stopped x) s m
by_next f b s m finished = out Finished s m
by_next f b s m stuck = None

unfoldable pub play : ℕ → Rule → ℕ → State → Meaning → Option Out
play zero r b s m = None
play (suc f) r b s m = by_next (play f r) b s m (next r s m)

abbrev Found : Rule → ℕ → State → Meaning → Out → Type 0
Found r b s m o = Going r b s m o.how o.units o.events (left_by o.how o.last) o.book

found_here : (r : Rule) (b : ℕ) (s : State) (m : Meaning) (how : Ending) (o : Out) → ending (ltb 0 b) (next r s m) ≡ Some how → out how s m ≡ Some o → Found r b s m o
found_here r b s m how o h x =
    let e = same_Some _ o x in
    rw (← e) (record { last = s; within = omega arith; acts = none; ends = h; leaves = refl })

ltb_suc : (k c : ℕ) → ltb (k + 1) (suc c) ≡ ltb k c
ltb_suc k c = grind (arith, nat_tests)

found_paid : (r : Rule) (b : ℕ) (s t : State) (m : Meaning) (x : Option Out) (o : Out) → next r s m ≡ begins t → ((y : Out) → x ≡ Some y → Found r b t m y) → dearer x ≡ Some o → Found r (suc b) s m o
found_paid r b s t m None o h g y = absurd (none-some o y)
found_paid r b s t m (Some x) o h g y =
    let z = same_Some _ o y in
    let u = g x refl in
    let w = u.within in
    rw (← z) (record {
      last = u.last;
      within = omega arith;
      acts = rw add-one (paid h u.acts);
      ends = rw (ltb_suc x.units b) u.ends;
      leaves = u.leaves;
    })

found_free : (r : Rule) (b : ℕ) (s t : State) (m n : Meaning) (e : List Event) (x : Option Out) (o : Out) → next r s m ≡ moves t n e → ((y : Out) → x ≡ Some y → Found r b t n y) → later e x ≡ Some o → Found r b s m o
found_free r b s t m n e None o h g y = absurd (none-some o y)
found_free r b s t m n e (Some x) o h g y =
    let z = same_Some _ o y in
    let u = g x refl in
    rw (← z) (record {
      last = u.last;
      within = u.within;
      acts = freely h u.acts;
      ends = u.ends;
      leaves = u.leaves;
    })

by_next_sound : (r : Rule) (f : ℕ → State → Meaning → Option Out) → ((b : ℕ) (s : State) (m : Meaning) (o : Out) → f b s m ≡ Some o → Found r b s m o) → (b : ℕ) (s : State) (m : Meaning) (x : Next) (o : Out) → next r s m ≡ x → by_next f b s m x ≡ Some o → Found r b s m o
by_next_sound r f ih zero s m (begins t) o h y = found_here r 0 s m Spent o (rw h refl) y
by_next_sound r f ih (suc b) s m (begins t) o h y = found_paid r b s t m (f b t m) o h (ih b t m) y
by_next_sound r f ih zero s m (hindered x) o h y = found_here r 0 s m Spent o (rw h refl) y
by_next_sound r f ih (suc b) s m (hindered x) o h y =
    found_here r (suc b) s m (Stopped x) o (rw h (rw (lt-ltb 0 (suc b) (omega arith)) refl)) y
by_next_sound r f ih b s m (moves t n e) o h y = found_free r b s t m n e (f b t n) o h (ih b t n) y
by_next_sound r f ih b s m (halts x) o h y = found_here r b s m (Stopped x) o (rw h refl) y
by_next_sound r f ih b s m finished o h y = found_here r b s m Finished o (rw h refl) y
by_next_sound r f ih b s m stuck o h y = absurd (none-some o y)

play_sound : (f : ℕ) (r : Rule) (b : ℕ) (s : State) (m : Meaning) (o : Out) → play f r b s m ≡ Some o → Found r b s m o
unfolding play
play_sound zero r b s m o h = absurd (none-some o h)
play_sound (suc f) r b s m o h = by_next_sound r (play f r) (λ b s m o x. play_sound f r b s m o x) b s m (next r s m) o refl h

-- One call.
pub record Reply : Type 0 where
  pub answer : Result Answer Denial
  pub events : List Event
  pub after : World

abbrev pub plainly : World → Result Answer Denial → Runner → Option Reply
plainly w a u = Some (record { answer = a; events = []; after = world u w.book })

abbrev pub gone : World → Option Out → Option Reply
gone w None = None
gone w (Some o) = Some (record {
  answer = Ok (Went o.how o.units);
  events = o.events;
  after = world (runner w.runner.rule (left_by o.how o.last)) o.book;
})

abbrev pub go_reply : ℕ → ℕ → World → Option State → Option Reply
go_reply f b w None = plainly w (Err Idle) w.runner
go_reply f b w (Some s) = gone w (play f w.runner.rule b s w.book)

abbrev pub reply : ℕ → Call → World → Option Reply
reply f (load file) w = plainly w (load_answer w.runner.under_way (refused file)) (load_after w.runner.under_way (refused file) file w.runner)
reply f begin w = plainly w (begin_answer w.runner.under_way) (begin_after w.runner.under_way w.runner)
reply f (go b) w = go_reply f b w w.runner.under_way
reply f close w = plainly w (close_answer w.runner.under_way) (close_after w.runner)

gone_sound : (w : World) (s : State) (b : ℕ) (x : Option Out) (y : Reply) → ((o : Out) → x ≡ Some o → Found w.runner.rule b s w.book o) → gone w x ≡ Some y → WentFrom (Some s) w b y.answer y.events y.after
gone_sound w s b None y g h = absurd (none-some y h)
gone_sound w s b (Some o) y g h =
    rw (← (same_Some _ y h)) (record { how = o.how; units = o.units; answers = refl; going = g o refl; keeps = refl })

go_sound : (f b : ℕ) (w : World) (z : Option State) (y : Reply) → go_reply f b w z ≡ Some y → WentFrom z w b y.answer y.events y.after
go_sound f b w None y h = rw (← (same_Some _ y h)) (record { answers = refl; quiet = refl; leaves = refl })
go_sound f b w (Some s) y h =
    gone_sound w s b (play f w.runner.rule b s w.book) y (play_sound f w.runner.rule b s w.book) h

reply_sound : (f : ℕ) (c : Call) (w : World) (y : Reply) → reply f c w ≡ Some y → Called c w y.answer y.events y.after
reply_sound f (load file) w y h = rw (← (same_Some _ y h)) (record { answers = refl; quiet = refl; leaves = refl })
reply_sound f begin w y h = rw (← (same_Some _ y h)) (record { answers = refl; quiet = refl; leaves = refl })
reply_sound f (go b) w y h = go_sound f b w w.runner.under_way y h
reply_sound f close w y h = rw (← (same_Some _ y h)) (record { answers = refl; quiet = refl; leaves = refl })

-- Calls one after another.
pub record Story : Type 0 where
  pub answers : List (Result Answer Denial)
  pub events : List Event
  pub after : World

abbrev pub tell : Reply → Option Story → Option Story
tell o None = None
tell o (Some y) = Some (record { answers = o.answer ∷ y.answers; events = y.events ++ o.events; after = y.after })

abbrev pub after_call : (World → Option Story) → Option Reply → Option Story
after_call rest None = None
after_call rest (Some o) = tell o (rest o.after)

unfoldable pub plays : ℕ → List Call → World → Option Story
plays f [] w = Some (record { answers = []; events = []; after = w })
plays f (c ∷ cs) w = after_call (plays f cs) (reply f c w)

abbrev Told : List Call → World → Story → Type 0
Told cs w y = Course cs w y.answers y.events y.after

told_on : (c : Call) (cs : List Call) (w : World) (o : Reply) (x : Option Story) (y : Story) → Called c w o.answer o.events o.after → ((v : Story) → x ≡ Some v → Told cs o.after v) → tell o x ≡ Some y → Told (c ∷ cs) w y
told_on c cs w o None y k g h = absurd (none-some y h)
told_on c cs w o (Some v) y k g h = rw (← (same_Some _ y h)) (call o.events k (g v refl))

told_call : (f : ℕ) (c : Call) (cs : List Call) (w : World) (x : Option Reply) (y : Story) → reply f c w ≡ x → ((v : World) (z : Story) → plays f cs v ≡ Some z → Told cs v z) → after_call (plays f cs) x ≡ Some y → Told (c ∷ cs) w y
told_call f c cs w None y h ih k = absurd (none-some y k)
told_call f c cs w (Some o) y h ih k = told_on c cs w o (plays f cs o.after) y (reply_sound f c w o h) (ih o.after) k

plays_sound : (f : ℕ) (cs : List Call) (w : World) (y : Story) → plays f cs w ≡ Some y → Told cs w y
unfolding plays
plays_sound f [] w y h = rw (← (same_Some _ y h)) over
plays_sound f (c ∷ cs) w y h = told_call f c cs w (reply f c w) y refl (λ v z x. plays_sound f cs v z x) h

-- What a case compares: small values, and not the whole story, which would be written out.
abbrev pub answers_of : Option Story → List (Result Answer Denial)
answers_of None = []
answers_of (Some y) = y.answers

abbrev pub value_of : ℕ → ℕ → Option Story → Option ℤ
value_of c l None = None
value_of c l (Some y) = y.after.book.value c l

abbrev pub is_told : Option Story → Bool
is_told None = false
is_told (Some y) = true

found_in : (cs : List Call) (bs : List (Result Answer Denial)) (c l : ℕ) (x : Option ℤ) (f : ℕ) (o : Option Story) → plays f cs (world new_runner empty_book) ≡ o → is_told o ≡ true → answers_of o ≡ bs → value_of c l o ≡ x → Case cs bs c l x
found_in cs bs c l x f None h t a v = absurd (true≢false (sym t))
found_in cs bs c l x f (Some y) h t a v =
    record { events = y.events; after = y.after; course = rw a at (plays_sound f cs (world new_runner empty_book) y h); value = v }

pub found : (cs : List Call) (bs : List (Result Answer Denial)) (c l : ℕ) (x : Option ℤ) (f : ℕ) → is_told (plays f cs (world new_runner empty_book)) ≡ true → answers_of (plays f cs (world new_runner empty_book)) ≡ bs → value_of c l (plays f cs (world new_runner empty_book)) ≡ x → Case cs bs c l x
found cs bs c l x f t a v = found_in cs bs c l x f (plays f cs (world new_runner empty_book)) refl t a v
