-- A go and a course are determined by what they start from.
use Rattle.std.proofs.Common.{◌≡◌, ℕ, suc, ◌+◌, ◌≤◌, Bool, true, false, cond, ltb, List, Some, None, Option, sym, refl, ap, ◌∙◌, arith, Result}
use Rattle.std.proofs.lemmas.Bool.{ltb-false}
use Rattle.book.specs.Meanings.{Meaning}
use Rattle.semantics.specs.Acts.{State, begins, moves, next}
use Rattle.semantics.specs.Courses.{Runner, World, Call, load, begin, go, close, Plainly, Called, WentFrom, Course, over, call}
use Rattle.semantics.specs.Laws.{SameGo, SameCourse}
use Rattle.semantics.specs.Rule.{Rule}
use Rattle.semantics.specs.Runs.{Acts, none, paid, freely, ending, Going}
use Rattle.semantics.specs.declared.answer.Answer.{Answer}
use Rattle.semantics.specs.declared.answer.Denial.{Denial}
use Rattle.semantics.specs.declared.answer.Ending.{Ending}
use Rattle.semantics.specs.declared.answer.Ending.TheVariants.{Spent}
use Rattle.semantics.specs.declared.import.Event.{Event}

-- A go ends only where it has no act left: before a node that can begin, only if the budget is used up.
spent_first : (t : Bool) (h : Ending) → cond t None (Some Spent) ≡ Some h → t ≡ false
spent_first true h x = absurd (grind arith)
spent_first false h x = refl

used_up : (r : Rule) (s : State) (m : Meaning) (u b : ℕ) (h : Ending) (t : State) → next r s m ≡ begins t → ending (ltb u b) (next r s m) ≡ Some h → b ≤ u
used_up r s m u b h t g x = ltb-false u b (spent_first (ltb u b) h (rw g at x))

no_end : (r : Rule) (s : State) (m : Meaning) (b : Bool) (h : Ending) (t : State) (n : Meaning) (e : List Event) → next r s m ≡ moves t n e → ending b (next r s m) ≡ Some h → ⊥
no_end r s m b h t n e g x = let y = rw g at x in grind arith

record SameActs (k k' : ℕ) (es es' : List Event) (q q' : State) (n n' : Meaning) : Type 0 where
  units : k ≡ k'
  events : es ≡ es'
  last : q ≡ q'
  book : n ≡ n'

acts_only : {r : Rule} {s q : State} {m n : Meaning} {k : ℕ} {es : List Event} → Acts r s m k es q n → (j b u : ℕ) → u ≡ j + k → u ≤ b → (h : Ending) → ending (ltb u b) (next r q n) ≡ Some h → {q' : State} {n' : Meaning} {k' : ℕ} {es' : List Event} → Acts r s m k' es' q' n' → (u' : ℕ) → u' ≡ j + k' → u' ≤ b → (h' : Ending) → ending (ltb u' b) (next r q' n') ≡ Some h' → SameActs k k' es es' q q' n n'
acts_only none j b u x l h s none u' x' l' h' s' = record { units = refl; events = refl; last = refl; book = refl }
acts_only {r} {s = p} {m = m} none j b u x l h s (paid g t) u' x' l' h' s' = let y = used_up r p m u b h _ g s in absurd (omega arith)
acts_only {r} {s = p} {m = m} none j b u x l h s (freely g t) u' x' l' h' s' = absurd (no_end r p m (ltb u b) h _ _ _ g s)
acts_only {r} {s = p} {m = m} (paid g t) j b u x l h s none u' x' l' h' s' = let y = used_up r p m u' b h' _ g s' in absurd (omega arith)
acts_only {r} {s = p} {m = m} (freely g t) j b u x l h s none u' x' l' h' s' = absurd (no_end r p m (ltb u' b) h' _ _ _ g s')
acts_only (paid g t) j b u x l h s (freely g' t') u' x' l' h' s' = absurd (grind arith)
acts_only (freely g t) j b u x l h s (paid g' t') u' x' l' h' s' = absurd (grind arith)
acts_only {r} (paid {t = c} g t) j b u x l h s (paid {t = c'} g' t') u' x' l' h' s' =
    let er : c ≡ c' = cc in
    let i = acts_only t (suc j) b u (omega arith) l h s (rw (← er) at t') u' (omega arith) l' h' s' in
    record { units = ap suc i.units; events = i.events; last = i.last; book = i.book }
acts_only {r} (freely {t = c} {n = o} {e = e} g t) j b u x l h s (freely {t = c'} {n = o'} {e = e'} g' t') u' x' l' h' s' =
    let er : c ≡ c' = cc in
    let eo : o ≡ o' = cc in
    let ee : e ≡ e' = cc in
    let i = acts_only t j b u x l h s (rw (← er, ← eo) at t') u' x' l' h' s' in
    record { units = i.units; events = cc (i.events, ee); last = i.last; book = i.book }

pub going_only : (r : Rule) (b : ℕ) (s : State) (m : Meaning) (how how' : Ending) (units units' : ℕ) (es es' : List Event) (z z' : Option State) (n n' : Meaning) → Going r b s m how units es z n → Going r b s m how' units' es' z' n' → SameGo how how' units units' es es' z z' n n'
going_only r b s m how how' units units' es es' z z' n n' g k =
    let i = acts_only g.acts 0 b units (omega arith) g.within how g.ends k.acts units' (omega arith) k.within how' k.ends in
    let w : how ≡ how' = cc (i.units, i.last, i.book, g.ends, k.ends) in
    record { ending = w; units_spent = i.units; events = i.events; left = cc (i.last, w, g.leaves, k.leaves); book = i.book }

runner_path : (w v : Runner) → w.rule ≡ v.rule → w.under_way ≡ v.under_way → w ≡ v
runner_path w v x y = λ i. record { rule = x i; under_way = y i }

world_path : (w v : World) → w.runner ≡ v.runner → w.book ≡ v.book → w ≡ v
world_path w v x y = λ i. record { runner = x i; book = y i }

record SameCall (a a' : Result Answer Denial) (e e' : List Event) (v v' : World) : Type 0 where
  answer : a ≡ a'
  events : e ≡ e'
  world : v ≡ v'

plainly_only : (w : World) (b : Result Answer Denial) (u : Runner) (a a' : Result Answer Denial) (e e' : List Event) (v v' : World) → Plainly w b u a e v → Plainly w b u a' e' v' → SameCall a a' e e' v v'
plainly_only w b u a a' e e' v v' x y =
    record { answer = x.answers ∙ sym y.answers; events = x.quiet ∙ sym y.quiet; world = x.leaves ∙ sym y.leaves }

went_only : (o : Option State) (n : ℕ) (w : World) (a a' : Result Answer Denial) (e e' : List Event) (v v' : World) → WentFrom o w n a e v → WentFrom o w n a' e' v' → SameCall a a' e e' v v'
went_only None n w a a' e e' v v' x y = plainly_only w _ _ a a' e e' v v' x y
went_only (Some s) n w a a' e e' v v' x y =
    let i = going_only w.runner.rule n s w.book x.how y.how x.units y.units e e' _ _ v.book v'.book x.going y.going in
    record {
      answer = cc (x.answers, y.answers, i.ending, i.units_spent);
      events = i.events;
      world = world_path v v' (runner_path v.runner v'.runner (x.keeps ∙ sym y.keeps) i.left) i.book;
    }

called_only : (c : Call) (w : World) (a a' : Result Answer Denial) (e e' : List Event) (v v' : World) → Called c w a e v → Called c w a' e' v' → SameCall a a' e e' v v'
called_only (load file) w a a' e e' v v' x y = plainly_only w _ _ a a' e e' v v' x y
called_only begin w a a' e e' v v' x y = plainly_only w _ _ a a' e e' v v' x y
called_only (go n) w a a' e e' v v' x y = went_only w.runner.under_way n w a a' e e' v v' x y
called_only close w a a' e e' v v' x y = plainly_only w _ _ a a' e e' v v' x y

pub course_only : {cs : List Call} {w v v' : World} {bs bs' : List (Result Answer Denial)} {es es' : List Event} → Course cs w bs es v → Course cs w bs' es' v' → SameCourse bs bs' es es' v v'
course_only over over = record { answers = refl; events = refl; world = refl }
course_only {w = w} (call {c = c} {v = v} {a = a} e x t) (call {v = v'} {a = a'} e' x' t') =
    let i = called_only c w a a' e e' v v' x x' in
    let k = course_only t (rw (← i.world) at t') in
    record { answers = cc (i.answer, k.answers); events = cc (i.events, k.events); world = k.world }
