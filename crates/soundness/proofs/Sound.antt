-- A checked rule in a safe state has a next act, and it leads to a safe state: one pass over the kinds.
use Rattle.std.proofs.Common.{◌≡◌, ℕ, Bool, false, List, [], ◌∷◌, length, Some, None, Option, sym, refl, ◌∙◌, inl, inr}
use lib.ListN.{get_or-eq_default}
use Rattle.std.proofs.lemmas.Bool.{true≢false, cases_lt}
use Rattle.book.specs.Meanings.{Meaning}
use Rattle.nodes.specs.declared.kind.Kind.{Kind}
use Rattle.nodes.specs.declared.kind.Kind.TheVariants as kind
use Rattle.node_rules.specs.Tables.{blank}
use Rattle.node_rules.specs.declared.types.Ty.{Ty}
use Rattle.semantics.specs.Rule.{Rule, node}
use Rattle.semantics.specs.Kinds.{started, resumed}
use Rattle.semantics.specs.Acts.{State, first_came, last_act, first_act, given_act, by_pending, next}
use Rattle.semantics.specs.Runs.{Acts, none, paid, freely}
use Rattle.semantics.specs.declared.value.Value.{Value}
use Rattle.semantics.specs.declared.import.Event.{Event}
use Rattle.semantics.specs.declared.progress.Completion.{Completion}
use Rattle.semantics.specs.declared.progress.Completion.TheVariants.{Ended, Valued, Located, Broke, Continued, Returned}
use Rattle.semantics.specs.declared.progress.Open.{Open}
use Rattle.semantics.specs.declared.progress.Pending.{Pending}
use Rattle.semantics.specs.declared.progress.Pending.TheVariants.{Begin, Begun, Given}
use Rattle.soundness.specs.Checked.{looped, result, GoodBy, Good, main_body, GoodMain, Checked}
use Rattle.soundness.specs.Sound.{NeverStuck, Reached, set_out, went_on, NeverStuckLater}
use Rattle.soundness.proofs.Classes.{class, is_block}
use Rattle.soundness.proofs.Safe.{GivesEnd, Gives, WaitsBy, LevelBy, Stack, FreshOf, SafeBy, Safe, Sound}
use Rattle.soundness.proofs.Turning.{Stands, Right, turn_safe}
use Rattle.soundness.proofs.Right.{literal_starts, location_starts, block_starts, block_goes_on, if_starts, if_goes_on, binary_starts, binary_goes_on, assignment_starts, assignment_goes_on}
use Rattle.soundness.proofs.Simple.{step_starts, step_goes_on, statement_starts, statement_goes_on, for_starts, for_goes_on, while_starts, while_goes_on, return_starts, return_goes_on, break_starts, continue_starts, element_starts, element_goes_on, unary_starts, unary_goes_on, cast_starts, cast_goes_on, len_starts, text_starts}
use Rattle.soundness.proofs.Calling.{call_starts, call_goes_on}
use Rattle.soundness.proofs.Beginning.{begin_safe, origin_safe}

start_right : (k : Kind) (r : Rule) (type : ℕ → Option Ty) (cs : List Value) (m : Meaning) (o : Open) → (node r o.node).kind ≡ k → GoodBy k r type o.node → Stands r cs o → LevelBy (class k) r o.base o.frame o.node → o.came ≡ first_came r o.node → Right k r type (started k r o cs m) cs o
start_right kind.Program r type cs m o e g s v c = v
start_right kind.Import r type cs m o e g s v c = v
start_right kind.ScalarDeclaration r type cs m o e g s v c = v
start_right kind.ArrayDeclaration r type cs m o e g s v c = v
start_right kind.Method r type cs m o e g s v c = v
start_right kind.Parameter r type cs m o e g s v c = v
start_right kind.Block r type cs m o e g s v c = block_starts r type cs m o e g s v c
start_right kind.Assignment r type cs m o e g s v c = assignment_starts r type cs m o g s
start_right kind.Step r type cs m o e g s v c = step_starts r type cs m o g s
start_right kind.CallStatement r type cs m o e g s v c = statement_starts r type cs m o g s
start_right kind.If r type cs m o e g s v c = if_starts r type cs m o g s
start_right kind.For r type cs m o e g s v c = for_starts r type cs m o g s
start_right kind.While r type cs m o e g s v c = while_starts r type cs m o g s
start_right kind.Return r type cs m o e g s v c = return_starts r type cs m o g s
start_right kind.Break r type cs m o e g s v c = break_starts r type cs m o g s
start_right kind.Continue r type cs m o e g s v c = continue_starts r type cs m o g s
start_right kind.ScalarLocation r type cs m o e g s v c = location_starts r type cs m o g s
start_right kind.ArrayLocation r type cs m o e g s v c = element_starts r type cs m o g s
start_right kind.Literal r type cs m o e g s v c = literal_starts r type cs m o g s
start_right kind.Unary r type cs m o e g s v c = unary_starts r type cs m o g s
start_right kind.Cast r type cs m o e g s v c = cast_starts r type cs m o g s
start_right kind.Call r type cs m o e g s v c = call_starts r type cs m o e g s c
start_right kind.Len r type cs m o e g s v c = len_starts r type cs m o g s
start_right kind.Binary r type cs m o e g s v c = binary_starts r type cs m o g s
start_right kind.Text r type cs m o e g s v c = text_starts r type cs m o s

resume_right : (k : Kind) (r : Rule) (type : ℕ → Option Ty) (cs : List Value) (m : Meaning) (o : Open) (j f : ℕ) (x : Completion) → (node r o.node).kind ≡ k → GoodBy k r type o.node → Stands r cs o → LevelBy (class k) r o.base o.frame o.node → WaitsBy k r type cs o j f → Gives r type cs (length cs) j x → Right k r type (resumed k r o cs m x) cs o
resume_right kind.Program r type cs m o j f x e g s v w y = w
resume_right kind.Import r type cs m o j f x e g s v w y = w
resume_right kind.ScalarDeclaration r type cs m o j f x e g s v w y = w
resume_right kind.ArrayDeclaration r type cs m o j f x e g s v w y = w
resume_right kind.Method r type cs m o j f x e g s v w y = w
resume_right kind.Parameter r type cs m o j f x e g s v w y = w
resume_right kind.Block r type cs m o j f x e g s v w y = block_goes_on r type cs m o (length cs) j f x g s v w y
resume_right kind.Assignment r type cs m o j f x e g s v w y = assignment_goes_on r type cs m o j f x e g s w y
resume_right kind.Step r type cs m o j f x e g s v w y = step_goes_on r type cs m o (length cs) j f x g s w y
resume_right kind.CallStatement r type cs m o j f x e g s v w y = statement_goes_on r type cs m o (length cs) j f x g s w y
resume_right kind.If r type cs m o j f x e g s v w y = if_goes_on r type cs m o (length cs) j f x g s v w y
resume_right kind.For r type cs m o j f x e g s v w y = for_goes_on r type cs m o (length cs) j f x g s v w y
resume_right kind.While r type cs m o j f x e g s v w y = while_goes_on r type cs m o (length cs) j f x g s v w y
resume_right kind.Return r type cs m o j f x e g s v w y = return_goes_on r type cs m o (length cs) j f x g s w y
resume_right kind.Break r type cs m o j f x e g s v w y = w
resume_right kind.Continue r type cs m o j f x e g s v w y = w
resume_right kind.ScalarLocation r type cs m o j f x e g s v w y = w
resume_right kind.ArrayLocation r type cs m o j f x e g s v w y = element_goes_on r type cs m o (length cs) j f x g s w y
resume_right kind.Literal r type cs m o j f x e g s v w y = w
resume_right kind.Unary r type cs m o j f x e g s v w y = unary_goes_on r type cs m o (length cs) j f x g s w y
resume_right kind.Cast r type cs m o j f x e g s v w y = cast_goes_on r type cs m o (length cs) j f x g s w y
resume_right kind.Call r type cs m o j f x e g s v w y = call_goes_on r type cs m o (length cs) j f x e g s w y
resume_right kind.Len r type cs m o j f x e g s v w y = w
resume_right kind.Binary r type cs m o j f x e g s v w y = binary_goes_on r type cs m o (length cs) j f x g s w y
resume_right kind.Text r type cs m o j f x e g s v w y = w

-- With nothing open, main's body ended or returned without a value.
end_by : (r : Rule) (type : ℕ → Option Ty) (loop : Bool) (t : Option Ty) (e : Completion) → loop ≡ false → t ≡ None → GivesEnd loop t e → Sound r type (last_act e)
end_by r type loop t Ended f n g = tt
end_by r type loop t (Valued v) f n g = g
end_by r type loop t (Located a v) f n g = g
end_by r type loop t Broke f n g = absurd (true≢false (sym g ∙ f))
end_by r type loop t Continued f n g = absurd (true≢false (sym g ∙ f))
end_by r type loop t (Returned None) f n g = tt
end_by r type loop t (Returned (Some v)) f n g = rw n at g

end_safe : (r : Rule) (type : ℕ → Option Ty) (cs : List Value) (l j : ℕ) (e : Completion) → GoodMain r → j ≡ main_body r → Gives r type cs l j e → Sound r type (last_act e)
end_safe r type cs l j e g p y =
    let y' : Gives r type cs l (main_body r) e = rw p at y in
    let z : GivesEnd (looped r (main_body r)) (result r (main_body r)) e = rw (is_block _ g.is_block) at y' in
    end_by r type _ _ e g.unlooped g.void z

-- What is not below the number of nodes is read as a node of which nothing is asked.
good : {r : Rule} {type : ℕ → Option Ty} → Checked r type → (i : ℕ) → Good r type i
good {r} {type} c i = elim (cases_lt i (length r.nodes)) [
  | inl lt ↦ c.nodes i lt
  | inr le ↦ let e : node r i ≡ blank = get_or-eq_default r.nodes blank le in rw e tt
]

first_safe : (r : Rule) (type : ℕ → Option Ty) (os : List Open) (cs : List Value) (m : Meaning) → Checked r type → FreshOf r type cs os → Sound r type (first_act r os cs m)
first_safe r type [] cs m c h = h
first_safe r type (o ∷ os) cs m c h =
    turn_safe r type (started (node r o.node).kind r o cs m) o os cs m [] h.stack h.level
    (start_right (node r o.node).kind r type cs m o refl (good c o.node) (record { room = h.room; used = h.used }) h.level h.came)

given_safe : (r : Rule) (type : ℕ → Option Ty) (os : List Open) (cs : List Value) (m : Meaning) (j f : ℕ) (e : Completion) → Checked r type → Stack r type cs (length cs) j f os → Gives r type cs (length cs) j e → Sound r type (given_act r os cs m e)
given_safe r type [] cs m j f e c s y = end_safe r type cs _ j e c.main s y
given_safe r type (o ∷ os) cs m j f e c s y =
    turn_safe r type (resumed (node r o.node).kind r o cs m e) o os cs m [] s.rest s.level
    (resume_right (node r o.node).kind r type cs m o j f e refl (good c o.node) (record { room = s.room; used = s.used }) s.level s.waits y)

pending_safe : (r : Rule) (type : ℕ → Option Ty) (p : Pending) (s : State) (m : Meaning) → Checked r type → SafeBy p r type s → Sound r type (by_pending r s m p)
pending_safe r type (Begin j f) s m c h = begin_safe r type s j f h
pending_safe r type Begun s m c h = first_safe r type s.opens s.cells m c h
pending_safe r type (Given e) s m c h = given_safe r type s.opens s.cells m h.child h.frame e c h.stack h.gives

pub sound : (r : Rule) (type : ℕ → Option Ty) (s : State) (m : Meaning) → Checked r type → Safe r type s → Sound r type (next r s m)
unfolding next
sound r type s m c h = pending_safe r type s.pending s m c h

-- Every state that acts lead to is safe, and none of them is stuck.
pub acts_safe : {r : Rule} {s t : State} {m n : Meaning} {k : ℕ} {es : List Event} (type : ℕ → Option Ty) → Acts r s m k es t n → Checked r type → Safe r type s → Safe r type t
acts_safe type none c h = h
acts_safe {r} {s} {m = m} type (paid e a) c h = acts_safe type a c (rw e at (sound r type s m c h))
acts_safe {r} {s} {m = m} type (freely e a) c h = acts_safe type a c (rw e at (sound r type s m c h))

reached_safe : {r : Rule} {s : State} (type : ℕ → Option Ty) → Reached r s → Checked r type → Safe r type s
reached_safe {r} type set_out c = origin_safe r type c.main
reached_safe type (went_on h a) c = acts_safe type a c (reached_safe type h c)

pub never_stuck_later : NeverStuckLater
never_stuck_later r type c s h m e = rw e at (sound r type s m c (reached_safe type h c))

pub never_stuck : NeverStuck
never_stuck r type c m n units events s a e = never_stuck_later r type c s (went_on set_out a) n e
