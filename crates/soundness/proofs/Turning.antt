-- A right turn of an open node leads to a safe state: one proof for all kinds.
use Rattle.std.proofs.Common.{◌≡◌, ℕ, ◌+◌, ◌≤◌, ◌⊎◌, List, ◌∷◌, length, take, set, Some, None, Option, inl, inr, arith, length-take}
use Rattle.std.specs.List.{slice_get}
use Rattle.book.specs.Meanings.{Meaning}
use Rattle.nodes.specs.declared.kind.Kind.{Kind}
use Rattle.node_rules.specs.declared.types.Ty.{Ty}
use Rattle.semantics.specs.Rule.{Rule, node}
use Rattle.semantics.specs.Turns.{Turn, runs, enters, ends, sets, deals, stops, no_turn}
use Rattle.semantics.specs.Acts.{needs, onward, turned}
use Rattle.semantics.specs.declared.value.Value.{Value}
use Rattle.semantics.specs.declared.import.Event.{Event}
use Rattle.semantics.specs.declared.progress.Open.{Open}
use Rattle.soundness.proofs.Classes.{class}
use Rattle.soundness.proofs.Safe.{Held, Room, GivesBy, WaitsBy, Level, Stack, Sound}
use Rattle.soundness.proofs.Keeping.{Keeps, keeps_stack, keeps_take, Like, keeps_set, keeps_set_behind}

-- A cell may be set if what it gets is of the type that it has; a call's own cells may get anything.
abbrev pub MaySet : List Value → Open → ℕ → Value → Type 0
MaySet cs o a v = ((u : Value) × (slice_get cs a ≡ Some u) × Like u v) ⊎ (o.base ≤ a)

-- What an open node knows of itself: its children's variables have their cells, and its own cells are the last.
pub record Stands (r : Rule) (cs : List Value) (o : Open) : Type 0 where
  pub room : Room r cs o.base (length cs) o.frame o.node
  pub used : length cs ≡ o.base + needs r o.node

-- The turn of an open node of kind k is right.
abbrev pub Right : Kind → Rule → (ℕ → Option Ty) → Turn → List Value → Open → Type 0
Right k r type (runs came kept j) cs o = WaitsBy k r type cs (onward o came kept) j o.frame × Held r cs (length cs) o.frame j × Level r (length cs) o.frame j × Stands r cs o
Right k r type (enters came j) cs o = WaitsBy k r type cs (onward o came None) j o.base × Held r cs (length cs) o.base j × Level r (length cs) o.base j × Stands r cs o
Right k r type (ends e) cs o = GivesBy (class k) r type (take o.base cs) o.base o.node e × (o.base ≤ length cs)
Right k r type (sets a v t) cs o = MaySet cs o a v × Right k r type t (set cs a v) o
Right k r type (deals n e t) cs o = Right k r type t cs o
Right k r type (stops c i) cs o = Unit {0}
Right k r type no_turn cs o = ⊥

may_keep : (cs : List Value) (o : Open) (a : ℕ) (v : Value) → MaySet cs o a v → Keeps cs (set cs a v) o.base
may_keep cs o a v (inl x) = keeps_set o.base cs a x.0 v x.1 x.2
may_keep cs o a v (inr le) = keeps_set_behind o.base cs a v le

cut : (b : ℕ) (cs : List Value) → b ≤ length cs → length (take b cs) ≡ b
cut b cs le = let e = length-take b cs in omega arith

pub turn_safe : (r : Rule) (type : ℕ → Option Ty) (t : Turn) (o : Open) (os : List Open) (cs : List Value) (m : Meaning) (ns : List Event) → Stack r type cs o.base o.node o.frame os → Level r o.base o.frame o.node → Right (node r o.node).kind r type t cs o → Sound r type (turned t o os cs m ns)
turn_safe r type (runs came kept j) o os cs m ns s v h = record {
  stack = record { waits = h.0; room = h.3.room; used = h.3.used; level = v; rest = s };
  held = h.1;
  level = h.2;
}
turn_safe r type (enters came j) o os cs m ns s v h = record {
  stack = record { waits = h.0; room = h.3.room; used = h.3.used; level = v; rest = s };
  held = h.1;
  level = h.2;
}
turn_safe r type (ends e) o os cs m ns s v h = record {
  child = o.node;
  frame = o.frame;
  stack = rw (cut o.base cs h.1) (keeps_stack r type cs (take o.base cs) o.base o.node o.frame os (keeps_take o.base cs) s);
  gives = rw (cut o.base cs h.1) h.0;
}
turn_safe r type (sets a x t) o os cs m ns s v h = turn_safe r type t o os (set cs a x) m ns (keeps_stack r type cs (set cs a x) o.base o.node o.frame os (may_keep cs o a x h.0) s) v h.1
turn_safe r type (deals n e t) o os cs m ns s v h = turn_safe r type t o os cs n (e ∷ ns) s v h
turn_safe r type (stops c i) o os cs m ns s v h = tt
turn_safe r type no_turn o os cs m ns s v h = h
