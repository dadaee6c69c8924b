-- What the parts of a turn need to be right, whatever the kind.
use Rattle.std.proofs.Common.{◌≡◌, ℕ, ◌+◌, ◌<◌, Bool, true, false, cond, eqb, List, length, set, ℤ, Some, Option, sym, refl, inl, inr, arith, length-set, Ok, Err, Result}
use Rattle.std.proofs.lemmas.Bool.{true≢false}
use Rattle.std.specs.List.{slice_get}
use Rattle.nodes.specs.declared.kind.Kind.{Kind}
use Rattle.node_rules.specs.declared.types.Ty.{Ty}
use Rattle.node_rules.specs.declared.types.Ty.TheVariants as ty
use Rattle.semantics.specs.Rule.{Rule, node, kind_at}
use Rattle.semantics.specs.Values.{is_of}
use Rattle.semantics.specs.Turns.{Turn, runs, ends, on_value, on_cell, on_end, on_call, on_truth, on_int, on_target, on_left, on_computed, on_some, only_if}
use Rattle.semantics.specs.Acts.{needs, onward}
use Rattle.semantics.specs.declared.value.Value.{Value}
use Rattle.semantics.specs.declared.value.Value.TheVariants.{Int, Long, Bool as Truth, Text}
use Rattle.semantics.specs.declared.value.Misfit.{Misfit}
use Rattle.semantics.specs.declared.value.Misfit.TheVariants.{ZeroDivisor, IllTyped}
use Rattle.semantics.specs.declared.progress.Completion.{Completion}
use Rattle.semantics.specs.declared.progress.Completion.TheVariants.{Ended, Valued, Located, Broke, Continued, Returned}
use Rattle.semantics.specs.declared.progress.Kept.{Kept}
use Rattle.semantics.specs.declared.progress.Kept.TheVariants.{Target, Left}
use Rattle.semantics.specs.declared.progress.Open.{Open}
use Rattle.soundness.specs.Checked.{offset, looped, result, SeesAs, Expression, Location, Inner}
use Rattle.soundness.proofs.Classes.{Class, class_at, IsExpression, IsInner, is_expression, is_cell, is_inner, cell, value, text, simple, ending, nothing}
use Rattle.soundness.proofs.Safe.{Holds, Held, GivesCell, GivesValue, GivesSimple, ReturnFits, GivesEnd, GivesBy, Gives, WaitsBy, LevelBy}
use Rattle.soundness.proofs.Keeping.{keeps_room, cells_higher, Like, keeps_set}
use Rattle.soundness.proofs.Turning.{Stands, Right}
use Rattle.soundness.proofs.Operating.{Computes}

-- Kinds other than blocks and calls take no cells.
pub no_needs : (r : Rule) (i n : ℕ) → kind_at r i ≡ n → eqb n 7 ≡ false → eqb n 22 ≡ false → needs r i ≡ 0
no_needs r i n e f g =
    let a : eqb (kind_at r i) 7 ≡ false = rw e f in
    let b : eqb (kind_at r i) 22 ≡ false = rw e g in
    rw (a, b, needs) refl

pub child_held : (r : Rule) (cs : List Value) (o : Open) (j : ℕ) → SeesAs r o.node j → Stands r cs o → Held r cs (length cs) o.frame j
child_held r cs o j names s d h =
    let u = s.used in
    elim (names d h) [
      | inl a ↦ cells_higher r cs o.base (length cs) o.frame d (omega arith) (s.room.seen d a)
      | inr b ↦ s.room.own d b
    ]

pub expression_level : (c : Class) (r : Rule) (l f j : ℕ) → IsExpression c → LevelBy c r l f j
expression_level cell r l f j h = tt
expression_level value r l f j h = tt
expression_level text r l f j h = tt
expression_level simple r l f j h = absurd h
expression_level ending r l f j h = absurd h
expression_level nothing r l f j h = h

-- An expression, a location or a statement is next.
pub to_expression : (k : Kind) (r : Rule) (type : ℕ → Option Ty) (came : ℕ) (kept : Option Kept) (j : ℕ) (t : Ty) (cs : List Value) (o : Open) → Expression r type o.node j t → Stands r cs o → WaitsBy k r type cs (onward o came kept) j o.frame → Right k r type (runs came kept j) cs o
to_expression k r type came kept j t cs o x s w = (w, child_held r cs o j x.names s, expression_level (class_at r j) r _ _ j (is_expression _ x.is), s)

pub to_location : (k : Kind) (r : Rule) (type : ℕ → Option Ty) (came : ℕ) (kept : Option Kept) (j : ℕ) (t : Ty) (cs : List Value) (o : Open) → Location r type o.node j t → Stands r cs o → WaitsBy k r type cs (onward o came kept) j o.frame → Right k r type (runs came kept j) cs o
to_location k r type came kept j t cs o x s w = (w, child_held r cs o j x.names s, let e = is_cell (node r j).kind x.is in expression_level (class_at r j) r _ _ j (rw e tt), s)

inner_level : (c : Class) (r : Rule) (l f j : ℕ) → IsInner c → l ≡ f + offset r j → LevelBy c r l f j
inner_level cell r l f j h e = tt
inner_level value r l f j h e = tt
inner_level text r l f j h e = tt
inner_level simple r l f j h e = e
inner_level ending r l f j h e = e
inner_level nothing r l f j h e = h

pub to_inner : (k : Kind) (r : Rule) (type : ℕ → Option Ty) (came : ℕ) (kept : Option Kept) (j : ℕ) (cs : List Value) (o : Open) → Inner r o.node j → o.base ≡ o.frame + offset r o.node → Stands r cs o → WaitsBy k r type cs (onward o came kept) j o.frame → Right k r type (runs came kept j) cs o
to_inner k r type came kept j cs o x v s w =
    let u = s.used in
    let b = x.behind in
    let e : length cs ≡ o.frame + offset r j = omega arith in
    (w, child_held r cs o j x.names s, inner_level (class_at r j) r _ _ j (is_inner _ x.is) e, s)

-- An expression gives a value of its type.
value_by : (k : Kind) (c : Class) (r : Rule) (type : ℕ → Option Ty) (l j : ℕ) (t : Ty) (cs : List Value) (o : Open) (e : Completion) (f : Value → Turn) → IsExpression c → type j ≡ Some t → GivesBy c r type cs l j e → ((v : Value) → is_of (Some t) v ≡ true → Right k r type (f v) cs o) → Right k r type (on_value e f) cs o
value_by k cell r type l j t cs o Ended f h y g z = g
value_by k cell r type l j t cs o (Valued v) f h y g z = absurd g
value_by k cell r type l j t cs o (Located a v) f h y g z = z v (rw y at g.2)
value_by k cell r type l j t cs o Broke f h y g z = g
value_by k cell r type l j t cs o Continued f h y g z = g
value_by k cell r type l j t cs o (Returned x) f h y g z = g
value_by k value r type l j t cs o Ended f h y g z = rw y at g
value_by k value r type l j t cs o (Valued v) f h y g z = z v (rw y at g)
value_by k value r type l j t cs o (Located a v) f h y g z = absurd g
value_by k value r type l j t cs o Broke f h y g z = g
value_by k value r type l j t cs o Continued f h y g z = g
value_by k value r type l j t cs o (Returned x) f h y g z = g
value_by k text r type l j t cs o e f h y g z = absurd h
value_by k simple r type l j t cs o e f h y g z = absurd h
value_by k ending r type l j t cs o e f h y g z = absurd h
value_by k nothing r type l j t cs o e f h y g z = absurd h

pub value_right : (k : Kind) (r : Rule) (type : ℕ → Option Ty) (l j : ℕ) (t : Ty) (cs : List Value) (o : Open) (e : Completion) (f : Value → Turn) → Expression r type o.node j t → Gives r type cs l j e → ((v : Value) → is_of (Some t) v ≡ true → Right k r type (f v) cs o) → Right k r type (on_value e f) cs o
value_right k r type l j t cs o e f x g z = value_by k (class_at r j) r type l j t cs o e f (is_expression _ x.is) x.typed g z

-- A location gives a cell of its type.
cell_by : (k : Kind) (r : Rule) (type : ℕ → Option Ty) (l j : ℕ) (t : Ty) (cs : List Value) (o : Open) (e : Completion) (f : ℕ → Value → Turn) → type j ≡ Some t → GivesCell cs l (type j) e → ((a : ℕ) (v : Value) → a < l → Holds cs a (type j) → is_of (Some t) v ≡ true → Right k r type (f a v) cs o) → Right k r type (on_cell e f) cs o
cell_by k r type l j t cs o Ended f y g z = g
cell_by k r type l j t cs o (Valued v) f y g z = g
cell_by k r type l j t cs o (Located a v) f y g z = z a v g.0 g.1 (rw y at g.2)
cell_by k r type l j t cs o Broke f y g z = g
cell_by k r type l j t cs o Continued f y g z = g
cell_by k r type l j t cs o (Returned x) f y g z = g

pub cell_right : (k : Kind) (r : Rule) (type : ℕ → Option Ty) (l j : ℕ) (t : Ty) (cs : List Value) (o : Open) (e : Completion) (f : ℕ → Value → Turn) → Location r type o.node j t → Gives r type cs l j e → ((a : ℕ) (v : Value) → a < l → Holds cs a (type j) → is_of (Some t) v ≡ true → Right k r type (f a v) cs o) → Right k r type (on_cell e f) cs o
cell_right k r type l j t cs o e f x g z = cell_by k r type l j t cs o e f x.typed (rw (is_cell (node r j).kind x.is) at g) z

-- A statement or block ends, breaks, continues or returns.
end_by : (k : Kind) (r : Rule) (type : ℕ → Option Ty) (loop : Bool) (t : Option Ty) (cs : List Value) (o : Open) (e : Completion) (a b c : Turn) → GivesEnd loop t e → Right k r type a cs o → (loop ≡ true → Right k r type b cs o) → (loop ≡ true → Right k r type c cs o) → ((x : Option Value) → ReturnFits t x → Right k r type (ends (Returned x)) cs o) → Right k r type (on_end e a b c) cs o
end_by k r type loop t cs o Ended a b c g p q s u = p
end_by k r type loop t cs o (Valued v) a b c g p q s u = g
end_by k r type loop t cs o (Located d v) a b c g p q s u = g
end_by k r type loop t cs o Broke a b c g p q s u = q g
end_by k r type loop t cs o Continued a b c g p q s u = s g
end_by k r type loop t cs o (Returned x) a b c g p q s u = u x g

pub simple_by : (k : Kind) (r : Rule) (type : ℕ → Option Ty) (cs : List Value) (o : Open) (e : Completion) (a b c : Turn) → GivesSimple e → Right k r type a cs o → Right k r type (on_end e a b c) cs o
simple_by k r type cs o Ended a b c g p = p
simple_by k r type cs o (Valued v) a b c g p = absurd g
simple_by k r type cs o (Located d v) a b c g p = absurd g
simple_by k r type cs o Broke a b c g p = absurd g
simple_by k r type cs o Continued a b c g p = absurd g
simple_by k r type cs o (Returned x) a b c g p = absurd g

inner_by : (k : Kind) (c : Class) (r : Rule) (type : ℕ → Option Ty) (l j : ℕ) (cs : List Value) (o : Open) (e : Completion) (a b d : Turn) → IsInner c → GivesBy c r type cs l j e → Right k r type a cs o → (looped r j ≡ true → Right k r type b cs o) → (looped r j ≡ true → Right k r type d cs o) → ((x : Option Value) → ReturnFits (result r j) x → Right k r type (ends (Returned x)) cs o) → Right k r type (on_end e a b d) cs o
inner_by k cell r type l j cs o e a b d h g p q s u = absurd h
inner_by k value r type l j cs o e a b d h g p q s u = absurd h
inner_by k text r type l j cs o e a b d h g p q s u = absurd h
inner_by k simple r type l j cs o e a b d h g p q s u = simple_by k r type cs o e a b d g p
inner_by k ending r type l j cs o e a b d h g p q s u = end_by k r type (looped r j) (result r j) cs o e a b d g p q s u
inner_by k nothing r type l j cs o e a b d h g p q s u = absurd h

pub end_right : (k : Kind) (r : Rule) (type : ℕ → Option Ty) (l j : ℕ) (cs : List Value) (o : Open) (e : Completion) (a b c : Turn) → Inner r o.node j → Gives r type cs l j e → Right k r type a cs o → (looped r j ≡ true → Right k r type b cs o) → (looped r j ≡ true → Right k r type c cs o) → ((x : Option Value) → ReturnFits (result r o.node) x → Right k r type (ends (Returned x)) cs o) → Right k r type (on_end e a b c) cs o
end_right k r type l j cs o e a b c x g p q s u = inner_by k (class_at r j) r type l j cs o e a b c (is_inner _ x.is) g p q s (λ y h. u y (rw x.gives at h))

-- A condition.
truth_by : (k : Kind) (r : Rule) (type : ℕ → Option Ty) (cs : List Value) (o : Open) (b : Bool) (x y : Turn) → Right k r type x cs o → Right k r type y cs o → Right k r type (cond b x y) cs o
truth_by k r type cs o true x y p q = p
truth_by k r type cs o false x y p q = q

pub truth_right : (k : Kind) (r : Rule) (type : ℕ → Option Ty) (cs : List Value) (o : Open) (v : Value) (x y : Turn) → is_of (Some ty.Bool) v ≡ true → Right k r type x cs o → Right k r type y cs o → Right k r type (on_truth v x y) cs o
truth_right k r type cs o (Int v) x y h p q = absurd (true≢false (sym h))
truth_right k r type cs o (Long v) x y h p q = absurd (true≢false (sym h))
truth_right k r type cs o (Truth b) x y h p q = truth_by k r type cs o b x y p q
truth_right k r type cs o (Text v) x y h p q = absurd (true≢false (sym h))

-- An operator.
pub out_right : (k : Kind) (r : Rule) (type : ℕ → Option Ty) (cs : List Value) (o : Open) (i : ℕ) (t : Option Ty) (p : Result Value Misfit) (f : Value → Turn) → Computes p t → ((v : Value) → is_of t v ≡ true → Right k r type (f v) cs o) → Right k r type (on_computed i p f) cs o
out_right k r type cs o i t (Ok v) f h z = z v h
out_right k r type cs o i t (Err ZeroDivisor) f h z = tt
out_right k r type cs o i t (Err IllTyped) f h z = h

-- A choice by a test.
pub either : (k : Kind) (r : Rule) (type : ℕ → Option Ty) (cs : List Value) (o : Open) (b : Bool) (x y : Turn) → (b ≡ true → Right k r type x cs o) → (b ≡ false → Right k r type y cs o) → Right k r type (elim b [ true ↦ x | false ↦ y ]) cs o
either k r type cs o true x y p q = p refl
either k r type cs o false x y p q = q refl

-- What is kept, and what is there.
pub kept_value_right : (k : Kind) (r : Rule) (type : ℕ → Option Ty) (cs : List Value) (o : Open) (x : Option Kept) (v : Value) (f : Value → Turn) → x ≡ Some (Left v) → Right k r type (f v) cs o → Right k r type (on_left x f) cs o
kept_value_right k r type cs o x v f e h = rw e h

pub kept_cell_right : (k : Kind) (r : Rule) (type : ℕ → Option Ty) (cs : List Value) (o : Open) (x : Option Kept) (a : ℕ) (f : ℕ → Turn) → x ≡ Some (Target a) → Right k r type (f a) cs o → Right k r type (on_target x f) cs o
kept_cell_right k r type cs o x a f e h = rw e h

pub some_right : {A : Type 0} (k : Kind) (r : Rule) (type : ℕ → Option Ty) (cs : List Value) (o : Open) (x : Option A) (a : A) (f : A → Turn) → x ≡ Some a → Right k r type (f a) cs o → Right k r type (on_some x f) cs o
some_right k r type cs o x a f e h = rw e h

pub only_right : (k : Kind) (r : Rule) (type : ℕ → Option Ty) (cs : List Value) (o : Open) (b : Bool) (t : Turn) → b ≡ true → Right k r type t cs o → Right k r type (only_if b t) cs o
only_right k r type cs o b t e h = rw e h

pub int_right : (k : Kind) (r : Rule) (type : ℕ → Option Ty) (cs : List Value) (o : Open) (v : Value) (f : ℤ → Turn) → is_of (Some ty.Int) v ≡ true → ((x : ℤ) → Right k r type (f x) cs o) → Right k r type (on_int v f) cs o
int_right k r type cs o (Int x) f h z = z x
int_right k r type cs o (Long x) f h z = absurd (true≢false (sym h))
int_right k r type cs o (Truth x) f h z = absurd (true≢false (sym h))
int_right k r type cs o (Text x) f h z = absurd (true≢false (sym h))

any_by : (k : Kind) (r : Rule) (type : ℕ → Option Ty) (t : Option Ty) (cs : List Value) (o : Open) (e : Completion) (x : Turn) → GivesValue t e → Right k r type x cs o → Right k r type (on_call e x) cs o
any_by k r type t cs o Ended x g h = h
any_by k r type t cs o (Valued v) x g h = h
any_by k r type t cs o (Located a v) x g h = absurd g
any_by k r type t cs o Broke x g h = absurd g
any_by k r type t cs o Continued x g h = absurd g
any_by k r type t cs o (Returned y) x g h = absurd g

pub any_right : (k : Kind) (r : Rule) (type : ℕ → Option Ty) (l j : ℕ) (cs : List Value) (o : Open) (e : Completion) (x : Turn) → class_at r j ≡ value → Gives r type cs l j e → Right k r type x cs o → Right k r type (on_call e x) cs o
any_right k r type l j cs o e x c g h = any_by k r type (type j) cs o e x (rw c at g) h

-- An open node stands as it did when a cell is set to a value of its type.
pub stands_set : (r : Rule) (cs : List Value) (o : Open) (a : ℕ) (u v : Value) → slice_get cs a ≡ Some u → Like u v → Stands r cs o → Stands r (set cs a v) o
stands_set r cs o a u v e like s =
    let n = length-set cs a v in
    let w = s.used in
    record {
      room = rw length-set (keeps_room r cs (set cs a v) o.base (length cs) o.frame o.node (omega arith) (keeps_set (length cs) cs a u v e like) s.room);
      used = omega arith;
    }
