-- What keeps a rule under way from being stuck: local conditions on each open node, its cells and what it waits for.
use Rattle.std.proofs.Common.{◌≡◌, ℕ, suc, ◌+◌, ◌<◌, ◌≤◌, Bool, true, ◌⊎◌, List, [], ◌∷◌, length, Some, None, Option}
use Rattle.std.specs.List.{slice_get}
use Rattle.nodes.specs.declared.kind.Kind.{Kind}
use Rattle.nodes.specs.declared.kind.Kind.TheVariants as kind
use Rattle.node_rules.specs.Scopes.{body, cells_of, meant}
use Rattle.node_rules.specs.Types.{tagged}
use Rattle.node_rules.specs.declared.types.Ty.{Ty}
use Rattle.semantics.specs.Rule.{Rule, node, kind_at, child, has, first_statement, parameters, address}
use Rattle.semantics.specs.Values.{is_of}
use Rattle.semantics.specs.Acts.{State, Next, begins, hindered, moves, halts, finished, stuck, needs, first_came}
use Rattle.semantics.specs.declared.value.Value.{Value}
use Rattle.semantics.specs.declared.value.Value.TheVariants.{Text}
use Rattle.semantics.specs.declared.progress.Completion.{Completion}
use Rattle.semantics.specs.declared.progress.Completion.TheVariants.{Ended, Valued, Located, Broke, Continued, Returned}
use Rattle.semantics.specs.declared.progress.Kept.TheVariants.{Target, Left}
use Rattle.semantics.specs.declared.progress.Open.{Open}
use Rattle.semantics.specs.declared.progress.Pending.{Pending}
use Rattle.semantics.specs.declared.progress.Pending.TheVariants.{Begin, Begun, Given}
use Rattle.soundness.specs.Checked.{sees, offset, looped, result, Own, main_body}
use Rattle.soundness.proofs.Classes.{Class, class_at, cell, value, text, simple, ending, nothing}

-- ── Words about cells ──

-- Cell a holds a value of type t.
pub record Holds (cells : List Value) (a : ℕ) (t : Option Ty) : Type 0 where
  pub held : Value
  pub there : slice_get cells a ≡ Some held
  pub typed : is_of t held ≡ true

-- Every cell of the variable d, of a call whose first cell is f, is below l and holds a value of the variable's type.
abbrev pub KeptCells : Rule → List Value → ℕ → ℕ → ℕ → Type 0
KeptCells r cells l f d = (x : ℕ) → x < cells_of (node r d) → (address r f d + x < l) × Holds cells (address r f d + x) (tagged (node r d).tag)

-- All variables that node i sees have their cells.
abbrev pub Held : Rule → List Value → ℕ → ℕ → ℕ → Type 0
Held r cells l f i = (d : ℕ) → sees r i d ≡ true → KeptCells r cells l f d

-- So have all that the children of the open node i see, whose own cells are from b to l.
pub record Room (r : Rule) (cells : List Value) (b l f i : ℕ) : Type 0 where
  pub seen : Held r cells b f i
  pub own : (d : ℕ) → Own r i d → KeptCells r cells l f d

-- ── What a child may give ──

abbrev pub GivesCell : List Value → ℕ → Option Ty → Completion → Type 0
GivesCell cells l t Ended = ⊥
GivesCell cells l t (Valued v) = ⊥
GivesCell cells l t (Located a v) = (a < l) × Holds cells a t × (is_of t v ≡ true)
GivesCell cells l t Broke = ⊥
GivesCell cells l t Continued = ⊥
GivesCell cells l t (Returned x) = ⊥

-- A call of a void method has no type, and only ends.
abbrev pub GivesValue : Option Ty → Completion → Type 0
GivesValue None Ended = Unit {0}
GivesValue (Some t) Ended = ⊥
GivesValue t (Valued v) = is_of t v ≡ true
GivesValue t (Located a v) = ⊥
GivesValue t Broke = ⊥
GivesValue t Continued = ⊥
GivesValue t (Returned x) = ⊥

abbrev pub GivesText : Completion → Type 0
GivesText Ended = ⊥
GivesText (Valued v) = (t : ℕ) × (v ≡ Text t)
GivesText (Located a v) = ⊥
GivesText Broke = ⊥
GivesText Continued = ⊥
GivesText (Returned x) = ⊥

abbrev pub GivesSimple : Completion → Type 0
GivesSimple Ended = Unit {0}
GivesSimple (Valued v) = ⊥
GivesSimple (Located a v) = ⊥
GivesSimple Broke = ⊥
GivesSimple Continued = ⊥
GivesSimple (Returned x) = ⊥

abbrev pub ReturnFits : Option Ty → Option Value → Type 0
ReturnFits None None = Unit {0}
ReturnFits None (Some v) = ⊥
ReturnFits (Some t) None = ⊥
ReturnFits (Some t) (Some v) = is_of (Some t) v ≡ true

abbrev pub GivesEnd : Bool → Option Ty → Completion → Type 0
GivesEnd loop t Ended = Unit {0}
GivesEnd loop t (Valued v) = ⊥
GivesEnd loop t (Located a v) = ⊥
GivesEnd loop t Broke = loop ≡ true
GivesEnd loop t Continued = loop ≡ true
GivesEnd loop t (Returned x) = ReturnFits t x

abbrev pub GivesBy : Class → Rule → (ℕ → Option Ty) → List Value → ℕ → ℕ → Completion → Type 0
GivesBy cell r type cells l j e = GivesCell cells l (type j) e
GivesBy value r type cells l j e = GivesValue (type j) e
GivesBy text r type cells l j e = GivesText e
GivesBy simple r type cells l j e = GivesSimple e
GivesBy ending r type cells l j e = GivesEnd (looped r j) (result r j) e
GivesBy nothing r type cells l j e = ⊥

-- Node j may give e, with l cells in use.
abbrev pub Gives : Rule → (ℕ → Option Ty) → List Value → ℕ → ℕ → Completion → Type 0
Gives r type cells l j e = GivesBy (class_at r j) r type cells l j e

-- ── How an open node waits for its child j ──

abbrev pub At : Rule → Open → ℕ → ℕ → ℕ → Type 0
At r o j came k = (o.came ≡ came) × (j ≡ child r o.node k)

pub record WaitsStored (r : Rule) (type : ℕ → Option Ty) (cells : List Value) (o : Open) (j : ℕ) : Type 0 where
  pub at : At r o j 2 1
  pub target : ℕ
  pub kept : o.kept ≡ Some (Target target)
  pub low : target < o.base
  pub holds : Holds cells target (type (child r o.node 0))

pub record WaitsRight (r : Rule) (type : ℕ → Option Ty) (o : Open) (j : ℕ) : Type 0 where
  pub at : At r o j 2 1
  pub left : Value
  pub kept : o.kept ≡ Some (Left left)
  pub typed : is_of (type (child r o.node 0)) left ≡ true

pub record WaitsItem (r : Rule) (o : Open) (j k : ℕ) : Type 0 where
  pub came : o.came ≡ k + 1
  pub has : has r o.node k ≡ true
  pub child : j ≡ child r o.node k

-- A block waits for one of its statements, and has come to the next.
pub record WaitsStatement (r : Rule) (o : Open) (j : ℕ) : Type 0 where
  pub index : ℕ
  pub came : o.came ≡ child r o.node (suc index)
  pub has : has r o.node index ≡ true
  pub child : j ≡ child r o.node index
  pub behind : first_statement r o.node ≤ j

-- Cell a holds a value for this parameter.
abbrev pub FilledBy : Rule → Option ℕ → List Value → ℕ → Type 0
FilledBy r None cells a = ⊥
FilledBy r (Some p) cells a = Holds cells a (tagged (node r p).tag)

-- A call waits for an argument; of a method, those before it are there.
pub record WaitsArgument (r : Rule) (cells : List Value) (o : Open) (j : ℕ) : Type 0 where
  pub index : ℕ
  pub item : WaitsItem r o j index
  pub few : index < 6
  pub inside : index < needs r o.node
  pub filled : (d : ℕ) → meant r.nodes o.node ≡ Some d → kind_at r d ≡ 5 → (q : ℕ) → q < index → FilledBy r (slice_get (parameters r d) q) cells (o.base + q)

-- Or for the body of its method, whose frame is the call's cells.
pub record WaitsBody (r : Rule) (o : Open) (j f : ℕ) : Type 0 where
  pub came : o.came ≡ 7
  pub method : ℕ
  pub meant : meant r.nodes o.node ≡ Some method
  pub is_method : kind_at r method ≡ 5
  pub body : j ≡ body r.nodes method
  pub frame : f ≡ o.base

abbrev pub WaitsBy : Kind → Rule → (ℕ → Option Ty) → List Value → Open → ℕ → ℕ → Type 0
WaitsBy kind.Program r type cells o j f = ⊥
WaitsBy kind.Import r type cells o j f = ⊥
WaitsBy kind.ScalarDeclaration r type cells o j f = ⊥
WaitsBy kind.ArrayDeclaration r type cells o j f = ⊥
WaitsBy kind.Method r type cells o j f = ⊥
WaitsBy kind.Parameter r type cells o j f = ⊥
WaitsBy kind.Block r type cells o j f = WaitsStatement r o j × (f ≡ o.frame)
WaitsBy kind.Assignment r type cells o j f = (At r o j 1 0 ⊎ WaitsStored r type cells o j) × (f ≡ o.frame)
WaitsBy kind.Step r type cells o j f = At r o j 1 0 × (f ≡ o.frame)
WaitsBy kind.CallStatement r type cells o j f = At r o j 1 0 × (f ≡ o.frame)
WaitsBy kind.If r type cells o j f = (At r o j 1 0 ⊎ (At r o j 2 1 ⊎ (At r o j 2 2 × (has r o.node 2 ≡ true)))) × (f ≡ o.frame)
WaitsBy kind.For r type cells o j f = ((At r o j 1 0 ⊎ At r o j 2 1) ⊎ (At r o j 3 3 ⊎ At r o j 4 2)) × (f ≡ o.frame)
WaitsBy kind.While r type cells o j f = (At r o j 1 0 ⊎ At r o j 2 1) × (f ≡ o.frame)
WaitsBy kind.Return r type cells o j f = (At r o j 1 0 × (has r o.node 0 ≡ true)) × (f ≡ o.frame)
WaitsBy kind.Break r type cells o j f = ⊥
WaitsBy kind.Continue r type cells o j f = ⊥
WaitsBy kind.ScalarLocation r type cells o j f = ⊥
WaitsBy kind.ArrayLocation r type cells o j f = At r o j 1 0 × (f ≡ o.frame)
WaitsBy kind.Literal r type cells o j f = ⊥
WaitsBy kind.Unary r type cells o j f = At r o j 1 0 × (f ≡ o.frame)
WaitsBy kind.Cast r type cells o j f = At r o j 1 0 × (f ≡ o.frame)
WaitsBy kind.Call r type cells o j f = (WaitsArgument r cells o j × (f ≡ o.frame)) ⊎ WaitsBody r o j f
WaitsBy kind.Len r type cells o j f = ⊥
WaitsBy kind.Binary r type cells o j f = (At r o j 1 0 ⊎ WaitsRight r type o j) × (f ≡ o.frame)
WaitsBy kind.Text r type cells o j f = ⊥

abbrev pub Waits : Rule → (ℕ → Option Ty) → List Value → Open → ℕ → ℕ → Type 0
Waits r type cells o j f = WaitsBy (node r o.node).kind r type cells o j f

-- ── The state ──

-- A statement or block has its cells right behind those of the variables that it sees.
abbrev pub LevelBy : Class → Rule → ℕ → ℕ → ℕ → Type 0
LevelBy cell r l f j = Unit {0}
LevelBy value r l f j = Unit {0}
LevelBy text r l f j = Unit {0}
LevelBy simple r l f j = l ≡ f + offset r j
LevelBy ending r l f j = l ≡ f + offset r j
LevelBy nothing r l f j = ⊥

abbrev pub Level : Rule → ℕ → ℕ → ℕ → Type 0
Level r l f j = LevelBy (class_at r j) r l f j

-- An open node that waits for j, with l cells in use below j, and the rest of them, as far as S says.
pub record Link (r : Rule) (type : ℕ → Option Ty) (cells : List Value) (l j f : ℕ) (o : Open) (S : Type 0) : Type 0 where
  pub waits : Waits r type cells o j f
  pub room : Room r cells o.base l o.frame o.node
  pub used : l ≡ o.base + needs r o.node
  pub level : Level r o.base o.frame o.node
  pub rest : S

-- The open nodes, the innermost of which waits for node j whose names have their cells from f on.
abbrev pub Stack : Rule → (ℕ → Option Ty) → List Value → ℕ → ℕ → ℕ → List Open → Type 0
Stack r type cells l j f [] = j ≡ main_body r
Stack r type cells l j f (o ∷ os) = Link r type cells l j f o (Stack r type cells o.base o.node o.frame os)

pub record Ready (r : Rule) (type : ℕ → Option Ty) (s : State) (j f : ℕ) : Type 0 where
  pub stack : Stack r type s.cells (length s.cells) j f s.opens
  pub held : Held r s.cells (length s.cells) f j
  pub level : Level r (length s.cells) f j

pub record Fresh (r : Rule) (type : ℕ → Option Ty) (cells : List Value) (o : Open) (os : List Open) : Type 0 where
  pub stack : Stack r type cells o.base o.node o.frame os
  pub came : o.came ≡ first_came r o.node
  pub room : Room r cells o.base (length cells) o.frame o.node
  pub used : length cells ≡ o.base + needs r o.node
  pub level : Level r o.base o.frame o.node

pub record Told (r : Rule) (type : ℕ → Option Ty) (s : State) (e : Completion) : Type 0 where
  pub child : ℕ
  pub frame : ℕ
  pub stack : Stack r type s.cells (length s.cells) child frame s.opens
  pub gives : Gives r type s.cells (length s.cells) child e

abbrev pub FreshOf : Rule → (ℕ → Option Ty) → List Value → List Open → Type 0
FreshOf r type cells [] = ⊥
FreshOf r type cells (o ∷ os) = Fresh r type cells o os

abbrev pub SafeBy : Pending → Rule → (ℕ → Option Ty) → State → Type 0
SafeBy (Begin j f) r type s = Ready r type s j f
SafeBy Begun r type s = FreshOf r type s.cells s.opens
SafeBy (Given e) r type s = Told r type s e

-- A state that a checked rule may be in.
abbrev pub Safe : Rule → (ℕ → Option Ty) → State → Type 0
Safe r type s = SafeBy s.pending r type s

-- There is a next act, and it leads to such a state.
abbrev pub Sound : Rule → (ℕ → Option Ty) → Next → Type 0
Sound r type (begins t) = Safe r type t
Sound r type (hindered f) = Unit {0}
Sound r type (moves t n e) = Safe r type t
Sound r type (halts f) = Unit {0}
Sound r type finished = Unit {0}
Sound r type stuck = ⊥
