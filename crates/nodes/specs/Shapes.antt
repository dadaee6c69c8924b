-- Which children a node has, by its kind: a row of slots, each for one class of kinds.
--
-- A slot takes one child, or one at most, or any number. Children fill the slots in order: a child goes into the first
-- open slot of its class, and the slots that it passes over must not ask for one.
use Rattle.std.specs.Prelude.{◌≡◌, ℕ, ◌≤◌, Bool, true, false, cond, not, ◌&&◌, List, [], ◌∷◌, ◌++◌, length, Some, None, Option, ◌==◌}
use Rattle.nodes.specs.Kinds.{between}
use Rattle.nodes.specs.declared.kind.Kind.{Kind}
use Rattle.nodes.specs.declared.kind.Kind.TheVariants.{Program, Import, ScalarDeclaration, ArrayDeclaration, Method, Parameter, Block, Assignment, Step, CallStatement, If, For, While, Return, Break, Continue, ScalarLocation, ArrayLocation, Literal, Unary, Cast, Call, Len, Binary, Text}
use Rattle.nodes.specs.declared.shape.Class.{Class}
use Rattle.nodes.specs.declared.shape.Class.TheVariants as class
use Rattle.nodes.specs.declared.shape.Times.{Times}
use Rattle.nodes.specs.declared.shape.Times.TheVariants as times
use Rattle.nodes.specs.declared.shape.Slot.{Slot}

-- Whether a kind, by its number, is of the class.
abbrev pub of_class : Class → ℕ → Bool
of_class class.Import n = n == 2
of_class class.Declaration n = between 3 4 n
of_class class.Method n = n == 5
of_class class.Parameter n = n == 6
of_class class.Block n = n == 7
of_class class.Statement n = between 8 16 n
of_class class.Update n = between 8 9 n
of_class class.Location n = between 17 18 n
of_class class.Expression n = between 17 24 n
of_class class.Call n = n == 22
of_class class.Argument n = between 17 25 n

abbrev pub one : Class → Slot
one c = record { class = c; times = times.One }

abbrev pub perhaps : Class → Slot
perhaps c = record { class = c; times = times.Perhaps }

abbrev pub many : Class → Slot
many c = record { class = c; times = times.Many }

abbrev pub shape : Kind → List Slot
shape Program = many class.Import ∷ many class.Declaration ∷ many class.Method ∷ []
shape Import = []
shape ScalarDeclaration = []
shape ArrayDeclaration = []
shape Method = many class.Parameter ∷ one class.Block ∷ []
shape Parameter = []
shape Block = many class.Declaration ∷ many class.Statement ∷ []
shape Assignment = one class.Location ∷ one class.Expression ∷ []
shape Step = one class.Location ∷ []
shape CallStatement = one class.Call ∷ []
shape If = one class.Expression ∷ one class.Block ∷ perhaps class.Block ∷ []
shape For = one class.Expression ∷ one class.Expression ∷ one class.Update ∷ one class.Block ∷ []
shape While = one class.Expression ∷ one class.Block ∷ []
shape Return = perhaps class.Expression ∷ []
shape Break = []
shape Continue = []
shape ScalarLocation = []
shape ArrayLocation = one class.Expression ∷ []
shape Literal = []
shape Unary = one class.Expression ∷ []
shape Cast = one class.Expression ∷ []
shape Call =
    perhaps class.Argument
    ∷ perhaps class.Argument
    ∷ perhaps class.Argument
    ∷ perhaps class.Argument
    ∷ perhaps class.Argument
    ∷ perhaps class.Argument
    ∷ []
shape Len = []
shape Binary = one class.Expression ∷ one class.Expression ∷ []
shape Text = []

-- A slot that has taken a child and takes another.
abbrev pub again : Times → Bool
again times.One = false
again times.Perhaps = false
again times.Many = true

-- A slot that asks for a child.
abbrev pub asks : Times → Bool
asks times.One = true
asks times.Perhaps = false
asks times.Many = false

-- The slots that are left when a child of the kind with this number has gone into one; none where it fits nowhere.
abbrev pub filled : List Slot → ℕ → Option (List Slot)
filled [] k = None
filled (s ∷ rest) k =
    cond (of_class s.class k) (Some (cond (again s.times) (s ∷ rest) rest)) (cond (asks s.times) None (filled rest k))

-- No slot that is left asks for a child.
abbrev pub satisfied : List Slot → Bool
satisfied [] = true
satisfied (s ∷ rest) = not (asks s.times) && satisfied rest

-- Children of these kinds, by number, fill the slots.
abbrev pub fill : Option (List Slot) → List ℕ → Bool
fill None ks = false
fill (Some slots) [] = satisfied slots
fill (Some slots) (k ∷ ks) = fill (filled slots k) ks

abbrev pub every : (ℕ → Bool) → List ℕ → Bool
every test [] = true
every test (k ∷ ks) = test k && every test ks

-- As many children as a slot may take.
abbrev pub Fitting : Times → ℕ → Type 0
Fitting times.One n = n ≡ 1
Fitting times.Perhaps n = n ≤ 1
Fitting times.Many n = Unit {0}

-- What filling comes to: the children are one run for each slot, in the order of the slots, each run of the slot's class and as long
-- as the slot may take.
abbrev pub Arranged : List Slot → List ℕ → Type 0
Arranged [] ks = ks ≡ []
Arranged (s ∷ rest) ks =
    (run : List ℕ)
    × ((later : List ℕ)
    × ((ks ≡ run ++ later)
    × ((every (of_class s.class) run ≡ true) × (Fitting s.times (length run) × Arranged rest later))))
