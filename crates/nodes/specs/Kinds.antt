-- The 25 kinds of nodes, by number.
use Rattle.std.specs.Prelude.{ℕ, Bool, cond, ◌&&◌, List, [], ◌∷◌, Some, None, Ok, Err, Option, Result, ◌==◌, nat_le}
use Rattle.nodes.specs.declared.kind.Kind.{Kind}
use Rattle.nodes.specs.declared.kind.UnknownKind.{UnknownKind}
use Rattle.nodes.specs.declared.kind.Kind.TheVariants.{Program, Import, ScalarDeclaration, ArrayDeclaration, Method, Parameter, Block, Assignment, Step, CallStatement, If, For, While, Return, Break, Continue, ScalarLocation, ArrayLocation, Literal, Unary, Cast, Call, Len, Binary, Text}

abbrev pub number : Kind → ℕ
number Program = 1
number Import = 2
number ScalarDeclaration = 3
number ArrayDeclaration = 4
number Method = 5
number Parameter = 6
number Block = 7
number Assignment = 8
number Step = 9
number CallStatement = 10
number If = 11
number For = 12
number While = 13
number Return = 14
number Break = 15
number Continue = 16
number ScalarLocation = 17
number ArrayLocation = 18
number Literal = 19
number Unary = 20
number Cast = 21
number Call = 22
number Len = 23
number Binary = 24
number Text = 25

abbrev pub kinds : List Kind
kinds =
    Program ∷ Import ∷ ScalarDeclaration ∷ ArrayDeclaration ∷ Method ∷ Parameter ∷ Block ∷ Assignment ∷ Step ∷ CallStatement ∷ If ∷ For ∷ While ∷ Return ∷ Break ∷ Continue ∷ ScalarLocation ∷ ArrayLocation ∷ Literal ∷ Unary ∷ Cast ∷ Call ∷ Len ∷ Binary ∷ Text ∷ []

abbrev pub numbered : List Kind → ℕ → Option Kind
numbered [] n = None
numbered (k ∷ ks) n = cond (n == number k) (Some k) (numbered ks n)

-- The kind that has the number.
abbrev pub kind_of : ℕ → Option Kind
kind_of n = numbered kinds n

-- The kind as the answer for a number: where no kind has it, the number is the error.
abbrev pub named : ℕ → Option Kind → Result Kind UnknownKind
named n None = Err (record { 0 = n })
named n (Some k) = Ok k

abbrev pub between : ℕ → ℕ → ℕ → Bool
between low high n = nat_le low n && nat_le n high
