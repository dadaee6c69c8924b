-- What a node of each kind can give.
use Rattle.std.proofs.Common.{◌≡◌, ℕ, Bool, true, false, sym, refl, arith}
use Rattle.std.proofs.lemmas.Bool.{true≢false}
use Rattle.nodes.specs.Kinds.{number, between}
use Rattle.nodes.specs.declared.kind.Kind.{Kind}
use Rattle.nodes.specs.declared.kind.Kind.TheVariants as kind
use Rattle.semantics.specs.Rule.{Rule, node}

-- What a node of a kind can give: a cell, a value, a text, only an end, or an end, a break, a continue or a return.
pub data Class : Type 0 where
  cell value text simple ending nothing : Class

abbrev pub class : Kind → Class
class kind.Program = nothing
class kind.Import = nothing
class kind.ScalarDeclaration = nothing
class kind.ArrayDeclaration = nothing
class kind.Method = nothing
class kind.Parameter = nothing
class kind.Block = ending
class kind.Assignment = simple
class kind.Step = simple
class kind.CallStatement = ending
class kind.If = ending
class kind.For = ending
class kind.While = ending
class kind.Return = ending
class kind.Break = ending
class kind.Continue = ending
class kind.ScalarLocation = cell
class kind.ArrayLocation = cell
class kind.Literal = value
class kind.Unary = value
class kind.Cast = value
class kind.Call = value
class kind.Len = value
class kind.Binary = value
class kind.Text = text

abbrev pub class_at : Rule → ℕ → Class
class_at r j = class (node r j).kind

abbrev pub IsExpression : Class → Type 0
IsExpression cell = Unit {0}
IsExpression value = Unit {0}
IsExpression text = ⊥
IsExpression simple = ⊥
IsExpression ending = ⊥
IsExpression nothing = ⊥

-- A statement or a block.
abbrev pub IsInner : Class → Type 0
IsInner cell = ⊥
IsInner value = ⊥
IsInner text = ⊥
IsInner simple = Unit {0}
IsInner ending = Unit {0}
IsInner nothing = ⊥

-- ── By the numbers of kinds ──

pub no : {A : Type 0} → ◌≡◌ {A = Bool} false true → A
no h = absurd (true≢false (sym h))

pub is_expression : (k : Kind) → between 17 24 (number k) ≡ true → IsExpression (class k)
is_expression kind.Program h = no h
is_expression kind.Import h = no h
is_expression kind.ScalarDeclaration h = no h
is_expression kind.ArrayDeclaration h = no h
is_expression kind.Method h = no h
is_expression kind.Parameter h = no h
is_expression kind.Block h = no h
is_expression kind.Assignment h = no h
is_expression kind.Step h = no h
is_expression kind.CallStatement h = no h
is_expression kind.If h = no h
is_expression kind.For h = no h
is_expression kind.While h = no h
is_expression kind.Return h = no h
is_expression kind.Break h = no h
is_expression kind.Continue h = no h
is_expression kind.ScalarLocation h = tt
is_expression kind.ArrayLocation h = tt
is_expression kind.Literal h = tt
is_expression kind.Unary h = tt
is_expression kind.Cast h = tt
is_expression kind.Call h = tt
is_expression kind.Len h = tt
is_expression kind.Binary h = tt
is_expression kind.Text h = no h

pub is_cell : (k : Kind) → between 17 18 (number k) ≡ true → class k ≡ cell
is_cell kind.Program h = no h
is_cell kind.Import h = no h
is_cell kind.ScalarDeclaration h = no h
is_cell kind.ArrayDeclaration h = no h
is_cell kind.Method h = no h
is_cell kind.Parameter h = no h
is_cell kind.Block h = no h
is_cell kind.Assignment h = no h
is_cell kind.Step h = no h
is_cell kind.CallStatement h = no h
is_cell kind.If h = no h
is_cell kind.For h = no h
is_cell kind.While h = no h
is_cell kind.Return h = no h
is_cell kind.Break h = no h
is_cell kind.Continue h = no h
is_cell kind.ScalarLocation h = refl
is_cell kind.ArrayLocation h = refl
is_cell kind.Literal h = no h
is_cell kind.Unary h = no h
is_cell kind.Cast h = no h
is_cell kind.Call h = no h
is_cell kind.Len h = no h
is_cell kind.Binary h = no h
is_cell kind.Text h = no h

pub is_inner : (k : Kind) → between 7 16 (number k) ≡ true → IsInner (class k)
is_inner kind.Program h = no h
is_inner kind.Import h = no h
is_inner kind.ScalarDeclaration h = no h
is_inner kind.ArrayDeclaration h = no h
is_inner kind.Method h = no h
is_inner kind.Parameter h = no h
is_inner kind.Block h = tt
is_inner kind.Assignment h = tt
is_inner kind.Step h = tt
is_inner kind.CallStatement h = tt
is_inner kind.If h = tt
is_inner kind.For h = tt
is_inner kind.While h = tt
is_inner kind.Return h = tt
is_inner kind.Break h = tt
is_inner kind.Continue h = tt
is_inner kind.ScalarLocation h = no h
is_inner kind.ArrayLocation h = no h
is_inner kind.Literal h = no h
is_inner kind.Unary h = no h
is_inner kind.Cast h = no h
is_inner kind.Call h = no h
is_inner kind.Len h = no h
is_inner kind.Binary h = no h
is_inner kind.Text h = no h

pub is_simple : (k : Kind) → between 8 9 (number k) ≡ true → class k ≡ simple
is_simple kind.Program h = no h
is_simple kind.Import h = no h
is_simple kind.ScalarDeclaration h = no h
is_simple kind.ArrayDeclaration h = no h
is_simple kind.Method h = no h
is_simple kind.Parameter h = no h
is_simple kind.Block h = no h
is_simple kind.Assignment h = refl
is_simple kind.Step h = refl
is_simple kind.CallStatement h = no h
is_simple kind.If h = no h
is_simple kind.For h = no h
is_simple kind.While h = no h
is_simple kind.Return h = no h
is_simple kind.Break h = no h
is_simple kind.Continue h = no h
is_simple kind.ScalarLocation h = no h
is_simple kind.ArrayLocation h = no h
is_simple kind.Literal h = no h
is_simple kind.Unary h = no h
is_simple kind.Cast h = no h
is_simple kind.Call h = no h
is_simple kind.Len h = no h
is_simple kind.Binary h = no h
is_simple kind.Text h = no h

pub is_block : (k : Kind) → number k ≡ 7 → k ≡ kind.Block
is_block kind.Program h = absurd (omega arith)
is_block kind.Import h = absurd (omega arith)
is_block kind.ScalarDeclaration h = absurd (omega arith)
is_block kind.ArrayDeclaration h = absurd (omega arith)
is_block kind.Method h = absurd (omega arith)
is_block kind.Parameter h = absurd (omega arith)
is_block kind.Block h = refl
is_block kind.Assignment h = absurd (omega arith)
is_block kind.Step h = absurd (omega arith)
is_block kind.CallStatement h = absurd (omega arith)
is_block kind.If h = absurd (omega arith)
is_block kind.For h = absurd (omega arith)
is_block kind.While h = absurd (omega arith)
is_block kind.Return h = absurd (omega arith)
is_block kind.Break h = absurd (omega arith)
is_block kind.Continue h = absurd (omega arith)
is_block kind.ScalarLocation h = absurd (omega arith)
is_block kind.ArrayLocation h = absurd (omega arith)
is_block kind.Literal h = absurd (omega arith)
is_block kind.Unary h = absurd (omega arith)
is_block kind.Cast h = absurd (omega arith)
is_block kind.Call h = absurd (omega arith)
is_block kind.Len h = absurd (omega arith)
is_block kind.Binary h = absurd (omega arith)
is_block kind.Text h = absurd (omega arith)

pub is_call : (k : Kind) → number k ≡ 22 → k ≡ kind.Call
is_call kind.Program h = absurd (omega arith)
is_call kind.Import h = absurd (omega arith)
is_call kind.ScalarDeclaration h = absurd (omega arith)
is_call kind.ArrayDeclaration h = absurd (omega arith)
is_call kind.Method h = absurd (omega arith)
is_call kind.Parameter h = absurd (omega arith)
is_call kind.Block h = absurd (omega arith)
is_call kind.Assignment h = absurd (omega arith)
is_call kind.Step h = absurd (omega arith)
is_call kind.CallStatement h = absurd (omega arith)
is_call kind.If h = absurd (omega arith)
is_call kind.For h = absurd (omega arith)
is_call kind.While h = absurd (omega arith)
is_call kind.Return h = absurd (omega arith)
is_call kind.Break h = absurd (omega arith)
is_call kind.Continue h = absurd (omega arith)
is_call kind.ScalarLocation h = absurd (omega arith)
is_call kind.ArrayLocation h = absurd (omega arith)
is_call kind.Literal h = absurd (omega arith)
is_call kind.Unary h = absurd (omega arith)
is_call kind.Cast h = absurd (omega arith)
is_call kind.Call h = refl
is_call kind.Len h = absurd (omega arith)
is_call kind.Binary h = absurd (omega arith)
is_call kind.Text h = absurd (omega arith)

pub is_text : (k : Kind) → number k ≡ 25 → k ≡ kind.Text
is_text kind.Program h = absurd (omega arith)
is_text kind.Import h = absurd (omega arith)
is_text kind.ScalarDeclaration h = absurd (omega arith)
is_text kind.ArrayDeclaration h = absurd (omega arith)
is_text kind.Method h = absurd (omega arith)
is_text kind.Parameter h = absurd (omega arith)
is_text kind.Block h = absurd (omega arith)
is_text kind.Assignment h = absurd (omega arith)
is_text kind.Step h = absurd (omega arith)
is_text kind.CallStatement h = absurd (omega arith)
is_text kind.If h = absurd (omega arith)
is_text kind.For h = absurd (omega arith)
is_text kind.While h = absurd (omega arith)
is_text kind.Return h = absurd (omega arith)
is_text kind.Break h = absurd (omega arith)
is_text kind.Continue h = absurd (omega arith)
is_text kind.ScalarLocation h = absurd (omega arith)
is_text kind.ArrayLocation h = absurd (omega arith)
is_text kind.Literal h = absurd (omega arith)
is_text kind.Unary h = absurd (omega arith)
is_text kind.Cast h = absurd (omega arith)
is_text kind.Call h = absurd (omega arith)
is_text kind.Len h = absurd (omega arith)
is_text kind.Binary h = absurd (omega arith)
is_text kind.Text h = refl
