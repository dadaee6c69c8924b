-- What each kind of node does: when it has begun, and with what its children give.
--
-- A location gives its cell together with what that holds, and so need not know whether it will be stored to. An assignment looks at its
-- old value only when it stores. Break, continue and return end one open node after another, each in an act of its own, until they come to
-- their loop or call.
use Rattle.std.specs.Prelude.{ℕ, ◌+◌, ◌-◌, Bool, true, false, ◌&&◌, List, length, drop, ℤ, pos, negsuc, Some, None, Option, ◌==◌, nat_lt, slice_set}
use Rattle.std.specs.List.{slice_get}
use Rattle.book.specs.Meanings.{Meaning}
use Rattle.nodes.specs.declared.kind.Kind.{Kind}
use Rattle.nodes.specs.declared.kind.Kind.TheVariants as kind
use Rattle.node_rules.specs.Scopes.{meant, body, cells_of, natural}
use Rattle.node_rules.specs.Types.{tagged}
use Rattle.node_rules.specs.declared.types.Ty.{Ty}
use Rattle.semantics.specs.Rule.{Rule, node, kind_at, end, child, has, parameters, address, name_of}
use Rattle.semantics.specs.Values.{is_of, literal, operator, by_operator, inverted, converted, stepped, assigned}
use Rattle.semantics.specs.Turns.{Turn, runs, enters, ends, sets, stops, no_turn, on_value, on_cell, on_end, on_call, on_truth, on_int, on_target, on_left, on_computed, on_some, only_if}
use Rattle.semantics.specs.Imports.{import_of, import_turn}
use Rattle.semantics.specs.declared.value.Value.{Value}
use Rattle.semantics.specs.declared.value.Value.TheVariants.{Int, Bool as Truth, Text}
use Rattle.semantics.specs.declared.value.Operator.{Operator}
use Rattle.semantics.specs.declared.value.Operator.TheVariants.{Add, Subtract, Multiply, Divide, Remainder, Less, Greater, AtMost, AtLeast, Equal, NotEqual, And, Or}
use Rattle.semantics.specs.declared.progress.Completion.{Completion}
use Rattle.semantics.specs.declared.progress.Completion.TheVariants.{Ended, Valued, Located, Broke, Continued, Returned}
use Rattle.semantics.specs.declared.progress.Kept.TheVariants.{Target, Left}
use Rattle.semantics.specs.declared.progress.Open.{Open}
use Rattle.semantics.specs.declared.stop.Stop.TheVariants as stop

-- What the open node's name means there.
abbrev pub means : Rule → Open → Option ℕ
means r o = meant r.nodes o.node

-- Child k is next to begin, and so far the open node has come.
abbrev pub to_child : Rule → Open → ℕ → ℕ → Turn
to_child r o came k = runs came None (child r o.node k)

-- The cell of the scalar or parameter d, and what it holds.
abbrev pub scalar_turn : Rule → Open → List Value → ℕ → (ℕ → Value → Turn) → Turn
scalar_turn r o cells d f =
    let a = address r o.frame d in
    elim (kind_at r d == 3) [
      | true ↦ on_some (slice_get cells a) (f a)
      | false ↦ only_if (kind_at r d == 6) (on_some (slice_get cells a) (f a))
    ]

-- The cell of element x of the array d; where there is no such element the run stops at the location.
abbrev pub element_turn : Rule → Open → List Value → ℕ → ℤ → Turn
element_turn r o cells d (negsuc x) = only_if (kind_at r d == 4) (stops stop.Index o.node)
element_turn r o cells d (pos x) =
    let a = address r o.frame d + x in
    only_if (kind_at r d == 4) (elim (nat_lt x (cells_of (node r d))) [
      | true ↦ on_some (slice_get cells a) (λ v. ends (Located a v))
      | false ↦ stops stop.Index o.node
    ])

-- The length of the array d.
abbrev pub len_turn : Rule → ℕ → Turn
len_turn r d = only_if (kind_at r d == 4) (ends (Valued (Int (node r d).value)))

-- A block begins the child that is next, and ends behind the last.
abbrev pub block_on : Rule → Open → Turn
block_on r o = elim (nat_lt o.came (end r o.node)) [ true ↦ runs (end r o.came) None o.came | false ↦ ends Ended ]

abbrev pub block_turn : Rule → Open → Completion → Turn
block_turn r o e = on_end e (block_on r o) (ends Broke) (ends Continued)

-- An assignment has its location (1), then its expression (2), and then stores.
abbrev pub assignment_turn : Rule → Open → List Value → Completion → Turn
assignment_turn r o cells e = elim (o.came == 1) [
  | true ↦ on_cell e (λ a old. runs 2 (Some (Target a)) (child r o.node 1))
  | false ↦ on_value e (λ v. on_target o.kept (λ a. on_some (slice_get cells a) (λ old.
      on_computed o.node (assigned (node r o.node).tag old v) (λ w. sets a w (ends Ended)))))
]

-- A step stores one more or one less in its location.
abbrev pub step_turn : Rule → Open → Completion → Turn
step_turn r o e = on_cell e (λ a old. on_computed o.node (stepped (node r o.node).tag old) (λ w. sets a w (ends Ended)))

-- An if has its condition (1), then one arm at most (2).
abbrev pub if_turn : Rule → Open → Completion → Turn
if_turn r o e = elim (o.came == 1) [
  | true ↦ on_value e (λ v. on_truth v
      (to_child r o 2 1)
      (elim (has r o.node 2) [ true ↦ to_child r o 2 2 | false ↦ ends Ended ]))
  | false ↦ on_end e (ends Ended) (ends Broke) (ends Continued)
]

-- A for stores the value of its first expression in its index, and comes to its condition.
abbrev pub index_turn : Rule → Open → List Value → Value → Turn
index_turn r o cells v = on_some (means r o) (λ d. scalar_turn r o cells d (λ a old.
    on_computed o.node (assigned 0 old v) (λ w. sets a w (to_child r o 2 1))))

-- A for has its first expression (1), its condition (2), its block (3), its third child (4), and its condition again. A break ends it, a
-- continue comes to the third child.
abbrev pub for_turn : Rule → Open → List Value → Completion → Turn
for_turn r o cells e = elim (o.came == 1) [
  | true ↦ on_value e (index_turn r o cells)
  | false ↦ elim (o.came == 2) [
    | true ↦ on_value e (λ v. on_truth v (to_child r o 3 3) (ends Ended))
    | false ↦ elim (o.came == 3) [
      | true ↦ on_end e (to_child r o 4 2) (ends Ended) (to_child r o 4 2)
      | false ↦ on_end e (to_child r o 2 1) no_turn no_turn
    ]
  ]
]

-- A while has its condition (1), its block (2), and its condition again. A break ends it, a continue comes to the condition.
abbrev pub while_turn : Rule → Open → Completion → Turn
while_turn r o e = elim (o.came == 1) [
  | true ↦ on_value e (λ v. on_truth v (to_child r o 2 1) (ends Ended))
  | false ↦ on_end e (to_child r o 1 0) (ends Ended) (to_child r o 1 0)
]

-- A binary operator keeps its left operand and comes to the right one.
abbrev pub right_on : Rule → Open → Value → Turn
right_on r o v = runs 2 (Some (Left v)) (child r o.node 1)

-- `&&` and `||` end where the left operand decides.
abbrev pub left_turn : Rule → Open → Option Operator → Value → Turn
left_turn r o None v = no_turn
left_turn r o (Some Add) v = right_on r o v
left_turn r o (Some Subtract) v = right_on r o v
left_turn r o (Some Multiply) v = right_on r o v
left_turn r o (Some Divide) v = right_on r o v
left_turn r o (Some Remainder) v = right_on r o v
left_turn r o (Some Less) v = right_on r o v
left_turn r o (Some Greater) v = right_on r o v
left_turn r o (Some AtMost) v = right_on r o v
left_turn r o (Some AtLeast) v = right_on r o v
left_turn r o (Some Equal) v = right_on r o v
left_turn r o (Some NotEqual) v = right_on r o v
left_turn r o (Some And) v = on_truth v (right_on r o v) (ends (Valued (Truth false)))
left_turn r o (Some Or) v = on_truth v (ends (Valued (Truth true))) (right_on r o v)

-- A binary operator has its left operand (1), then its right one (2).
abbrev pub binary_turn : Rule → Open → Completion → Turn
binary_turn r o e =
    let p = operator (node r o.node).tag in
    elim (o.came == 1) [
      | true ↦ on_value e (left_turn r o p)
      | false ↦ on_value e (λ v. on_left o.kept (λ u. on_computed o.node (by_operator p u v) (λ w. ends (Valued w))))
    ]

-- A call whose arguments are there: of an import its act, of a method its body. A method has as many parameters.
abbrev pub called : Rule → Open → List Value → Meaning → ℕ → Turn
called r o cells m d = elim (kind_at r d == 2) [
  | true ↦ import_turn r m o.node (import_of (name_of r d)) (drop o.base cells)
  | false ↦ only_if (kind_at r d == 5 && o.came == length (parameters r d)) (enters 7 (body r.nodes d))
]

-- A call comes to its next argument, if there is one.
abbrev pub call_on : Rule → Open → List Value → Meaning → Turn
call_on r o cells m = elim (has r o.node o.came) [
  | true ↦ to_child r o (o.came + 1) o.came
  | false ↦ on_some (means r o) (called r o cells m)
]

-- An argument of a method is of its parameter's type; an import looks at its arguments later.
abbrev pub parameter_fits : Rule → Option ℕ → Value → Bool
parameter_fits r None v = false
parameter_fits r (Some p) v = is_of (tagged (node r p).tag) v

abbrev pub suits : Rule → ℕ → ℕ → Value → Bool
suits r d k v = elim (kind_at r d == 2) [ true ↦ true | false ↦ parameter_fits r (slice_get (parameters r d) k) v ]

-- The value of an argument fills its cell.
abbrev pub argument_turn : Rule → Open → List Value → Meaning → Value → Turn
argument_turn r o cells m v =
    let k = o.came - 1 in
    on_some (means r o) (λ d. only_if (suits r d k v) (sets (o.base + k) v (call_on r o (slice_set cells (o.base + k) v) m)))

-- A return fits a void method without a value, and another with one of its type.
abbrev pub return_turn : Option Ty → Option Value → Turn
return_turn None None = ends Ended
return_turn None (Some v) = no_turn
return_turn (Some t) None = no_turn
return_turn (Some t) (Some v) = only_if (is_of (Some t) v) (ends (Valued v))

-- A body that ends without a return stops there, unless its method is void.
abbrev pub fall_turn : Option Ty → ℕ → Turn
fall_turn None b = ends Ended
fall_turn (Some t) b = stops stop.NoResult b

-- What the body of method d gave.
abbrev pub result_turn : Rule → ℕ → Completion → Turn
result_turn r d Ended = fall_turn (tagged (node r d).tag) (body r.nodes d)
result_turn r d (Valued v) = no_turn
result_turn r d (Located a v) = no_turn
result_turn r d Broke = no_turn
result_turn r d Continued = no_turn
result_turn r d (Returned x) = return_turn (tagged (node r d).tag) x

-- A call has its arguments (1 to 6), and then the body of its method (7).
abbrev pub call_turn : Rule → Open → List Value → Meaning → Completion → Turn
call_turn r o cells m e = elim (o.came == 7) [
  | true ↦ on_some (means r o) (λ d. result_turn r d e)
  | false ↦ on_value e (argument_turn r o cells m)
]

-- The first act of a node that has begun.
abbrev pub started : Kind → Rule → Open → List Value → Meaning → Turn
started kind.Program r o cells m = no_turn
started kind.Import r o cells m = no_turn
started kind.ScalarDeclaration r o cells m = no_turn
started kind.ArrayDeclaration r o cells m = no_turn
started kind.Method r o cells m = no_turn
started kind.Parameter r o cells m = no_turn
started kind.Block r o cells m = block_on r o
started kind.Assignment r o cells m = to_child r o 1 0
started kind.Step r o cells m = to_child r o 1 0
started kind.CallStatement r o cells m = to_child r o 1 0
started kind.If r o cells m = to_child r o 1 0
started kind.For r o cells m = to_child r o 1 0
started kind.While r o cells m = to_child r o 1 0
started kind.Return r o cells m = elim (has r o.node 0) [ true ↦ to_child r o 1 0 | false ↦ ends (Returned None) ]
started kind.Break r o cells m = ends Broke
started kind.Continue r o cells m = ends Continued
started kind.ScalarLocation r o cells m = on_some (means r o) (λ d. scalar_turn r o cells d (λ a v. ends (Located a v)))
started kind.ArrayLocation r o cells m = to_child r o 1 0
started kind.Literal r o cells m = ends (Valued (literal (node r o.node)))
started kind.Unary r o cells m = to_child r o 1 0
started kind.Cast r o cells m = to_child r o 1 0
started kind.Call r o cells m = call_on r o cells m
started kind.Len r o cells m = on_some (means r o) (len_turn r)
started kind.Binary r o cells m = to_child r o 1 0
started kind.Text r o cells m = ends (Valued (Text (natural (node r o.node).value)))

-- What an open node does with what its child gave.
abbrev pub resumed : Kind → Rule → Open → List Value → Meaning → Completion → Turn
resumed kind.Program r o cells m e = no_turn
resumed kind.Import r o cells m e = no_turn
resumed kind.ScalarDeclaration r o cells m e = no_turn
resumed kind.ArrayDeclaration r o cells m e = no_turn
resumed kind.Method r o cells m e = no_turn
resumed kind.Parameter r o cells m e = no_turn
resumed kind.Block r o cells m e = block_turn r o e
resumed kind.Assignment r o cells m e = assignment_turn r o cells e
resumed kind.Step r o cells m e = step_turn r o e
resumed kind.CallStatement r o cells m e = on_call e (ends Ended)
resumed kind.If r o cells m e = if_turn r o e
resumed kind.For r o cells m e = for_turn r o cells e
resumed kind.While r o cells m e = while_turn r o e
resumed kind.Return r o cells m e = on_value e (λ v. ends (Returned (Some v)))
resumed kind.Break r o cells m e = no_turn
resumed kind.Continue r o cells m e = no_turn
resumed kind.ScalarLocation r o cells m e = no_turn
resumed kind.ArrayLocation r o cells m e = on_value e (λ v. on_int v (λ x. on_some (means r o) (λ d. element_turn r o cells d x)))
resumed kind.Literal r o cells m e = no_turn
resumed kind.Unary r o cells m e = on_value e (λ v. on_computed o.node (inverted (node r o.node).tag v) (λ w. ends (Valued w)))
resumed kind.Cast r o cells m e = on_value e (λ v. on_computed o.node (converted (node r o.node).tag v) (λ w. ends (Valued w)))
resumed kind.Call r o cells m e = call_turn r o cells m e
resumed kind.Len r o cells m e = no_turn
resumed kind.Binary r o cells m e = binary_turn r o e
resumed kind.Text r o cells m e = no_turn
