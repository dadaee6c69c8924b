-- Worked cases: what the definitions say of small rules, computed from the bytes of their files.
use Rattle.std.specs.Prelude.{◌≡◌, ℕ, ◌+◌, ◌/◌, ◌%◌, List, [], ◌∷◌, ◌++◌, length, Some, None, codes, Option}
use Rattle.finding.specs.declared.Finding.{Finding}
use Rattle.rules.specs.Rules.{first_violation}
use Rattle.rules.specs.Tables.{table_of}
use Rattle.node_rules.specs.declared.violation.Violation.{Violation}
use Rattle.node_rules.specs.declared.violation.Violation.TheVariants.{RepeatedName, Undeclared, NoMain, EmptyArray, Arguments, VoidValue, ReturnedValue, MissingResult, NotScalar, NotCallable, Condition, Arithmetic, Assigned, Compound, OutsideLoop, TooManyCells}

-- a number below 65,536 in four bytes
abbrev pub four : ℕ → List ℕ
four n = n % 256 ∷ n / 256 ∷ 0 ∷ 0 ∷ []

-- A node of a kind, with its tag, name and value, and the records of all below it.
abbrev pub node : ℕ → ℕ → ℕ → ℕ → List ℕ → List ℕ
node kind tag name value below =
    (kind ∷ tag ∷ name ∷ 0 ∷ []) ++ (four (1 + length below / 16) ++ (four value ++ (four 0 ++ below)))

abbrev pub item : List ℕ → List ℕ
item text = length text ∷ text

-- The names that all cases share: 0 main, 1 m, 2 put, 3 get, 4 f, 5 x; and one string.
abbrev pub names : List ℕ
names =
    item (codes "main") ++ (item (codes "m") ++ (item (codes "put") ++ (item (codes "get") ++ (item (codes "f") ++ item (codes "x")))))

abbrev pub strings : List ℕ
strings = item (codes "micron")

-- The file of a program with these children.
abbrev pub file : List ℕ → List ℕ
file below =
    let nodes = node 1 0 0 0 below in
    (1 ∷ 0 ∷ 0 ∷ 0 ∷ [])
    ++ (four 28 ++ (four (length nodes) ++ (four (28 + length nodes) ++ (four (length names)
    ++ (four (28 + length nodes + length names) ++ (four (length strings) ++ (nodes ++ (names ++ strings))))))))

-- The parts of a rule, by what they are.
abbrev pub method : ℕ → ℕ → List ℕ → List ℕ
method type name below = node 5 type name 0 below

abbrev pub block : List ℕ → List ℕ
block below = node 7 0 0 0 below

abbrev pub main : List ℕ → List ℕ
main below = method 0 0 (block below)

abbrev pub scalar : ℕ → ℕ → List ℕ
scalar type name = node 3 type name 0 []

abbrev pub array : ℕ → ℕ → List ℕ
array name size = node 4 1 name size []

abbrev pub assign : ℕ → List ℕ → List ℕ → List ℕ
assign op left right = node 8 op 0 0 (left ++ right)

abbrev pub loc : ℕ → List ℕ
loc name = node 17 0 name 0 []

abbrev pub literal : ℕ → ℕ → List ℕ
literal type value = node 19 type 0 value []

abbrev pub binary : ℕ → List ℕ → List ℕ → List ℕ
binary op left right = node 24 op 0 0 (left ++ right)

abbrev pub call : ℕ → List ℕ → List ℕ
call name arguments = node 22 0 name 0 arguments

abbrev pub statement : List ℕ → List ℕ
statement c = node 10 0 0 0 c

abbrev pub string : List ℕ
string = node 25 0 0 0 []

abbrev pub import : ℕ → List ℕ
import name = node 2 0 name 0 []

abbrev pub broken_at : Violation → ℕ → Option (Finding Violation)
broken_at v i = Some (record { place = i; cause = v })

-- what the definitions say of a program
abbrev pub verdict : List ℕ → Option (Finding Violation)
verdict below = first_violation (table_of (file below))

pub record Cases : Type 0 where
  -- import put; void main() { int m; m = 195; put("micron", 3, m); }
  pub micron : verdict (import 2 ++ main (scalar 1 1 ++ (assign 0 (loc 1) (literal 1 195) ++ statement (call 2 (string ++ (literal 1 3 ++ loc 1)))))) ≡ None
  pub empty : verdict (main []) ≡ None
  -- m = 1 + 2L
  pub mixed_sum : verdict (main (scalar 1 1 ++ assign 0 (loc 1) (binary 0 (literal 1 1) (literal 2 2)))) ≡ broken_at Arithmetic 6
  pub array_of_none : verdict (main (array 1 0)) ≡ broken_at EmptyArray 3
  pub array_of_one : verdict (main (array 1 1)) ≡ None
  -- import put; void main() { int put; put(); }
  pub local_called : verdict (import 2 ++ main (scalar 1 2 ++ statement (call 2 []))) ≡ broken_at NotCallable 6
  -- void main() { f(); } void f() { }
  pub method_below : verdict (main (statement (call 4 [])) ++ method 0 4 (block [])) ≡ broken_at Undeclared 4
  -- int x[3]; m = x
  pub array_as_scalar : verdict (main (array 5 3 ++ (scalar 1 1 ++ assign 0 (loc 1) (loc 5)))) ≡ broken_at NotScalar 7
  pub two_mains : verdict (main [] ++ main []) ≡ broken_at RepeatedName 3
  pub no_main : verdict (method 0 4 (block [])) ≡ broken_at NoMain 0
  -- x is not declared: x + true, x += true, x == true
  pub undeclared_sum : verdict (main (scalar 1 1 ++ assign 0 (loc 1) (binary 0 (loc 5) (literal 3 1)))) ≡ broken_at Arithmetic 6
  pub undeclared_raised : verdict (main (assign 1 (loc 5) (literal 3 1))) ≡ broken_at Compound 3
  pub undeclared_compared : verdict (main (scalar 3 1 ++ assign 0 (loc 1) (binary 9 (loc 5) (literal 3 1)))) ≡ broken_at Undeclared 7
  -- import get; void main() { bool m; m = get("micron", 1); }
  pub bool_told : verdict (import 3 ++ main (scalar 3 1 ++ assign 0 (loc 1) (call 3 (string ++ literal 1 1)))) ≡ broken_at Assigned 5
  -- void f() { } void main() { int m; m = f(); }
  pub void_value : verdict (method 0 4 (block []) ++ main (scalar 1 1 ++ assign 0 (loc 1) (call 4 []))) ≡ broken_at VoidValue 8
  -- void f() { } void main() { f("micron"); }
  pub string_passed : verdict (method 0 4 (block []) ++ main (statement (call 4 string))) ≡ broken_at Arguments 6
  -- int f(int m) { return m; } void main() { f(true); }
  pub wrong_argument : verdict (method 1 4 (node 6 1 1 0 [] ++ block (node 14 0 0 0 (loc 1))) ++ main (statement (call 4 (literal 3 1)))) ≡ broken_at Arguments 9
  pub right_argument : verdict (method 1 4 (node 6 1 1 0 [] ++ block (node 14 0 0 0 (loc 1))) ++ main (statement (call 4 (literal 1 1)))) ≡ None
  pub result_of_void : verdict (main (node 14 0 0 0 (literal 1 1))) ≡ broken_at ReturnedValue 3
  pub no_result : verdict (method 1 4 (block (node 14 0 0 0 [])) ++ main []) ≡ broken_at MissingResult 3
  pub int_condition : verdict (main (node 13 0 0 0 (literal 1 1 ++ block []))) ≡ broken_at Condition 3
  pub stray_break : verdict (main (node 15 0 0 0 [])) ≡ broken_at OutsideLoop 3
  pub good_break : verdict (main (node 13 0 0 0 (literal 3 1 ++ block (node 15 0 0 0 [])))) ≡ None
  -- fields of 2,048 and 2,049 cells
  pub full_fields : verdict (array 5 2048 ++ main []) ≡ None
  pub too_many_cells : verdict (scalar 1 1 ++ (array 5 2048 ++ main [])) ≡ broken_at TooManyCells 0
