-- Small rules in the bytes of their files, for the worked cases.
--
-- A rule is given by the records of the nodes below its program. All files share their names and strings.
use Rattle.std.specs.Prelude.{ℕ, ◌+◌, ◌/◌, ◌%◌, List, [], ◌∷◌, ◌++◌, length, codes}
use Rattle.rule_laws.specs.Worked.{four, node, item, method, block, main, scalar, array, assign, loc, literal, binary, call, statement, import}

-- a number in eight bytes
abbrev pub eight : ℕ → List ℕ
eight n =
    n % 256 ∷ n / 256 % 256 ∷ n / 65536 % 256 ∷ n / 16777216 % 256 ∷ n / 4294967296 % 256 ∷ n / 1099511627776 % 256 ∷ n / 281474976710656 % 256 ∷ n / 72057594037927936 % 256 ∷ []

-- The names: 0 main, 1 m, 2 put, 3 get, 4 f, 5 x, 6 held, 7 ask, 8 i, 9 s, 10 n, 11 a, 12 b, 13 c, 14 y, 15 z.
abbrev pub names : List ℕ
names =
    item (codes "main") ++ (item (codes "m") ++ (item (codes "put") ++ (item (codes "get") ++ (item (codes "f") ++ (item (codes "x") ++ (item (codes "held") ++ (item (codes "ask") ++ (item (codes "i") ++ (item (codes "s") ++ (item (codes "n") ++ (item (codes "a") ++ (item (codes "b") ++ (item (codes "c") ++ (item (codes "y") ++ item (codes "z")))))))))))))))

-- The strings: 0 micron, 1 yield, 2 vm, 3 bales, 4 Micron.
abbrev pub strings : List ℕ
strings = item (codes "micron") ++ (item (codes "yield") ++ (item (codes "vm") ++ (item (codes "bales") ++ item (codes "Micron"))))

-- The file of a program with these children.
abbrev pub file : List ℕ → List ℕ
file below =
    let nodes = node 1 0 0 0 below in
    (1 ∷ 0 ∷ 0 ∷ 0 ∷ [])
    ++ (four 28 ++ (four (length nodes) ++ (four (28 + length nodes) ++ (four (length names)
    ++ (four (28 + length nodes + length names) ++ (four (length strings) ++ (nodes ++ (names ++ strings))))))))

-- More parts of a rule, by what they are. (The others are those of the cases of the rules.)
abbrev pub wide : ℕ → ℕ → List ℕ
wide type value = (19 ∷ type ∷ 0 ∷ 0 ∷ []) ++ (four 1 ++ eight value)

abbrev pub parameter : ℕ → ℕ → List ℕ
parameter type name = node 6 type name 0 []

abbrev pub step : ℕ → List ℕ → List ℕ
step down left = node 9 down 0 0 left

abbrev pub if_else : List ℕ → List ℕ
if_else below = node 11 0 0 0 below

abbrev pub for : ℕ → List ℕ → List ℕ
for index below = node 12 0 index 0 below

abbrev pub while : List ℕ → List ℕ
while below = node 13 0 0 0 below

abbrev pub return : List ℕ → List ℕ
return below = node 14 0 0 0 below

abbrev pub break : List ℕ
break = node 15 0 0 0 []

abbrev pub continue : List ℕ
continue = node 16 0 0 0 []

abbrev pub element : ℕ → List ℕ → List ℕ
element name index = node 18 0 name 0 index

abbrev pub unary : ℕ → List ℕ → List ℕ
unary op below = node 20 op 0 0 below

abbrev pub cast : ℕ → List ℕ → List ℕ
cast type below = node 21 type 0 0 below

abbrev pub len : ℕ → List ℕ
len name = node 23 0 name 0 []

abbrev pub text : ℕ → List ℕ
text string = node 25 0 0 string []

-- A put: nine units.
-- import put; void main() { int m; m = 195; put("micron", 3, m); }
abbrev pub puts : List ℕ
puts =
    import 2 ++ main (scalar 1 1 ++ (assign 0 (loc 1) (literal 1 195) ++ statement (call 2 (text 0 ++ (literal 1 3 ++ loc 1)))))

-- An int wraps.
-- import put; void main() { put("vm", 0, (2147483647 + 1)); }
abbrev pub wraps : List ℕ
wraps =
    import 2 ++ main (statement (call 2 (text 2 ++ (literal 1 0 ++ binary 0 (wide 1 2147483647) (literal 1 1)))))

-- Division rounds toward zero.
-- import put; void main() { int x; x = 7; put("vm", 0, (-x / 2)); }
abbrev pub quotient : List ℕ
quotient =
    import 2 ++ main (scalar 1 5 ++ (assign 0 (loc 5) (literal 1 7) ++ statement (call 2 (text 2 ++ (literal 1 0 ++ binary 3 (unary 0 (loc 5)) (literal 1 2))))))

-- A remainder has the sign of the dividend.
-- import put; void main() { int x; x = 7; put("vm", 0, (-x % 2)); }
abbrev pub remainder : List ℕ
remainder =
    import 2 ++ main (scalar 1 5 ++ (assign 0 (loc 5) (literal 1 7) ++ statement (call 2 (text 2 ++ (literal 1 0 ++ binary 4 (unary 0 (loc 5)) (literal 1 2))))))

-- The lowest number divided by -1 is itself.
-- import put; void main() { int x; x = 2147483647; x += 1; put("vm", 0, (x / -1)); }
abbrev pub lowest_divided : List ℕ
lowest_divided =
    import 2 ++ main (scalar 1 5 ++ (assign 0 (loc 5) (wide 1 2147483647) ++ (assign 1 (loc 5) (literal 1 1) ++ statement (call 2 (text 2 ++ (literal 1 0 ++ binary 3 (loc 5) (unary 0 (literal 1 1))))))))

-- A cast to int keeps the low 32 bits.
-- import put; void main() { put("vm", 0, int(4294967297L)); }
abbrev pub narrows : List ℕ
narrows =
    import 2 ++ main (statement (call 2 (text 2 ++ (literal 1 0 ++ cast 1 (wide 2 4294967297)))))

-- The last element of an array of three.
-- import put; void main() { int a[3]; a[2] = 5; put("vm", 0, a[2]); }
abbrev pub index_good : List ℕ
index_good =
    import 2 ++ main (array 11 3 ++ (assign 0 (element 11 (literal 1 2)) (literal 1 5) ++ statement (call 2 (text 2 ++ (literal 1 0 ++ element 11 (literal 1 2))))))

-- One too far.
-- void main() { int a[3]; a[3] = 5; }
abbrev pub index_high : List ℕ
index_high =
    main (array 11 3 ++ assign 0 (element 11 (literal 1 3)) (literal 1 5))

-- One too low.
-- void main() { int a[3]; int i; i = 1; i -= 2; a[i] = 5; }
abbrev pub index_low : List ℕ
index_low =
    main (array 11 3 ++ (scalar 1 8 ++ (assign 0 (loc 8) (literal 1 1) ++ (assign 2 (loc 8) (literal 1 2) ++ assign 0 (element 11 (loc 8)) (literal 1 5)))))

-- A for with continue and break, in pieces.
-- import put; void main() { int i; int s; for (i = 0; (i < 10); i++) { if ((i == 1)) { continue; } if ((i == 4)) { break; } s += i; } put("yield", 2, ((s * 100) + i)); }
abbrev pub for_leaves : List ℕ
for_leaves =
    import 2 ++ main (scalar 1 8 ++ (scalar 1 9 ++ (for 8 (literal 1 0 ++ (binary 5 (loc 8) (literal 1 10) ++ (step 0 (loc 8) ++ block (if_else (binary 9 (loc 8) (literal 1 1) ++ block continue) ++ (if_else (binary 9 (loc 8) (literal 1 4) ++ block break) ++ assign 1 (loc 9) (loc 8)))))) ++ statement (call 2 (text 1 ++ (literal 1 2 ++ binary 0 (binary 2 (loc 9) (literal 1 100)) (loc 8)))))))

-- A method that calls itself.
-- import put; int f(int n) { if ((n < 2)) { return 1; } else { return (n * f((n - 1))); } } void main() { put("vm", 1, f(4)); }
abbrev pub recursion : List ℕ
recursion =
    import 2 ++ (method 1 4 (parameter 1 10 ++ block (if_else (binary 5 (loc 10) (literal 1 2) ++ (block (return (literal 1 1)) ++ block (return (binary 2 (loc 10) (call 4 (binary 1 (loc 10) (literal 1 1))))))))) ++ main (statement (call 2 (text 2 ++ (literal 1 1 ++ call 4 (literal 1 4))))))

-- A while, `&&` and `||`.
-- import put; void main() { int i; bool b; while (((i < 5) && (b || (i < 3)))) { i++; if ((i == 2)) { b = true; } if ((i == 4)) { break; } } put("vm", 0, i); }
abbrev pub while_both : List ℕ
while_both =
    import 2 ++ main (scalar 1 8 ++ (scalar 3 12 ++ (while (binary 11 (binary 5 (loc 8) (literal 1 5)) (binary 12 (loc 12) (binary 5 (loc 8) (literal 1 3))) ++ block (step 0 (loc 8) ++ (if_else (binary 9 (loc 8) (literal 1 2) ++ block (assign 0 (loc 12) (literal 3 1))) ++ if_else (binary 9 (loc 8) (literal 1 4) ++ block break)))) ++ statement (call 2 (text 2 ++ (literal 1 0 ++ loc 8))))))

-- An element is changed twice; the old value is read after the expression.
-- import put; int a[4]; int f() { a[1] = 7; return 3; } void main() { a[1] = 5; a[1] *= f(); a[1]--; put("bales", 9, (a[1] + len(a))); }
abbrev pub compound : List ℕ
compound =
    import 2 ++ (array 11 4 ++ (method 1 4 (block (assign 0 (element 11 (literal 1 1)) (literal 1 7) ++ return (literal 1 3))) ++ main (assign 0 (element 11 (literal 1 1)) (literal 1 5) ++ (assign 3 (element 11 (literal 1 1)) (call 4 []) ++ (step 1 (element 11 (literal 1 1)) ++ statement (call 2 (text 3 ++ (literal 1 9 ++ binary 0 (element 11 (literal 1 1)) (len 11)))))))))

-- A zero divisor in an assignment.
-- void main() { int a[2]; a[1] /= a[0]; }
abbrev pub by_zero : List ℕ
by_zero =
    main (array 11 2 ++ assign 4 (element 11 (literal 1 1)) (element 11 (literal 1 0)))

-- A valued method falls off its end.
-- int f(int x) { if ((x > 0)) { return x; } } void main() { f(1); f(0); }
abbrev pub falls : List ℕ
falls =
    method 1 4 (parameter 1 5 ++ block (if_else (binary 6 (loc 5) (literal 1 0) ++ block (return (loc 5))))) ++ main (statement (call 4 (literal 1 1)) ++ statement (call 4 (literal 1 0)))

-- An unknown import, after its argument.
-- import ask; void main() { ask(1); }
abbrev pub unknown : List ℕ
unknown =
    import 7 ++ main (statement (call 7 (literal 1 1)))

-- A long where an int is asked.
-- import put; void main() { put("vm", 1, 2L); }
abbrev pub long_put : List ℕ
long_put =
    import 2 ++ main (statement (call 2 (text 2 ++ (literal 1 1 ++ literal 2 2))))

-- A column that does not exist.
-- import put; void main() { put("Micron", 1, 2); }
abbrev pub no_column : List ℕ
no_column =
    import 2 ++ main (statement (call 2 (text 4 ++ (literal 1 1 ++ literal 1 2))))

-- A lot outside, and one below.
-- import put; import get; void main() { put("vm", 63, 2); if ((get("vm", 63) == 2)) { put("vm", 64, 2); } }
abbrev pub no_lot : List ℕ
no_lot =
    import 2 ++ (import 3 ++ main (statement (call 2 (text 2 ++ (literal 1 63 ++ literal 1 2))) ++ if_else (binary 9 (call 3 (text 2 ++ literal 1 63)) (literal 1 2) ++ block (statement (call 2 (text 2 ++ (literal 1 64 ++ literal 1 2)))))))

-- A lot below 0.
-- import held; void main() { held("vm", -1); }
abbrev pub below : List ℕ
below =
    import 6 ++ main (statement (call 6 (text 2 ++ unary 0 (literal 1 1))))

-- get and held.
-- import put; import get; import held; void main() { put("vm", 1, ((held("vm", 1) * 10) + get("vm", 1))); put("vm", 1, (((3 + put("vm", 1, 8)) + (held("vm", 1) * 10)) + (get("vm", 1) * 100))); }
abbrev pub told : List ℕ
told =
    import 2 ++ (import 3 ++ (import 6 ++ main (statement (call 2 (text 2 ++ (literal 1 1 ++ binary 0 (binary 2 (call 6 (text 2 ++ literal 1 1)) (literal 1 10)) (call 3 (text 2 ++ literal 1 1))))) ++ statement (call 2 (text 2 ++ (literal 1 1 ++ binary 0 (binary 0 (binary 0 (literal 1 3) (call 2 (text 2 ++ (literal 1 1 ++ literal 1 8)))) (binary 2 (call 6 (text 2 ++ literal 1 1)) (literal 1 10))) (binary 2 (call 3 (text 2 ++ literal 1 1)) (literal 1 100))))))))

-- A field, a parameter and locals of one name.
-- import put; int x; int f(int x) { x += 1; if (true) { int y; int x; x = 9; y = x; } return x; } void main() { int y; x = 3; y = f(x); if ((y == 4)) { int x; long z; x = 100; y += x; } put("vm", 0, ((y * 10) + x)); }
abbrev pub scopes : List ℕ
scopes =
    import 2 ++ (scalar 1 5 ++ (method 1 4 (parameter 1 5 ++ block (assign 1 (loc 5) (literal 1 1) ++ (if_else (literal 3 1 ++ block (scalar 1 14 ++ (scalar 1 5 ++ (assign 0 (loc 5) (literal 1 9) ++ assign 0 (loc 14) (loc 5))))) ++ return (loc 5)))) ++ main (scalar 1 14 ++ (assign 0 (loc 5) (literal 1 3) ++ (assign 0 (loc 14) (call 4 (loc 5)) ++ (if_else (binary 9 (loc 14) (literal 1 4) ++ block (scalar 1 5 ++ (scalar 2 15 ++ (assign 0 (loc 5) (literal 1 100) ++ assign 1 (loc 14) (loc 5))))) ++ statement (call 2 (text 2 ++ (literal 1 0 ++ binary 0 (binary 2 (loc 14) (literal 1 10)) (loc 5))))))))))

-- A return out of two loops, with an argument half done around it.
-- import put; int f(int a, int b) { int i; while (true) { for (i = a; true; i += b) { int c[3]; c[1] = i; if ((c[1] > 6)) { return (c[1] + len(c)); } } } } void main() { put("vm", 0, (f(1, 2) + f(f(2, 3), 1))); }
abbrev pub leaves_all : List ℕ
leaves_all =
    import 2 ++ (method 1 4 (parameter 1 11 ++ (parameter 1 12 ++ block (scalar 1 8 ++ while (literal 3 1 ++ block (for 8 (loc 11 ++ (literal 3 1 ++ (assign 1 (loc 8) (loc 12) ++ block (array 13 3 ++ (assign 0 (element 13 (literal 1 1)) (loc 8) ++ if_else (binary 6 (element 13 (literal 1 1)) (literal 1 6) ++ block (return (binary 0 (element 13 (literal 1 1)) (len 13)))))))))))))) ++ main (statement (call 2 (text 2 ++ (literal 1 0 ++ binary 0 (call 4 (literal 1 1 ++ literal 1 2)) (call 4 (call 4 (literal 1 2 ++ literal 1 3) ++ literal 1 1)))))))

-- No cells for a block.
-- void main() { int a[2040]; if (true) { int b[8]; } if (true) { int c[9]; } }
abbrev pub cells : List ℕ
cells =
    main (array 11 2040 ++ (if_else (literal 3 1 ++ block (array 12 8)) ++ if_else (literal 3 1 ++ block (array 13 9))))

-- A recursion without an end has no open place.
-- void f() { f(); } void main() { f(); }
abbrev pub places : List ℕ
places =
    method 0 4 (block (statement (call 4 []))) ++ main (statement (call 4 []))

-- A loop of many turns.
-- import put; void main() { int i; for (i = 0; (i < 100); i++) { put("vm", 0, i); } }
abbrev pub turns : List ℕ
turns =
    import 2 ++ main (scalar 1 8 ++ for 8 (literal 1 0 ++ (binary 5 (loc 8) (literal 1 100) ++ (step 0 (loc 8) ++ block (statement (call 2 (text 2 ++ (literal 1 0 ++ loc 8))))))))

-- The operand that cannot matter is not begun.
-- void main() { bool b; b = (true || ((1 / 0) == 1)); b = (false && ((1 / 0) == 1)); }
abbrev pub skips : List ℕ
skips =
    main (scalar 3 12 ++ (assign 0 (loc 12) (binary 12 (literal 3 1) (binary 9 (binary 3 (literal 1 1) (literal 1 0)) (literal 1 1))) ++ assign 0 (loc 12) (binary 11 (literal 3 0) (binary 9 (binary 3 (literal 1 1) (literal 1 0)) (literal 1 1)))))

-- The one that can matter is.
-- void main() { bool b; b = (true && ((1 / 0) == 1)); }
abbrev pub comes : List ℕ
comes =
    main (scalar 3 12 ++ assign 0 (loc 12) (binary 11 (literal 3 1) (binary 9 (binary 3 (literal 1 1) (literal 1 0)) (literal 1 1))))

-- One turn of a for, ended by a continue.
-- void main() { int i; for (i = 0; (i < 1); i++) { continue; } }
abbrev pub one_turn : List ℕ
one_turn =
    main (scalar 1 8 ++ for 8 (literal 1 0 ++ (binary 5 (loc 8) (literal 1 1) ++ (step 0 (loc 8) ++ block continue))))

-- Not accepted.
-- void main() { int m; m = (1 + 2L); }
-- void main() { int m[0]; } and, with a length of 1, a good one
abbrev pub array_of_none : List ℕ
array_of_none = main (array 1 0)

abbrev pub array_of_one : List ℕ
array_of_one = main (array 1 1)

-- import put; void main() { int put; put(); }
abbrev pub local_called : List ℕ
local_called = import 2 ++ main (scalar 1 2 ++ statement (call 2 []))

-- void main() { f(); } void f() { }
abbrev pub method_below : List ℕ
method_below = main (statement (call 4 [])) ++ method 0 4 (block [])

abbrev pub bad : List ℕ
bad =
    main (scalar 1 1 ++ assign 0 (loc 1) (binary 0 (literal 1 1) (literal 2 2)))
