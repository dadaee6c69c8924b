-- Worked cases: what a new runner answers to some calls, computed from the bytes of small files.
--
-- The book is an empty table book of 64 lots: every column and lot has a place, and none is free. A case says how each call answers, and what
-- the book has at one column and lot at the end. The rules stand in `Programs`, each with its text.
use Rattle.std.specs.Prelude.{◌≡◌, ℕ, true, List, [], ◌∷◌, length, ℤ, pos, negsuc, Some, None, Option, Ok, Err, Result}
use Rattle.book.specs.Meanings.{Meaning}
use Rattle.book.specs.declared.fault.BookFault.TheVariants as refusal
use Rattle.checker.specs.declared.Refusal.TheVariants as denied
use Rattle.layout.specs.declared.fault.FileFault.TheVariants as fault
use Rattle.rule_file.specs.Worked.{micron as micron-file}
use Rattle.node_rules.specs.declared.violation.Violation.{Violation}
use Rattle.node_rules.specs.declared.violation.Violation.TheVariants as violation
use Rattle.semantics.specs.Acts.{stopped_at}
use Rattle.semantics.specs.Courses.{World, Call, load, begin, go, close, CourseOf}
use Rattle.semantics.specs.Programs.{file}
use Rattle.semantics.specs.Programs as rule
use Rattle.semantics.specs.declared.answer.Answer.{Answer}
use Rattle.semantics.specs.declared.answer.Denial.{Denial}
use Rattle.semantics.specs.declared.answer.Answer.TheVariants.{Done, Went}
use Rattle.semantics.specs.declared.answer.Denial.TheVariants.{UnderWay, Idle, File}
use Rattle.semantics.specs.declared.answer.Ending.TheVariants.{Finished, Spent, Stopped}
use Rattle.semantics.specs.declared.import.Event.{Event}
use Rattle.semantics.specs.declared.stop.Stop.TheVariants as stop

abbrev pub empty_book : Meaning
empty_book = record { lots = 64; value = λ c l. None; place = λ c l. true; free = 0 }

-- A new runner with the empty book answers so to these calls, and leaves x at a column and a lot.
pub record Case (calls : List Call) (answers : List (Result Answer Denial)) (column lot : ℕ) (x : Option ℤ) : Type 0 where
  pub events : List Event
  pub after : World
  pub course : CourseOf empty_book calls answers events after
  pub value : after.book.value column lot ≡ x

-- Goes with these budgets.
abbrev pub goes : List ℕ → List Call
goes [] = []
goes (b ∷ bs) = go b ∷ goes bs

-- A rule is loaded, begun and given these budgets.
abbrev pub run : List ℕ → List ℕ → List Call
run below budgets = load (file below) ∷ begin ∷ goes budgets

-- A load that is refused for a broken rule at a node.
abbrev pub violated : Violation → ℕ → Result Answer Denial
violated v i = Err (File (denied.Violation (record { place = i; cause = v })))

pub record Cases : Type 0 where
  -- The file of 254 bytes and 13 nodes that puts micron 195 in lot 3.
  pub micron_long : length micron-file ≡ 254
  pub micron : Case (load micron-file ∷ begin ∷ go 9 ∷ []) (Ok Done ∷ Ok Done ∷ Ok (Went Finished 9) ∷ []) 0 3 (Some (pos 195))
  -- An array of length 0 (24), one of length 1, a local named put that is called (31), a method called above its declaration (22).
  pub broken : Case (load (file rule.array_of_none) ∷ load (file rule.array_of_one) ∷ load (file rule.local_called) ∷ load (file rule.method_below) ∷ []) (violated violation.EmptyArray 3 ∷ Ok Done ∷ violated violation.NotCallable 6 ∷ violated violation.Undeclared 4 ∷ []) 4 0 None
  -- The rule of a new runner.
  pub first_rule : Case (begin ∷ go 0 ∷ go 1 ∷ []) (Ok Done ∷ Ok (Went Spent 0) ∷ Ok (Went Finished 1) ∷ []) 4 0 None
  -- Calls that are refused change nothing.
  pub refusals : Case (go 5 ∷ close ∷ begin ∷ begin ∷ load (file rule.puts) ∷ close ∷ close ∷ begin ∷ go 1 ∷ go 1 ∷ []) (Err Idle ∷ Err Idle ∷ Ok Done ∷ Err UnderWay ∷ Err UnderWay ∷ Ok Done ∷ Err Idle ∷ Ok Done ∷ Ok (Went Finished 1) ∷ Err Idle ∷ []) 4 0 None
  -- A file that is not accepted leaves the rule as it was.
  pub not_loaded : Case (load (file rule.bad) ∷ load [] ∷ begin ∷ go 9 ∷ []) (Err (File (denied.Violation (record { place = 6; cause = violation.Arithmetic }))) ∷ Err (File (denied.Fault (record { place = 0; cause = fault.FileSize }))) ∷ Ok Done ∷ Ok (Went Finished 1) ∷ []) 4 0 None
  -- void main() { int i; for (i = 0; (i < 1); i++) { continue; } }
  pub one_turn : Case (run rule.one_turn (1000 ∷ [])) (Ok Done ∷ Ok Done ∷ Ok (Went Finished 13) ∷ []) 4 0 None
  -- import put; void main() { int m; m = 195; put("micron", 3, m); }
  pub puts : Case (run rule.puts (1000 ∷ [])) (Ok Done ∷ Ok Done ∷ Ok (Went Finished 9) ∷ []) 0 3 (Some (pos 195))
  -- import put; void main() { int m; m = 195; put("micron", 3, m); }
  pub puts_in_two : Case (run rule.puts (8 ∷ 1 ∷ [])) (Ok Done ∷ Ok Done ∷ Ok (Went Spent 8) ∷ Ok (Went Finished 1) ∷ []) 0 3 (Some (pos 195))
  -- import put; void main() { int m; m = 195; put("micron", 3, m); }
  pub puts_not_yet : Case (run rule.puts (8 ∷ [])) (Ok Done ∷ Ok Done ∷ Ok (Went Spent 8) ∷ []) 0 3 None
  -- import put; void main() { put("vm", 0, (2147483647 + 1)); }
  pub wraps : Case (run rule.wraps (1000 ∷ [])) (Ok Done ∷ Ok Done ∷ Ok (Went Finished 8) ∷ []) 4 0 (Some (negsuc 2147483647))
  -- import put; void main() { int x; x = 7; put("vm", 0, (-x / 2)); }
  pub quotient : Case (run rule.quotient (1000 ∷ [])) (Ok Done ∷ Ok Done ∷ Ok (Went Finished 12) ∷ []) 4 0 (Some (negsuc 2))
  -- import put; void main() { int x; x = 7; put("vm", 0, (-x % 2)); }
  pub remainder : Case (run rule.remainder (1000 ∷ [])) (Ok Done ∷ Ok Done ∷ Ok (Went Finished 12) ∷ []) 4 0 (Some (negsuc 0))
  -- import put; void main() { int x; x = 2147483647; x += 1; put("vm", 0, (x / -1)); }
  pub lowest_divided : Case (run rule.lowest_divided (1000 ∷ [])) (Ok Done ∷ Ok Done ∷ Ok (Went Finished 15) ∷ []) 4 0 (Some (negsuc 2147483647))
  -- import put; void main() { put("vm", 0, int(4294967297L)); }
  pub narrows : Case (run rule.narrows (1000 ∷ [])) (Ok Done ∷ Ok Done ∷ Ok (Went Finished 7) ∷ []) 4 0 (Some (pos 1))
  -- import put; void main() { int a[3]; a[2] = 5; put("vm", 0, a[2]); }
  pub index_good : Case (run rule.index_good (1000 ∷ [])) (Ok Done ∷ Ok Done ∷ Ok (Went Finished 11) ∷ []) 4 0 (Some (pos 5))
  -- void main() { int a[3]; a[3] = 5; }
  pub index_high : Case (run rule.index_high (1000 ∷ [])) (Ok Done ∷ Ok Done ∷ Ok (Went (Stopped (stopped_at stop.Index 5)) 4) ∷ []) 4 0 None
  -- void main() { int a[3]; int i; i = 1; i -= 2; a[i] = 5; }
  pub index_low : Case (run rule.index_low (1000 ∷ [])) (Ok Done ∷ Ok Done ∷ Ok (Went (Stopped (stopped_at stop.Index 12)) 10) ∷ []) 4 0 None
  -- import put; void main() { int i; int s; for (i = 0; (i < 10); i++) { if ((i == 1)) { continue; } if ((i == 4)) { break; } s += i; } put("yield", 2, ((s * 100) + i)); }
  pub for_leaves : Case (run rule.for_leaves (1000 ∷ [])) (Ok Done ∷ Ok Done ∷ Ok (Went Finished 89) ∷ []) 1 2 (Some (pos 504))
  -- import put; void main() { int i; int s; for (i = 0; (i < 10); i++) { if ((i == 1)) { continue; } if ((i == 4)) { break; } s += i; } put("yield", 2, ((s * 100) + i)); }
  pub for_in_pieces : Case (run rule.for_leaves (7 ∷ 20 ∷ 0 ∷ 1 ∷ 1000 ∷ [])) (Ok Done ∷ Ok Done ∷ Ok (Went Spent 7) ∷ Ok (Went Spent 20) ∷ Ok (Went Spent 0) ∷ Ok (Went Spent 1) ∷ Ok (Went Finished 61) ∷ []) 1 2 (Some (pos 504))
  -- import put; int f(int n) { if ((n < 2)) { return 1; } else { return (n * f((n - 1))); } } void main() { put("vm", 1, f(4)); }
  pub recursion : Case (run rule.recursion (1000 ∷ [])) (Ok Done ∷ Ok Done ∷ Ok (Went Finished 54) ∷ []) 4 1 (Some (pos 24))
  -- import put; int f(int n) { if ((n < 2)) { return 1; } else { return (n * f((n - 1))); } } void main() { put("vm", 1, f(4)); }
  pub recursion_in_two : Case (run rule.recursion (40 ∷ 40 ∷ [])) (Ok Done ∷ Ok Done ∷ Ok (Went Spent 40) ∷ Ok (Went Finished 14) ∷ []) 4 1 (Some (pos 24))
  -- import put; void main() { int i; bool b; while (((i < 5) && (b || (i < 3)))) { i++; if ((i == 2)) { b = true; } if ((i == 4)) { break; } } put("vm", 0, i); }
  pub while_both : Case (run rule.while_both (1000 ∷ [])) (Ok Done ∷ Ok Done ∷ Ok (Went Finished 87) ∷ []) 4 0 (Some (pos 4))
  -- void main() { bool b; b = (true || ((1 / 0) == 1)); b = (false && ((1 / 0) == 1)); }
  pub skips : Case (run rule.skips (1000 ∷ [])) (Ok Done ∷ Ok Done ∷ Ok (Went Finished 9) ∷ []) 4 0 None
  -- void main() { bool b; b = (true && ((1 / 0) == 1)); }
  pub comes : Case (run rule.comes (1000 ∷ [])) (Ok Done ∷ Ok Done ∷ Ok (Went (Stopped (stopped_at stop.ZeroDivisor 9)) 9) ∷ []) 4 0 None
  -- import put; int a[4]; int f() { a[1] = 7; return 3; } void main() { a[1] = 5; a[1] *= f(); a[1]--; put("bales", 9, (a[1] + len(a))); }
  pub compound : Case (run rule.compound (1000 ∷ [])) (Ok Done ∷ Ok Done ∷ Ok (Went Finished 27) ∷ []) 7 9 (Some (pos 24))
  -- void main() { int a[2]; a[1] /= a[0]; }
  pub by_zero : Case (run rule.by_zero (1000 ∷ [])) (Ok Done ∷ Ok Done ∷ Ok (Went (Stopped (stopped_at stop.ZeroDivisor 4)) 6) ∷ []) 4 0 None
  -- int f(int x) { if ((x > 0)) { return x; } } void main() { f(1); f(0); }
  pub falls : Case (run rule.falls (1000 ∷ [])) (Ok Done ∷ Ok Done ∷ Ok (Went (Stopped (stopped_at stop.NoResult 3)) 20) ∷ []) 4 0 None
  -- import ask; void main() { ask(1); }
  pub unknown : Case (run rule.unknown (1000 ∷ [])) (Ok Done ∷ Ok Done ∷ Ok (Went (Stopped (stopped_at stop.UnknownImport 5)) 4) ∷ []) 4 0 None
  -- import put; void main() { put("vm", 1, 2L); }
  pub long_put : Case (run rule.long_put (1000 ∷ [])) (Ok Done ∷ Ok Done ∷ Ok (Went (Stopped (stopped_at stop.Arguments 5)) 6) ∷ []) 4 1 None
  -- import put; void main() { put("Micron", 1, 2); }
  pub no_column : Case (run rule.no_column (1000 ∷ [])) (Ok Done ∷ Ok Done ∷ Ok (Went (Stopped (stopped_at stop.Column 5)) 6) ∷ []) 4 1 None
  -- import put; import get; void main() { put("vm", 63, 2); if ((get("vm", 63) == 2)) { put("vm", 64, 2); } }
  pub no_lot : Case (run rule.no_lot (1000 ∷ [])) (Ok Done ∷ Ok Done ∷ Ok (Went (Stopped (stopped_at (stop.Book refusal.Lot) 18)) 18) ∷ []) 4 63 (Some (pos 2))
  -- import held; void main() { held("vm", -1); }
  pub below : Case (run rule.below (1000 ∷ [])) (Ok Done ∷ Ok Done ∷ Ok (Went (Stopped (stopped_at (stop.Book refusal.Lot) 5)) 6) ∷ []) 4 1 None
  -- import put; import get; import held; void main() { put("vm", 1, ((held("vm", 1) * 10) + get("vm", 1))); put("vm", 1, (((3 + put("vm", 1, 8)) + (held("vm", 1) * 10)) + (get("vm", 1) * 100))); }
  pub told : Case (run rule.told (1000 ∷ [])) (Ok Done ∷ Ok Done ∷ Ok (Went Finished 36) ∷ []) 4 1 (Some (pos 814))
  -- import put; int x; int f(int x) { x += 1; if (true) { int y; int x; x = 9; y = x; } return x; } void main() { int y; x = 3; y = f(x); if ((y == 4)) { int x; long z; x = 100; y += x; } put("vm", 0, ((y * 10) + x)); }
  pub scopes : Case (run rule.scopes (1000 ∷ [])) (Ok Done ∷ Ok Done ∷ Ok (Went Finished 43) ∷ []) 4 0 (Some (pos 1043))
  -- import put; int f(int a, int b) { int i; while (true) { for (i = a; true; i += b) { int c[3]; c[1] = i; if ((c[1] > 6)) { return (c[1] + len(c)); } } } } void main() { put("vm", 0, (f(1, 2) + f(f(2, 3), 1))); }
  pub leaves_all : Case (run rule.leaves_all (1000 ∷ [])) (Ok Done ∷ Ok Done ∷ Ok (Went Finished 153) ∷ []) 4 0 (Some (pos 24))
  -- void main() { int a[2040]; if (true) { int b[8]; } if (true) { int c[9]; } }
  pub cells : Case (run rule.cells (1000 ∷ [])) (Ok Done ∷ Ok Done ∷ Ok (Went (Stopped (stopped_at stop.NoCells 10)) 6) ∷ []) 4 0 None
  -- void f() { f(); } void main() { f(); }
  pub places : Case (run rule.places (10000 ∷ [])) (Ok Done ∷ Ok Done ∷ Ok (Went (Stopped (stopped_at stop.NoPlace 4)) 512) ∷ []) 4 0 None
  -- import put; void main() { int i; for (i = 0; (i < 100); i++) { put("vm", 0, i); } }
  pub turns : Case (run rule.turns (10000 ∷ [])) (Ok Done ∷ Ok Done ∷ Ok (Went Finished 1106) ∷ []) 4 0 (Some (pos 99))
