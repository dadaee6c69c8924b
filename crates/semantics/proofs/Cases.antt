-- The worked cases, each by computation in a declaration of its own, which bounds the memory of the check.
use Rattle.std.proofs.Common.{◌≡◌, [], ◌∷◌, length, pos, negsuc, Some, None, refl, Ok, Err}
use Rattle.std.specs.Int.{int_wrap}
use Rattle.book.specs.declared.fault.BookFault.TheVariants as refusal
use Rattle.checker.specs.declared.Refusal.TheVariants as denied
use Rattle.finding.specs.Search.{lowest}
use Rattle.layout.specs.Faults.{end_of, children_fit}
use Rattle.layout.specs.Texts.{keyword}
use Rattle.layout.specs.Head.{body_at}
use Rattle.layout.specs.Items.{split}
use Rattle.layout.specs.declared.fault.FileFault.TheVariants as fault
use Rattle.nodes.specs.Tree.{parent, ancestors, depth, children, bad_size, too_deep}
use Rattle.rule_file.specs.Verdict.{first_fault}
use Rattle.rule_file.specs.Worked.{micron as micron-file}
use Rattle.node_rules.specs.Tables.{nodes_of, table_of}
use Rattle.node_rules.specs.Scopes.{scope, lives, in_force, meant, repeated, in_loop, method_of, place, body}
use Rattle.node_rules.specs.Rules.{type_of, field_cells, first_violation}
use Rattle.node_rules.specs.declared.violation.Violation.TheVariants as violation
use Rattle.semantics.specs.Acts.{next, origin, stopped_at}
use Rattle.semantics.specs.Courses.{load, begin, go, close, refused}
use Rattle.semantics.specs.Programs.{file}
use Rattle.semantics.specs.Programs as rule
use Rattle.semantics.specs.Rule.{main, address}
use Rattle.semantics.specs.Values.{low_32}
use Rattle.semantics.specs.Worked.{Case, run, violated}
use Rattle.semantics.specs.declared.answer.Answer.TheVariants.{Done, Went}
use Rattle.semantics.specs.declared.answer.Denial.TheVariants.{UnderWay, Idle, File}
use Rattle.semantics.specs.declared.answer.Ending.TheVariants.{Finished, Spent, Stopped}
use Rattle.semantics.specs.declared.stop.Stop.TheVariants as stop
use Rattle.semantics.proofs.Playing.{play, plays, found}

pub micron_long : length micron-file ≡ 254
micron_long = refl

pub micron : Case (load micron-file ∷ begin ∷ go 9 ∷ []) (Ok Done ∷ Ok Done ∷ Ok (Went Finished 9) ∷ []) 0 3 (Some (pos 195))
unfolding plays play next main origin address refused low_32 int_wrap body_at split parent ancestors children nodes_of table_of scope lives in_force meant repeated in_loop method_of place body type_of field_cells first_violation first_fault lowest keyword bad_size end_of children_fit too_deep depth
micron = found _ _ _ _ _ 20000 refl refl refl

pub broken : Case (load (file rule.array_of_none) ∷ load (file rule.array_of_one) ∷ load (file rule.local_called) ∷ load (file rule.method_below) ∷ []) (violated violation.EmptyArray 3 ∷ Ok Done ∷ violated violation.NotCallable 6 ∷ violated violation.Undeclared 4 ∷ []) 4 0 None
unfolding plays play next main origin address refused low_32 int_wrap body_at split parent ancestors children nodes_of table_of scope lives in_force meant repeated in_loop method_of place body type_of field_cells first_violation first_fault lowest keyword bad_size end_of children_fit too_deep depth
broken = found _ _ _ _ _ 20000 refl refl refl

pub first_rule : Case (begin ∷ go 0 ∷ go 1 ∷ []) (Ok Done ∷ Ok (Went Spent 0) ∷ Ok (Went Finished 1) ∷ []) 4 0 None
unfolding plays play next main origin address refused low_32 int_wrap body_at split parent ancestors children nodes_of table_of scope lives in_force meant repeated in_loop method_of place body type_of field_cells first_violation first_fault lowest keyword bad_size end_of children_fit too_deep depth
first_rule = found _ _ _ _ _ 20000 refl refl refl

pub refusals : Case (go 5 ∷ close ∷ begin ∷ begin ∷ load (file rule.puts) ∷ close ∷ close ∷ begin ∷ go 1 ∷ go 1 ∷ []) (Err Idle ∷ Err Idle ∷ Ok Done ∷ Err UnderWay ∷ Err UnderWay ∷ Ok Done ∷ Err Idle ∷ Ok Done ∷ Ok (Went Finished 1) ∷ Err Idle ∷ []) 4 0 None
unfolding plays play next main origin address refused low_32 int_wrap body_at split parent ancestors children nodes_of table_of scope lives in_force meant repeated in_loop method_of place body type_of field_cells first_violation first_fault lowest keyword bad_size end_of children_fit too_deep depth
refusals = found _ _ _ _ _ 20000 refl refl refl

pub not_loaded : Case (load (file rule.bad) ∷ load [] ∷ begin ∷ go 9 ∷ []) (Err (File (denied.Violation (record { place = 6; cause = violation.Arithmetic }))) ∷ Err (File (denied.Fault (record { place = 0; cause = fault.FileSize }))) ∷ Ok Done ∷ Ok (Went Finished 1) ∷ []) 4 0 None
unfolding plays play next main origin address refused low_32 int_wrap body_at split parent ancestors children nodes_of table_of scope lives in_force meant repeated in_loop method_of place body type_of field_cells first_violation first_fault lowest keyword bad_size end_of children_fit too_deep depth
not_loaded = found _ _ _ _ _ 20000 refl refl refl

pub one_turn : Case (run rule.one_turn (1000 ∷ [])) (Ok Done ∷ Ok Done ∷ Ok (Went Finished 13) ∷ []) 4 0 None
unfolding plays play next main origin address refused low_32 int_wrap body_at split parent ancestors children nodes_of table_of scope lives in_force meant repeated in_loop method_of place body type_of field_cells first_violation first_fault lowest keyword bad_size end_of children_fit too_deep depth
one_turn = found _ _ _ _ _ 20000 refl refl refl

pub puts : Case (run rule.puts (1000 ∷ [])) (Ok Done ∷ Ok Done ∷ Ok (Went Finished 9) ∷ []) 0 3 (Some (pos 195))
unfolding plays play next main origin address refused low_32 int_wrap body_at split parent ancestors children nodes_of table_of scope lives in_force meant repeated in_loop method_of place body type_of field_cells first_violation first_fault lowest keyword bad_size end_of children_fit too_deep depth
puts = found _ _ _ _ _ 20000 refl refl refl

pub puts_in_two : Case (run rule.puts (8 ∷ 1 ∷ [])) (Ok Done ∷ Ok Done ∷ Ok (Went Spent 8) ∷ Ok (Went Finished 1) ∷ []) 0 3 (Some (pos 195))
unfolding plays play next main origin address refused low_32 int_wrap body_at split parent ancestors children nodes_of table_of scope lives in_force meant repeated in_loop method_of place body type_of field_cells first_violation first_fault lowest keyword bad_size end_of children_fit too_deep depth
puts_in_two = found _ _ _ _ _ 20000 refl refl refl

pub puts_not_yet : Case (run rule.puts (8 ∷ [])) (Ok Done ∷ Ok Done ∷ Ok (Went Spent 8) ∷ []) 0 3 None
unfolding plays play next main origin address refused low_32 int_wrap body_at split parent ancestors children nodes_of table_of scope lives in_force meant repeated in_loop method_of place body type_of field_cells first_violation first_fault lowest keyword bad_size end_of children_fit too_deep depth
puts_not_yet = found _ _ _ _ _ 20000 refl refl refl

pub wraps : Case (run rule.wraps (1000 ∷ [])) (Ok Done ∷ Ok Done ∷ Ok (Went Finished 8) ∷ []) 4 0 (Some (negsuc 2147483647))
unfolding plays play next main origin address refused low_32 int_wrap body_at split parent ancestors children nodes_of table_of scope lives in_force meant repeated in_loop method_of place body type_of field_cells first_violation first_fault lowest keyword bad_size end_of children_fit too_deep depth
wraps = found _ _ _ _ _ 20000 refl refl refl

pub quotient : Case (run rule.quotient (1000 ∷ [])) (Ok Done ∷ Ok Done ∷ Ok (Went Finished 12) ∷ []) 4 0 (Some (negsuc 2))
unfolding plays play next main origin address refused low_32 int_wrap body_at split parent ancestors children nodes_of table_of scope lives in_force meant repeated in_loop method_of place body type_of field_cells first_violation first_fault lowest keyword bad_size end_of children_fit too_deep depth
quotient = found _ _ _ _ _ 20000 refl refl refl

pub remainder : Case (run rule.remainder (1000 ∷ [])) (Ok Done ∷ Ok Done ∷ Ok (Went Finished 12) ∷ []) 4 0 (Some (negsuc 0))
unfolding plays play next main origin address refused low_32 int_wrap body_at split parent ancestors children nodes_of table_of scope lives in_force meant repeated in_loop method_of place body type_of field_cells first_violation first_fault lowest keyword bad_size end_of children_fit too_deep depth
remainder = found _ _ _ _ _ 20000 refl refl refl

pub lowest_divided : Case (run rule.lowest_divided (1000 ∷ [])) (Ok Done ∷ Ok Done ∷ Ok (Went Finished 15) ∷ []) 4 0 (Some (negsuc 2147483647))
unfolding plays play next main origin address refused low_32 int_wrap body_at split parent ancestors children nodes_of table_of scope lives in_force meant repeated in_loop method_of place body type_of field_cells first_violation first_fault lowest keyword bad_size end_of children_fit too_deep depth
lowest_divided = found _ _ _ _ _ 20000 refl refl refl

pub narrows : Case (run rule.narrows (1000 ∷ [])) (Ok Done ∷ Ok Done ∷ Ok (Went Finished 7) ∷ []) 4 0 (Some (pos 1))
unfolding plays play next main origin address refused low_32 int_wrap body_at split parent ancestors children nodes_of table_of scope lives in_force meant repeated in_loop method_of place body type_of field_cells first_violation first_fault lowest keyword bad_size end_of children_fit too_deep depth
narrows = found _ _ _ _ _ 20000 refl refl refl

pub index_good : Case (run rule.index_good (1000 ∷ [])) (Ok Done ∷ Ok Done ∷ Ok (Went Finished 11) ∷ []) 4 0 (Some (pos 5))
unfolding plays play next main origin address refused low_32 int_wrap body_at split parent ancestors children nodes_of table_of scope lives in_force meant repeated in_loop method_of place body type_of field_cells first_violation first_fault lowest keyword bad_size end_of children_fit too_deep depth
index_good = found _ _ _ _ _ 20000 refl refl refl

pub index_high : Case (run rule.index_high (1000 ∷ [])) (Ok Done ∷ Ok Done ∷ Ok (Went (Stopped (stopped_at stop.Index 5)) 4) ∷ []) 4 0 None
unfolding plays play next main origin address refused low_32 int_wrap body_at split parent ancestors children nodes_of table_of scope lives in_force meant repeated in_loop method_of place body type_of field_cells first_violation first_fault lowest keyword bad_size end_of children_fit too_deep depth
index_high = found _ _ _ _ _ 20000 refl refl refl

pub index_low : Case (run rule.index_low (1000 ∷ [])) (Ok Done ∷ Ok Done ∷ Ok (Went (Stopped (stopped_at stop.Index 12)) 10) ∷ []) 4 0 None
unfolding plays play next main origin address refused low_32 int_wrap body_at split parent ancestors children nodes_of table_of scope lives in_force meant repeated in_loop method_of place body type_of field_cells first_violation first_fault lowest keyword bad_size end_of children_fit too_deep depth
index_low = found _ _ _ _ _ 20000 refl refl refl

pub for_leaves : Case (run rule.for_leaves (1000 ∷ [])) (Ok Done ∷ Ok Done ∷ Ok (Went Finished 89) ∷ []) 1 2 (Some (pos 504))
unfolding plays play next main origin address refused low_32 int_wrap body_at split parent ancestors children nodes_of table_of scope lives in_force meant repeated in_loop method_of place body type_of field_cells first_violation first_fault lowest keyword bad_size end_of children_fit too_deep depth
for_leaves = found _ _ _ _ _ 20000 refl refl refl

pub for_in_pieces : Case (run rule.for_leaves (7 ∷ 20 ∷ 0 ∷ 1 ∷ 1000 ∷ [])) (Ok Done ∷ Ok Done ∷ Ok (Went Spent 7) ∷ Ok (Went Spent 20) ∷ Ok (Went Spent 0) ∷ Ok (Went Spent 1) ∷ Ok (Went Finished 61) ∷ []) 1 2 (Some (pos 504))
unfolding plays play next main origin address refused low_32 int_wrap body_at split parent ancestors children nodes_of table_of scope lives in_force meant repeated in_loop method_of place body type_of field_cells first_violation first_fault lowest keyword bad_size end_of children_fit too_deep depth
for_in_pieces = found _ _ _ _ _ 20000 refl refl refl

pub recursion : Case (run rule.recursion (1000 ∷ [])) (Ok Done ∷ Ok Done ∷ Ok (Went Finished 54) ∷ []) 4 1 (Some (pos 24))
unfolding plays play next main origin address refused low_32 int_wrap body_at split parent ancestors children nodes_of table_of scope lives in_force meant repeated in_loop method_of place body type_of field_cells first_violation first_fault lowest keyword bad_size end_of children_fit too_deep depth
recursion = found _ _ _ _ _ 20000 refl refl refl

pub recursion_in_two : Case (run rule.recursion (40 ∷ 40 ∷ [])) (Ok Done ∷ Ok Done ∷ Ok (Went Spent 40) ∷ Ok (Went Finished 14) ∷ []) 4 1 (Some (pos 24))
unfolding plays play next main origin address refused low_32 int_wrap body_at split parent ancestors children nodes_of table_of scope lives in_force meant repeated in_loop method_of place body type_of field_cells first_violation first_fault lowest keyword bad_size end_of children_fit too_deep depth
recursion_in_two = found _ _ _ _ _ 20000 refl refl refl

pub while_both : Case (run rule.while_both (1000 ∷ [])) (Ok Done ∷ Ok Done ∷ Ok (Went Finished 87) ∷ []) 4 0 (Some (pos 4))
unfolding plays play next main origin address refused low_32 int_wrap body_at split parent ancestors children nodes_of table_of scope lives in_force meant repeated in_loop method_of place body type_of field_cells first_violation first_fault lowest keyword bad_size end_of children_fit too_deep depth
while_both = found _ _ _ _ _ 20000 refl refl refl

pub skips : Case (run rule.skips (1000 ∷ [])) (Ok Done ∷ Ok Done ∷ Ok (Went Finished 9) ∷ []) 4 0 None
unfolding plays play next main origin address refused low_32 int_wrap body_at split parent ancestors children nodes_of table_of scope lives in_force meant repeated in_loop method_of place body type_of field_cells first_violation first_fault lowest keyword bad_size end_of children_fit too_deep depth
skips = found _ _ _ _ _ 20000 refl refl refl

pub comes : Case (run rule.comes (1000 ∷ [])) (Ok Done ∷ Ok Done ∷ Ok (Went (Stopped (stopped_at stop.ZeroDivisor 9)) 9) ∷ []) 4 0 None
unfolding plays play next main origin address refused low_32 int_wrap body_at split parent ancestors children nodes_of table_of scope lives in_force meant repeated in_loop method_of place body type_of field_cells first_violation first_fault lowest keyword bad_size end_of children_fit too_deep depth
comes = found _ _ _ _ _ 20000 refl refl refl

pub compound : Case (run rule.compound (1000 ∷ [])) (Ok Done ∷ Ok Done ∷ Ok (Went Finished 27) ∷ []) 7 9 (Some (pos 24))
unfolding plays play next main origin address refused low_32 int_wrap body_at split parent ancestors children nodes_of table_of scope lives in_force meant repeated in_loop method_of place body type_of field_cells first_violation first_fault lowest keyword bad_size end_of children_fit too_deep depth
compound = found _ _ _ _ _ 20000 refl refl refl

pub by_zero : Case (run rule.by_zero (1000 ∷ [])) (Ok Done ∷ Ok Done ∷ Ok (Went (Stopped (stopped_at stop.ZeroDivisor 4)) 6) ∷ []) 4 0 None
unfolding plays play next main origin address refused low_32 int_wrap body_at split parent ancestors children nodes_of table_of scope lives in_force meant repeated in_loop method_of place body type_of field_cells first_violation first_fault lowest keyword bad_size end_of children_fit too_deep depth
by_zero = found _ _ _ _ _ 20000 refl refl refl

pub falls : Case (run rule.falls (1000 ∷ [])) (Ok Done ∷ Ok Done ∷ Ok (Went (Stopped (stopped_at stop.NoResult 3)) 20) ∷ []) 4 0 None
unfolding plays play next main origin address refused low_32 int_wrap body_at split parent ancestors children nodes_of table_of scope lives in_force meant repeated in_loop method_of place body type_of field_cells first_violation first_fault lowest keyword bad_size end_of children_fit too_deep depth
falls = found _ _ _ _ _ 20000 refl refl refl

pub unknown : Case (run rule.unknown (1000 ∷ [])) (Ok Done ∷ Ok Done ∷ Ok (Went (Stopped (stopped_at stop.UnknownImport 5)) 4) ∷ []) 4 0 None
unfolding plays play next main origin address refused low_32 int_wrap body_at split parent ancestors children nodes_of table_of scope lives in_force meant repeated in_loop method_of place body type_of field_cells first_violation first_fault lowest keyword bad_size end_of children_fit too_deep depth
unknown = found _ _ _ _ _ 20000 refl refl refl

pub long_put : Case (run rule.long_put (1000 ∷ [])) (Ok Done ∷ Ok Done ∷ Ok (Went (Stopped (stopped_at stop.Arguments 5)) 6) ∷ []) 4 1 None
unfolding plays play next main origin address refused low_32 int_wrap body_at split parent ancestors children nodes_of table_of scope lives in_force meant repeated in_loop method_of place body type_of field_cells first_violation first_fault lowest keyword bad_size end_of children_fit too_deep depth
long_put = found _ _ _ _ _ 20000 refl refl refl

pub no_column : Case (run rule.no_column (1000 ∷ [])) (Ok Done ∷ Ok Done ∷ Ok (Went (Stopped (stopped_at stop.Column 5)) 6) ∷ []) 4 1 None
unfolding plays play next main origin address refused low_32 int_wrap body_at split parent ancestors children nodes_of table_of scope lives in_force meant repeated in_loop method_of place body type_of field_cells first_violation first_fault lowest keyword bad_size end_of children_fit too_deep depth
no_column = found _ _ _ _ _ 20000 refl refl refl

pub no_lot : Case (run rule.no_lot (1000 ∷ [])) (Ok Done ∷ Ok Done ∷ Ok (Went (Stopped (stopped_at (stop.Book refusal.Lot) 18)) 18) ∷ []) 4 63 (Some (pos 2))
unfolding plays play next main origin address refused low_32 int_wrap body_at split parent ancestors children nodes_of table_of scope lives in_force meant repeated in_loop method_of place body type_of field_cells first_violation first_fault lowest keyword bad_size end_of children_fit too_deep depth
no_lot = found _ _ _ _ _ 20000 refl refl refl

pub below : Case (run rule.below (1000 ∷ [])) (Ok Done ∷ Ok Done ∷ Ok (Went (Stopped (stopped_at (stop.Book refusal.Lot) 5)) 6) ∷ []) 4 1 None
unfolding plays play next main origin address refused low_32 int_wrap body_at split parent ancestors children nodes_of table_of scope lives in_force meant repeated in_loop method_of place body type_of field_cells first_violation first_fault lowest keyword bad_size end_of children_fit too_deep depth
below = found _ _ _ _ _ 20000 refl refl refl

pub told : Case (run rule.told (1000 ∷ [])) (Ok Done ∷ Ok Done ∷ Ok (Went Finished 36) ∷ []) 4 1 (Some (pos 814))
unfolding plays play next main origin address refused low_32 int_wrap body_at split parent ancestors children nodes_of table_of scope lives in_force meant repeated in_loop method_of place body type_of field_cells first_violation first_fault lowest keyword bad_size end_of children_fit too_deep depth
told = found _ _ _ _ _ 20000 refl refl refl

pub scopes : Case (run rule.scopes (1000 ∷ [])) (Ok Done ∷ Ok Done ∷ Ok (Went Finished 43) ∷ []) 4 0 (Some (pos 1043))
unfolding plays play next main origin address refused low_32 int_wrap body_at split parent ancestors children nodes_of table_of scope lives in_force meant repeated in_loop method_of place body type_of field_cells first_violation first_fault lowest keyword bad_size end_of children_fit too_deep depth
scopes = found _ _ _ _ _ 20000 refl refl refl

pub leaves_all : Case (run rule.leaves_all (1000 ∷ [])) (Ok Done ∷ Ok Done ∷ Ok (Went Finished 153) ∷ []) 4 0 (Some (pos 24))
unfolding plays play next main origin address refused low_32 int_wrap body_at split parent ancestors children nodes_of table_of scope lives in_force meant repeated in_loop method_of place body type_of field_cells first_violation first_fault lowest keyword bad_size end_of children_fit too_deep depth
leaves_all = found _ _ _ _ _ 20000 refl refl refl

pub cells : Case (run rule.cells (1000 ∷ [])) (Ok Done ∷ Ok Done ∷ Ok (Went (Stopped (stopped_at stop.NoCells 10)) 6) ∷ []) 4 0 None
unfolding plays play next main origin address refused low_32 int_wrap body_at split parent ancestors children nodes_of table_of scope lives in_force meant repeated in_loop method_of place body type_of field_cells first_violation first_fault lowest keyword bad_size end_of children_fit too_deep depth
cells = found _ _ _ _ _ 20000 refl refl refl

pub places : Case (run rule.places (10000 ∷ [])) (Ok Done ∷ Ok Done ∷ Ok (Went (Stopped (stopped_at stop.NoPlace 4)) 512) ∷ []) 4 0 None
unfolding plays play next main origin address refused low_32 int_wrap body_at split parent ancestors children nodes_of table_of scope lives in_force meant repeated in_loop method_of place body type_of field_cells first_violation first_fault lowest keyword bad_size end_of children_fit too_deep depth
places = found _ _ _ _ _ 20000 refl refl refl

pub turns : Case (run rule.turns (10000 ∷ [])) (Ok Done ∷ Ok Done ∷ Ok (Went Finished 1106) ∷ []) 4 0 (Some (pos 99))
unfolding plays play next main origin address refused low_32 int_wrap body_at split parent ancestors children nodes_of table_of scope lives in_force meant repeated in_loop method_of place body type_of field_cells first_violation first_fault lowest keyword bad_size end_of children_fit too_deep depth
turns = found _ _ _ _ _ 20000 refl refl refl
