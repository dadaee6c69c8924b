use Rattle.std.proofs.Common.{refl}
use Rattle.layout.specs.Head.{body_at}
use Rattle.layout.specs.Items.{split}
use Rattle.nodes.specs.Tree.{parent, ancestors, children}
use Rattle.rules.specs.Tables.{table_of}
use Rattle.rules.specs.Scopes.{scope, meant, repeated, in_loop, method_of}
use Rattle.rules.specs.Rules.{type_of, broken, first_violation}
use Rattle.rules.proofs.worked.cases_stand.Goals as goal

-- Each case is computed.
pub returns : goal.returns
unfolding body_at split parent ancestors children table_of scope meant repeated in_loop method_of type_of broken first_violation
returns c =
    record {
      micron = refl;
      empty = refl;
      mixed_sum = refl;
      array_of_none = refl;
      array_of_one = refl;
      local_called = refl;
      method_below = refl;
      array_as_scalar = refl;
      two_mains = refl;
      no_main = refl;
      undeclared_sum = refl;
      undeclared_raised = refl;
      undeclared_compared = refl;
      bool_told = refl;
      void_value = refl;
      string_passed = refl;
      wrong_argument = refl;
      right_argument = refl;
      result_of_void = refl;
      no_result = refl;
      int_condition = refl;
      stray_break = refl;
      good_break = refl;
      full_fields = refl;
      too_many_cells = refl;
    }
