use Rattle.rule_file.proofs.Cases as cases
use Rattle.rule_file.proofs.cases_stand.Goals as goal

pub returns : goal.returns
returns c =
    record {
      micron_size = cases.micron_size;
      micron_good = cases.micron_good;
      empty_good = cases.empty_good;
      half_a_head = cases.half_a_head;
      other_edition = cases.other_edition;
      half_written = cases.half_written;
      without_nodes = cases.without_nodes;
      name_cut_off = cases.name_cut_off;
      keyword_as_name = cases.keyword_as_name;
      same_name_twice = cases.same_name_twice;
      bell = cases.bell;
      unknown_type = cases.unknown_type;
      past_its_parent = cases.past_its_parent;
      step_of_two = cases.step_of_two;
      too_deep_a_node = cases.too_deep_a_node;
      field_before_size = cases.field_before_size;
    }
