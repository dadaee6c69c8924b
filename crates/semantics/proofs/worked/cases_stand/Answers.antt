use Rattle.semantics.proofs.Cases as case
use Rattle.semantics.proofs.worked.cases_stand.Goals as goal

pub returns : goal.returns
returns c =
    record {
      micron_long = case.micron_long;
      micron = case.micron;
      broken = case.broken;
      first_rule = case.first_rule;
      refusals = case.refusals;
      not_loaded = case.not_loaded;
      one_turn = case.one_turn;
      puts = case.puts;
      puts_in_two = case.puts_in_two;
      puts_not_yet = case.puts_not_yet;
      wraps = case.wraps;
      quotient = case.quotient;
      remainder = case.remainder;
      lowest_divided = case.lowest_divided;
      narrows = case.narrows;
      index_good = case.index_good;
      index_high = case.index_high;
      index_low = case.index_low;
      for_leaves = case.for_leaves;
      for_in_pieces = case.for_in_pieces;
      recursion = case.recursion;
      recursion_in_two = case.recursion_in_two;
      while_both = case.while_both;
      skips = case.skips;
      comes = case.comes;
      compound = case.compound;
      by_zero = case.by_zero;
      falls = case.falls;
      unknown = case.unknown;
      long_put = case.long_put;
      no_column = case.no_column;
      no_lot = case.no_lot;
      below = case.below;
      told = case.told;
      scopes = case.scopes;
      leaves_all = case.leaves_all;
      cells = case.cells;
      places = case.places;
      turns = case.turns;
    }
