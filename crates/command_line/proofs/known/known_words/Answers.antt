use Rattle.std.proofs.Common.{refl}
use Rattle.clap.proofs.OnLiterals.{clap_on_literals}
use Rattle.command_line.specs.Known.{KnownFaults, KnownRows}
use Rattle.command_line.proofs.known.known_words.Goals as goal

faults : KnownFaults
unfolding clap_on_literals
faults = record {
  nothing = refl;
  help = refl;
  short_help = refl;
  help_of_filter = refl;
  help_after_options = refl;
  version = refl;
  version_of_filter = refl;
  bare = refl;
  twice = refl;
  exclude_twice = refl;
  no_value = refl;
  value_of_flag = refl;
  minus = refl;
  path = refl;
  path_after_dashes = refl;
  other_option = refl;
  no_tile = refl;
  options_and_no_tile = refl;
  one_tile = refl;
  tile_of_a_dash = refl;
  tile_after_a_dash = refl;
  in_turn_twice = refl;
  help_of_merge = refl;
  bare_cat = refl;
  path_of_cat = refl;
  option_of_cat = refl;
  help_of_cat = refl;
  cat_after_filter = refl;
}

rows : KnownRows
unfolding clap_on_literals
rows = record {
  taken = refl;
  merge_taken = refl;
  cat_taken = refl;
  types = refl;
  area = refl;
  exclude = refl;
  below_zero = refl;
  empty = refl;
  no_types = refl;
  no_area = refl;
  no_exclude = refl;
  paths = refl;
  least = refl;
  in_turn = refl;
  merge_area = refl;
}

pub returns-clause-faults : goal.returns-clause-faults
returns-clause-faults c = faults

pub returns-clause-rows : goal.returns-clause-rows
returns-clause-rows c = rows
