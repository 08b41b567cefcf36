-- The commands of the program, with the options that each takes, as `clap` is told them.
use Rattle.std.specs.Prelude.{List, Option, Some, codes, true}
use Rattle.clap.specs.Words.{App, Kinds, Row, Rule, Text, fault_of, new_app, new_rule, subcommand_of}
use Rattle.clap.specs.Words.{with_rule, with_subcommand}
use Rattle.clap.specs.declared.builder.action.ArgAction.TheVariants.{Append, Set, SetTrue}

-- an option `--name` with one value
abbrev pub valued : Text → Rule
valued name = record (new_rule name) { long = Some name; action = Some Set; value_names = 1 }

-- a flag `--name`
abbrev pub flag : Text → Rule
flag name = record (new_rule name) { long = Some name; action = Some SetTrue }

-- the files of the tiles, of which one is wanted at least
abbrev pub tiles : Rule
tiles = record (new_rule (codes "TILE")) { action = Some Append; required = true }

-- a command with the options that choose features
abbrev pub choosing : Text → App
choosing name =
    let with_types = with_rule (new_app name) (valued (codes "cotype")) in
    let with_area = with_rule with_types (valued (codes "bbox")) in
    with_rule with_area (flag (codes "exclude"))

abbrev pub merge_app : App
merge_app =
    let with_in_turn = with_rule (choosing (codes "merge")) (flag (codes "in-turn")) in
    let with_least = with_rule with_in_turn (flag (codes "least")) in
    with_rule with_least tiles

abbrev pub filter_app : App
filter_app = choosing (codes "filter")

-- a document is cut with no options
abbrev pub cat_app : App
cat_app = new_app (codes "cat")

-- the program above its commands: it has a version, and wants a command
abbrev pub above_app : App
above_app = record (new_app (codes "citymerge")) {
  top = record (new_app (codes "citymerge")).top {
    has_version = true;
    subcommand_required = true;
  };
}

abbrev pub citymerge_app : App
citymerge_app =
    let with_merge = with_subcommand above_app merge_app.top in
    let with_filter = with_subcommand with_merge filter_app.top in
    with_subcommand with_filter cat_app.top

-- the command that the words name, with its rows: a row is what `clap` found for one option
abbrev pub named_by : List Text → Option (Text × List Row)
named_by words = subcommand_of citymerge_app words

-- the kinds of error that `clap` may give for the words; none, where it takes them
abbrev pub faults_of : List Text → Kinds
faults_of words = fault_of citymerge_app words
