-- Words that are written out, with what `clap` states for them.
use Rattle.std.specs.Prelude.{◌≡◌, List, [], ◌∷◌, Some, None, codes, true, false, option_map}
use Rattle.clap.specs.Words.{Kinds, Row, Text, takes}
use Rattle.clap.specs.declared.error.kind.ErrorKind.TheVariants as kind
use Rattle.command_line.specs.Asked.{area_text, is_used, paths_in, types_text}
use Rattle.command_line.specs.Commands.{citymerge_app, faults_of, named_by}

-- the words after the program's name and the word `filter`
abbrev pub filter : List Text → List Text
filter words = codes "citymerge" ∷ codes "filter" ∷ words

-- the same after the word `merge`
abbrev pub merge : List Text → List Text
merge words = codes "citymerge" ∷ codes "merge" ∷ words

-- the same after the word `cat`
abbrev pub cat : List Text → List Text
cat words = codes "citymerge" ∷ codes "cat" ∷ words

abbrev pub Fails : List Text → Kinds → Type 0
Fails words kinds = faults_of words ≡ kinds

pub record KnownFaults : Type 0 where
  pub nothing : Fails (codes "citymerge" ∷ []) (kind.MissingSubcommand ∷ [])
  pub help : Fails (codes "citymerge" ∷ codes "--help" ∷ []) (kind.DisplayHelp ∷ [])
  pub short_help : Fails (codes "citymerge" ∷ codes "-h" ∷ []) (kind.DisplayHelp ∷ [])
  pub help_of_filter : Fails (filter (codes "--help" ∷ [])) (kind.DisplayHelp ∷ [])
  pub help_after_options :
      Fails (filter (codes "--exclude" ∷ codes "-h" ∷ [])) (kind.DisplayHelp ∷ [])
  pub version : Fails (codes "citymerge" ∷ codes "--version" ∷ []) (kind.DisplayVersion ∷ [])
  pub version_of_filter : Fails (filter (codes "--version" ∷ [])) (kind.UnknownArgument ∷ [])
  pub bare : Fails (filter []) []
  pub twice : Fails (filter (codes "--bbox=1" ∷ codes "--bbox=2" ∷ [])) (kind.ArgumentConflict ∷ [])
  pub exclude_twice :
      Fails (filter (codes "--exclude" ∷ codes "--exclude" ∷ [])) (kind.ArgumentConflict ∷ [])
  pub no_value : Fails (filter (codes "--bbox" ∷ [])) (kind.InvalidValue ∷ [])
  pub value_of_flag : Fails (filter (codes "--exclude=true" ∷ [])) (kind.TooManyValues ∷ [])
  pub minus : Fails (filter (codes "--bbox" ∷ codes "-5,0,1,1" ∷ [])) (kind.UnknownArgument ∷ [])
  pub path : Fails (filter (codes "a.city.jsonl" ∷ [])) (kind.UnknownArgument ∷ [])
  pub path_after_dashes :
      Fails (filter (codes "--" ∷ codes "a.city.jsonl" ∷ [])) (kind.UnknownArgument ∷ [])
  pub other_option : Fails (filter (codes "--in-turn" ∷ [])) (kind.UnknownArgument ∷ [])
  pub no_tile : Fails (merge []) (kind.MissingRequiredArgument ∷ [])
  pub options_and_no_tile :
      Fails (merge (codes "--least" ∷ codes "--in-turn" ∷ [])) (kind.MissingRequiredArgument ∷ [])
  pub one_tile : Fails (merge (codes "a.city.jsonl" ∷ [])) []
  pub tile_of_a_dash : Fails (merge (codes "-" ∷ [])) []
  pub tile_after_a_dash : Fails (merge (codes "-a" ∷ [])) (kind.UnknownArgument ∷ [])
  pub in_turn_twice :
      Fails (merge (codes "--in-turn" ∷ codes "a" ∷ codes "--in-turn" ∷ [])) (kind.ArgumentConflict ∷ [])
  pub help_of_merge : Fails (merge (codes "--help" ∷ [])) (kind.DisplayHelp ∷ [])
  pub bare_cat : Fails (cat []) []
  pub path_of_cat : Fails (cat (codes "a.city.json" ∷ [])) (kind.UnknownArgument ∷ [])
  pub option_of_cat : Fails (cat (codes "--exclude" ∷ [])) (kind.UnknownArgument ∷ [])
  pub help_of_cat : Fails (cat (codes "--help" ∷ [])) (kind.DisplayHelp ∷ [])
  pub cat_after_filter : Fails (filter (codes "cat" ∷ [])) (kind.UnknownArgument ∷ [])

-- what is found of one option, where the words name a command
abbrev pub Finds : {A : Type 0} → List Text → (List Row → A) → A → Type 0
Finds words of found =
    option_map (λ command. of command.1) (named_by words) ≡ Some found

abbrev pub filter_words : List Text
filter_words = filter (codes "--exclude" ∷ codes "--cotype=A,B" ∷ codes "--bbox" ∷ codes "1,2,3,4" ∷ [])

abbrev pub merge_words : List Text
merge_words =
    merge (codes "a" ∷ codes "--least" ∷ codes "-" ∷ codes "--bbox=1,2,3,4" ∷ codes "--" ∷ codes "--in-turn" ∷ [])

pub record KnownRows : Type 0 where
  pub taken : takes citymerge_app filter_words ≡ true
  pub merge_taken : takes citymerge_app merge_words ≡ true
  pub cat_taken : takes citymerge_app (cat []) ≡ true
  pub types : Finds filter_words types_text (Some (codes "A,B"))
  pub area : Finds filter_words area_text (Some (codes "1,2,3,4"))
  pub exclude : Finds filter_words (is_used (codes "exclude")) true
  pub below_zero :
      Finds (filter (codes "--bbox=-5,0,10,10" ∷ [])) area_text (Some (codes "-5,0,10,10"))
  pub empty : Finds (filter (codes "--cotype=" ∷ [])) types_text (Some [])
  pub no_types : Finds (filter []) types_text None
  pub no_area : Finds (filter []) area_text None
  pub no_exclude : Finds (filter []) (is_used (codes "exclude")) false
  pub paths : Finds merge_words paths_in (codes "a" ∷ codes "-" ∷ codes "--in-turn" ∷ [])
  pub least : Finds merge_words (is_used (codes "least")) true
  pub in_turn : Finds merge_words (is_used (codes "in-turn")) false
  pub merge_area : Finds merge_words area_text (Some (codes "1,2,3,4"))
