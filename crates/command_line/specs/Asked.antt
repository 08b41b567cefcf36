-- What the words ask for, by the rows of the command that they name.
use Rattle.std.specs.Prelude.{◌≡◌, ◌<◌, List, [], Option, Some, None, Bool, codes, false, length}
use Rattle.std.specs.Prelude.{unwrap_or, IsSomeAnd, ⊤}
use Rattle.std.specs.Option.{option_map_or}
use Rattle.std.specs.Str.{bytes_eq}
use Rattle.city_feature.specs.Area.{IsAreaText}
use Rattle.city_feature.specs.Choice.{HasEmptyName, names_between_commas}
use Rattle.city_feature.specs.declared.choices.Choice.{Choice}
use Rattle.city_feature.specs.declared.choices.area.Area.{Area}
use Rattle.clap.specs.Words.{Row, Text, all_of, first_of}
use Rattle.command_line.specs.declared.merge_args.MergeArgs.{MergeArgs}
use Rattle.command_line.specs.declared.parsing.Parsed.{Parsed}
use Rattle.command_line.specs.declared.parsing.Parsed.TheVariants as parsed

-- the values that the words give the two options that take one
abbrev pub types_text : List Row → Option Text
types_text rows = first_of (codes "cotype") rows

abbrev pub area_text : List Row → Option Text
area_text rows = first_of (codes "bbox") rows

-- the types that are wanted: the names in the value; none where no value is given
abbrev pub AreTypesIn : Option Text → Option (List Text) → Type 0
AreTypesIn None None = ⊤
AreTypesIn (Some text) (Some types) = (types ≡ names_between_commas text) × ¬ HasEmptyName text
AreTypesIn _ _ = ⊥

abbrev pub IsAreaIn : Option Text → Option Area → Type 0
IsAreaIn None None = ⊤
IsAreaIn (Some text) (Some area) = IsAreaText text area
IsAreaIn _ _ = ⊥

-- whether a flag was used
abbrev pub is_used : Text → List Row → Bool
is_used name rows = option_map_or (λ text. bytes_eq text (codes "true")) (first_of name rows) false

pub record IsChoiceIn (rows : List Row) (choice : Choice) : Type 0 where
  pub types : AreTypesIn (types_text rows) choice.types
  pub area : IsAreaIn (area_text rows) choice.area
  pub exclude : choice.exclude ≡ is_used (codes "exclude") rows

-- the paths of the tiles, in order
abbrev pub paths_in : List Row → List Text
paths_in rows = unwrap_or (all_of (codes "TILE") rows) []

pub record IsMergeIn (rows : List Row) (args : MergeArgs) : Type 0 where
  pub choice : IsChoiceIn rows args.choice
  pub in_turn : args.in_turn ≡ is_used (codes "in-turn") rows
  pub least : args.least ≡ is_used (codes "least") rows
  pub paths : args.paths ≡ paths_in rows

-- an answer that takes the words takes the command that they name, as its rows say
abbrev pub IsAsked : Option (Text × List Row) → Parsed → Type 0
IsAsked named (parsed.Merge args) =
    IsSomeAnd named (λ command. (command.0 ≡ codes "merge") × IsMergeIn command.1 args)
IsAsked named (parsed.Filter choice) =
    IsSomeAnd named (λ command. (command.0 ≡ codes "filter") × IsChoiceIn command.1 choice)
IsAsked named parsed.Cat = IsSomeAnd named (λ command. command.0 ≡ codes "cat")
IsAsked named _ = ⊤

-- a merge is asked for of one tile at least
abbrev pub HasTiles : Parsed → Type 0
HasTiles (parsed.Merge args) = 0 < length args.paths
HasTiles _ = ⊤
