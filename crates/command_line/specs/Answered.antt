-- Which words are taken, which are answered with help, and which are refused and why.
use Rattle.std.specs.Prelude.{◌≡◌, ◌⊎◌, List, [], Option, Some, None, Bool, not, codes, true, false}
use Rattle.std.specs.Prelude.{IfSome, IsSomeAnd, ⊤}
use Rattle.std.specs.List.{list_any}
use Rattle.city_feature.specs.Area.{IsAreaText}
use Rattle.city_feature.specs.Choice.{HasEmptyName}
use Rattle.city_feature.specs.declared.choices.area.Area.{Area}
use Rattle.clap.specs.Words.{Kinds, Row, Text}
use Rattle.clap.specs.declared.error.kind.ErrorKind.{ErrorKind}
use Rattle.clap.specs.declared.error.kind.ErrorKind.TheVariants.{DisplayHelp, DisplayVersion}
use Rattle.command_line.specs.Asked.{area_text, paths_in, types_text}
use Rattle.command_line.specs.declared.parsing.Parsed.{Parsed}
use Rattle.command_line.specs.declared.parsing.Parsed.TheVariants as parsed
use Rattle.command_line.specs.declared.refusal.Refusal.{Refusal}
use Rattle.command_line.specs.declared.refusal.Refusal.TheVariants.{BadArea, BadTypes, Memory, NoTile}

-- what is said of a refusal; out of memory nothing can be
abbrev pub message_of : Refusal → Option Text
message_of BadTypes = Some (codes "citymerge: bad --cotype\n")
message_of BadArea = Some (codes "citymerge: bad --bbox\n")
message_of NoTile = Some (codes "citymerge: no TILE\n")
message_of Memory = None

-- an area is given, and its text writes none
abbrev pub HasBadArea : List Row → Type 0
HasBadArea rows = IsSomeAnd (area_text rows) (λ text. (area : Area) → ¬ IsAreaText text area)

-- why a choice is refused: the types are looked at before the area
abbrev pub RefusesChoice : Refusal → List Row → Type 0
RefusesChoice BadTypes rows = IsSomeAnd (types_text rows) HasEmptyName
RefusesChoice BadArea rows =
    IfSome (types_text rows) (λ text. ¬ HasEmptyName text) × HasBadArea rows
RefusesChoice NoTile rows = ⊥
RefusesChoice Memory rows = ⊤

-- why a command is refused
abbrev pub RefusesCommand : Refusal → Text × List Row → Type 0
RefusesCommand NoTile command = (command.0 ≡ codes "merge") × (paths_in command.1 ≡ [])
RefusesCommand refusal command = RefusesChoice refusal command.1

-- why words are refused that `clap` takes
abbrev pub RefusesNamed : Refusal → Option (Text × List Row) → Type 0
RefusesNamed refusal named = IsSomeAnd named (RefusesCommand refusal)

-- of the kinds of error of `clap`, those that are no mistake
abbrev pub is_shown : ErrorKind → Bool
is_shown DisplayHelp = true
is_shown DisplayVersion = true
is_shown _ = false

-- the answer fits the kinds of error that `clap` may give for the words, and the command that they
-- name
abbrev pub IsAnswered : Kinds → Option (Text × List Row) → Parsed → Type 0
IsAnswered kinds named (parsed.Merge args) = kinds ≡ []
IsAnswered kinds named (parsed.Filter choice) = kinds ≡ []
IsAnswered kinds named parsed.Cat = kinds ≡ []
IsAnswered kinds named (parsed.Help text) = list_any is_shown kinds ≡ true
IsAnswered kinds named (parsed.Usage text) =
    (list_any (λ kind. not (is_shown kind)) kinds ≡ true)
    ⊎ ((kinds ≡ [])
    × (refusal : Refusal) × RefusesNamed refusal named × (message_of refusal ≡ Some text))
IsAnswered kinds named parsed.Memory = ⊤
