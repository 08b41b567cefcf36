-- What `clap` answers, and what the functions over its answers say.
use Rattle.std.specs.Prelude.{◌≡◌, ◌≢◌, ◌⊎◌, List, Option, codes, false, true, IsSomeAnd, ⊤}
use Rattle.clap.specs.Words.{Row, Text, found_of, rows_of}
use Rattle.clap.specs.declared.error.kind.ErrorKind.{ErrorKind}
use Rattle.clap.specs.declared.error.kind.ErrorKind.TheVariants.{OutOfMemory}
use Rattle.clap.specs.declared.parser.matches.ArgMatches.{ArgMatches}
use Rattle.command_line.specs.Answered.{is_shown}
use Rattle.command_line.specs.Asked.{IsAsked}
use Rattle.command_line.specs.declared.parsing.Parsed.{Parsed}
use Rattle.command_line.specs.declared.parsing.Parsed.TheVariants as parsed

abbrev pub rows_in : ArgMatches → List Row
rows_in matches = rows_of (found_of matches)

-- the words name a command
abbrev pub IsNamed : Option (Text × List Row) → Type 0
IsNamed named =
    IsSomeAnd named (λ command.
    (command.0 ≡ codes "merge") ⊎ (command.0 ≡ codes "filter") ⊎ (command.0 ≡ codes "cat"))

-- the answer fits an error of `clap` of that kind
abbrev pub AnswersKind : ErrorKind → Parsed → Type 0
AnswersKind kind (parsed.Help text) = is_shown kind ≡ true
AnswersKind kind (parsed.Usage text) = (is_shown kind ≡ false) × (kind ≢ OutOfMemory)
AnswersKind kind parsed.Memory = ⊤
AnswersKind kind _ = ⊥

-- the answer is what the words ask for, and no help and no mistake
abbrev pub IsRequest : Option (Text × List Row) → Parsed → Type 0
IsRequest named (parsed.Merge args) = IsAsked named (parsed.Merge args)
IsRequest named (parsed.Filter choice) = IsAsked named (parsed.Filter choice)
IsRequest named parsed.Cat = IsAsked named parsed.Cat
IsRequest named _ = ⊥
