-- From what `clap` says of the words to what the answer says of them.
use Rattle.std.proofs.Common.{◌≡◌, ◌∙◌, ◌⊎◌, ◌||◌, ◌&&◌, sym, subst, refl, ap, ap₂, inl, inr, Bool, cond, true, false, not, true≢false, List, [], ◌∷◌, Option, Some, None, Result, Ok, Err, IfOk, codes, is_some}
use Rattle.std.proofs.lemmas.Slice.Eq.{bytes_eq-Decides}
use Rattle.std.specs.List.{list_any}
use Rattle.std.specs.Option.{option_map}
use Rattle.std.specs.Str.{bytes_eq}
use Rattle.clap.specs.Facts.{explicit_source}
use Rattle.clap.specs.Faults.{check_fault, defaults_fault, entered_fault, level_fault, settle_fault, walk_fault}
use Rattle.clap.specs.Kinds.{check_kinds, or_else}
use Rattle.clap.specs.Simple.{App, Shape, argument_words, built, built_leaf, entered, help_shape, inherited, label_of, marked_built, names_of, on_top, rows_at, with_leaf_noted}
use Rattle.clap.specs.Takes.{is_given}
use Rattle.clap.specs.Walk.{Held, Names, answers_to, finished, nothing_held, settled, stop_after, walk, walk_from}
use Rattle.clap.specs.Words.{HasKind, HasMatchesOf, IsAmong, Kinds, Row, Text, app_of, fault_of, is_simple, is_simple_and_free, kind_of, subcommand_of, subcommand_rows_of}
use Rattle.clap.specs.declared.builder.command.Command.{Command}
use Rattle.clap.specs.declared.error.Error.{Error}
use Rattle.clap.specs.declared.error.kind.ErrorKind.{ErrorKind}
use Rattle.clap.specs.declared.error.kind.ErrorKind.TheVariants.{OutOfMemory}
use Rattle.clap.specs.declared.parser.matches.ArgMatches.{ArgMatches}
use Rattle.clap.proofs.OnLiterals.{clap_on_literals}
use Rattle.command_line.proofs.Naming.{enters_no_help, first_none, is_none_of, second_none}
use Rattle.command_line.specs.Answered.{IsAnswered, is_shown}
use Rattle.command_line.specs.Asked.{IsAsked}
use Rattle.command_line.specs.Commands.{cat_app, citymerge_app, filter_app, merge_app}
use Rattle.command_line.specs.Matches.{AnswersKind, IsNamed}
use Rattle.command_line.specs.declared.parsing.Parsed.{Parsed}
use Rattle.command_line.specs.declared.parsing.Parsed.TheVariants as parsed

-- the commands are such that `clap` states their matches and their faults
simple : is_simple citymerge_app ≡ true
unfolding clap_on_literals
simple = refl

simple_and_free : is_simple_and_free citymerge_app ≡ true
unfolding clap_on_literals
simple_and_free = refl

-- ---- words with no fault name a command

abbrev all_commands : App
all_commands = built citymerge_app

abbrev merge_command : Shape
merge_command = built_leaf (inherited (on_top with_leaf_noted (on_top marked_built citymerge_app)).top merge_app.top)

abbrev filter_command : Shape
filter_command = built_leaf (inherited (on_top with_leaf_noted (on_top marked_built citymerge_app)).top filter_app.top)

abbrev cat_command : Shape
cat_command = built_leaf (inherited (on_top with_leaf_noted (on_top marked_built citymerge_app)).top cat_app.top)

abbrev help_command : Shape
help_command = built_leaf help_shape

wanted : (help has_command needed argument : Bool) → needed ≡ true
    → check_kinds help (not has_command && needed) argument ≡ [] → has_command ≡ true
wanted help true needed argument needs fine = refl
wanted help false false argument needs fine = absurd (true≢false (sym needs))
wanted true false true argument needs fine = absurd (true≢false (sym (ap is_none_of fine)))
wanted false false true argument needs fine = absurd (true≢false (sym (ap is_none_of fine)))

-- a level of the parse with no fault, of commands one of which is wanted, enters one
module _ (s : Shape) (names : Names) (h : Held) (words : List Text) (has_command : Bool) (below : Kinds)
    (fine : level_fault s names h words has_command below ≡ []) where
  abbrev end : Held
  end = (walk s.rules names h words).held

  abbrev last : Kinds
  last = check_fault s (finished s.rules end) has_command

  abbrev later : Kinds
  later = or_else (defaults_fault (settled s.rules end).rows s.rules) last

  abbrev from_end : Kinds
  from_end = or_else (settle_fault s.rules s.args_override_self end) later

  walked_fine : walk_fault s names (walk_from h) words ≡ []
  walked_fine = first_none (walk_fault s names (walk_from h) words) (or_else below from_end) fine

  has_entered : s.subcommand_required ≡ true → has_command ≡ true
  has_entered needs =
      let after_walk : or_else below from_end ≡ [] =
      second_none (walk_fault s names (walk_from h) words) (or_else below from_end) fine in
      let at_end : from_end ≡ [] = second_none below from_end after_walk in
      let after_settling : later ≡ [] = second_none (settle_fault s.rules s.args_override_self end) later at_end in
      let checked : last ≡ [] = second_none (defaults_fault (settled s.rules end).rows s.rules) last after_settling in
      wanted (not has_command && (s.arg_required_else_help
      && not (list_any (λ r. explicit_source r.source) (finished s.rules end))))
      has_command s.subcommand_required
      (not (s.subcommand_negates_reqs && has_command)
      && list_any (λ a. a.required && not (is_given a.id (finished s.rules end))) s.rules)
      needs checked

differs : (name : Text) → bytes_eq name (codes "help") ≡ false → bytes_eq (codes "help") name ≡ false
differs name other = go (bytes_eq (codes "help") name) refl
  where
    go : (b : Bool) → bytes_eq (codes "help") name ≡ b → b ≡ false
    go false e = refl
    go true e =
        let same : codes "help" ≡ name = (bytes_eq-Decides (codes "help") name).0 e in
        sym ((bytes_eq-Decides name (codes "help")).1 (sym same)) ∙ other

abbrev met_of : (merges filters cats helps : Bool) → Option Shape
met_of merges filters cats helps =
    cond merges (Some merge_command)
    (cond filters (Some filter_command) (cond cats (Some cat_command) (cond helps (Some help_command) None)))

one_of_them : (words : List Text) (merges filters cats helps : Bool) → helps ≡ false
    → is_some (option_map (λ s. rows_at s words) (met_of merges filters cats helps)) ≡ true
    → IsNamed (option_map (λ s. rows_at s words) (met_of merges filters cats helps))
one_of_them words true filters cats helps other has = inl refl
one_of_them words false true cats helps other has = inr (inl refl)
one_of_them words false false true helps other has = inr (inr refl)
one_of_them words false false false true other has = absurd (true≢false other)
one_of_them words false false false false other has = absurd (true≢false (sym has))

entered_named : (stop : Option (Text × List Text)) → is_some (entered all_commands stop) ≡ true
    → ((p : Text × List Text) → stop ≡ Some p → bytes_eq p.0 (codes "help") ≡ false)
    → IsNamed (entered all_commands stop)
entered_named None has free = absurd (true≢false (sym has))
entered_named (Some p) has free =
    let other : answers_to p.0 (label_of help_command) ≡ false = ap (λ b. b || false) (differs p.0 (free p refl)) in
    one_of_them p.1 (answers_to p.0 (label_of merge_command)) (answers_to p.0 (label_of filter_command))
    (answers_to p.0 (label_of cat_command)) (answers_to p.0 (label_of help_command)) other has

names_command : (words : List Text) → fault_of citymerge_app words ≡ [] → IsNamed (subcommand_of citymerge_app words)
names_command words none =
    let s : Shape = all_commands.top in
    let names : Names = names_of all_commands in
    let arguments : List Text = argument_words citymerge_app words in
    let stop : Option (Text × List Text) = stop_after s.rules names arguments in
    let has : Bool = is_some (entered all_commands stop) in
    let below : Kinds = entered_fault all_commands stop in
    entered_named stop (has_entered s names nothing_held arguments has below none refl)
    (λ p met. enters_no_help s names refl arguments (walk_from nothing_held) p
    (walked_fine s names nothing_held arguments has below none) met)

-- ---- the kinds of an error

or_right : (a b : Bool) → b ≡ true → (a || b) ≡ true
or_right true b e = refl
or_right false b e = e

any_among : (p : ErrorKind → Bool) (k : ErrorKind) (kinds : Kinds) → p k ≡ true → IsAmong k kinds
    → list_any p kinds ≡ true
any_among p k [] e h = absurd h
any_among p k (x ∷ xs) e (inl same) =
    let here : p x ≡ true = ap p (sym same) ∙ e in
    rw here refl
any_among p k (x ∷ xs) e (inr later) = or_right (p x) _ (any_among p k xs e later)

kind_answered : (kinds : Kinds) (named : Option (Text × List Row)) (k : ErrorKind) (answer : Parsed)
    → (k ≡ OutOfMemory) ⊎ IsAmong k kinds → AnswersKind k answer → IsAnswered kinds named answer
kind_answered kinds named k (parsed.Merge args) has h = absurd h
kind_answered kinds named k (parsed.Filter choice) has h = absurd h
kind_answered kinds named k parsed.Cat has h = absurd h
kind_answered kinds named k parsed.Memory has h = tt
kind_answered kinds named k (parsed.Help text) (inl out) h = absurd (true≢false (sym h ∙ ap is_shown out))
kind_answered kinds named k (parsed.Help text) (inr among) h = any_among is_shown k kinds h among
kind_answered kinds named k (parsed.Usage text) (inl out) h = absurd (h.1 out)
kind_answered kinds named k (parsed.Usage text) (inr among) h =
    inl (any_among (λ x. not (is_shown x)) k kinds (ap not h.0) among)

-- ---- what a parse of the words gives

module _ (command : Command) (words read : List Text) (same : app_of command ≡ citymerge_app)
    (given : read ≡ words) where
  module _ (m : ArgMatches) (has : HasMatchesOf (app_of command) read m)
      (none : is_simple_and_free (app_of command) ≡ true → fault_of (app_of command) read ≡ []) where
    found : subcommand_rows_of m ≡ subcommand_of citymerge_app words
    found = (has (ap is_simple same ∙ simple)).1 ∙ ap₂ subcommand_of same given

    no_fault : fault_of citymerge_app words ≡ []
    no_fault = sym (ap₂ fault_of same given) ∙ none (ap is_simple_and_free same ∙ simple_and_free)

    pub is_named : IsNamed (subcommand_rows_of m)
    is_named = subst IsNamed (sym found) (names_command words no_fault)

    module _ {E : Type 0} (answer : Result Parsed E) where
      pub ok_asked : IfOk answer (IsAsked (subcommand_rows_of m))
          → IfOk answer (IsAsked (subcommand_of citymerge_app words))
      ok_asked = subst (λ named. IfOk answer (IsAsked named)) found

      pub ok_answered : IfOk answer (IsAnswered [] (subcommand_rows_of m))
          → IfOk answer (IsAnswered (fault_of citymerge_app words) (subcommand_of citymerge_app words))
      ok_answered h = subst (λ named. IfOk answer (IsAnswered (fault_of citymerge_app words) named)) found
          (subst (λ kinds. IfOk answer (IsAnswered kinds (subcommand_rows_of m))) (sym no_fault) h)

  pub err_answered : {E : Type 0} (named : Option (Text × List Row)) (error : Error) (answer : Result Parsed E)
      → (is_simple_and_free (app_of command) ≡ true → HasKind (fault_of (app_of command) read) error)
      → IfOk answer (AnswersKind (kind_of error)) → IfOk answer (IsAnswered (fault_of citymerge_app words) named)
  err_answered named error (Err e) has h = tt
  err_answered named error (Ok answer) has h =
      kind_answered (fault_of citymerge_app words) named (kind_of error) answer
      (subst (λ kinds. HasKind kinds error) (ap₂ fault_of same given)
      (has (ap is_simple_and_free same ∙ simple_and_free))) h
