-- Words with which `clap` finds no fault name a command, and not `help`.
use Rattle.std.proofs.Common.{◌≡◌, ◌∙◌, ◌&&◌, Bool, List, Option, Some, None, [], ◌∷◌, ap, cond, false, not, refl, subst, sym, true, true≢false, codes, is_some, ℕ}
use Rattle.std.specs.List.{fold}
use Rattle.std.specs.Option.{option_map_or}
use Rattle.std.specs.Str.{bytes_eq}
use Rattle.clap.proofs.WalkLemmas.{walk_stopped}
use Rattle.clap.specs.Faults.{other_fault, step_fault, walk_fault}
use Rattle.clap.specs.Kinds.{Kinds, or_else}
use Rattle.clap.specs.Lexer.{long_of, short_of}
use Rattle.clap.specs.Simple.{Shape}
use Rattle.clap.specs.Walk.{Held, Names, Outcome, Rule, Step, Text, Waiting, Walk, after_flag, after_step, arg_by_index, done, idle, long_or_other, next, option, plain, plain_word, positional, refused, short_or_plain, subcommand, subcommand_met, subcommand_or_other, to_positional, trailing, value, waits, walked}
use Rattle.clap.specs.declared.error.kind.ErrorKind.TheVariants.{DisplayHelp, InvalidSubcommand}

none≢some : {A : Type 0} (x : A) → None ≡ Some x → ⊥
none≢some x e = true≢false (sym (ap is_some e))

abbrev pub is_none_of : Kinds → Bool
is_none_of [] = true
is_none_of (k ∷ ks) = false

pub first_none : (a b : Kinds) → or_else a b ≡ [] → a ≡ []
first_none [] b e = refl
first_none (k ∷ ks) b e = absurd (true≢false (sym (ap is_none_of e)))

pub second_none : (a b : Kinds) → or_else a b ≡ [] → b ≡ []
second_none [] b e = e
second_none (k ∷ ks) b e = absurd (true≢false (sym (ap is_none_of e)))

-- ---- one step

-- the step enters no command
abbrev enters_none : Step → Bool
enters_none (subcommand name) = false
enters_none _ = true

abbrev going : Walk → Walk
going w = record w { stopped = None }

going_is : (w : Walk) → w.stopped ≡ None → w ≡ going w
going_is w e = ap (λ o. record w { stopped = o }) e

module _ (c : List Rule) (word : Text) where
  plain_enters_none : (waiting : Waiting) (h : Held) → enters_none (plain_word c waiting word h).1 ≡ true
  plain_enters_none (option id) h = refl
  plain_enters_none idle h = refl
  plain_enters_none positional h = refl

  flag_enters_none : (waiting : Waiting) (h : Held) (o : Outcome) → enters_none (after_flag c waiting word h o).1 ≡ true
  flag_enters_none waiting h done = refl
  flag_enters_none waiting h (waits id) = refl
  flag_enters_none waiting h plain = plain_enters_none waiting h
  flag_enters_none waiting h refused = plain_enters_none waiting h

  short_enters_none : (waiting : Waiting) (h : Held) (flags : Option Text)
      → enters_none (short_or_plain c waiting word flags h).1 ≡ true
  short_enters_none waiting h (Some flags) = flag_enters_none waiting _ _
  short_enters_none waiting h None = plain_enters_none waiting h

  long_enters_none : (waiting : Waiting) (h : Held) (long : Option (Text × Option Text))
      → enters_none (long_or_other c waiting word long h).1 ≡ true
  long_enters_none waiting h (Some p) = flag_enters_none waiting _ _
  long_enters_none waiting h None = short_enters_none waiting h (short_of word)

  other_enters_none : (waiting : Waiting) (position : ℕ) (h : Held)
      → enters_none (subcommand_or_other c None waiting position word h).1 ≡ true
  other_enters_none waiting position h = go (bytes_eq word (45 ∷ 45 ∷ []))
    where
      go : (b : Bool) → enters_none (cond b (h, trailing position) (long_or_other c waiting word (long_of word) h)).1
          ≡ true
      go true = refl
      go false = long_enters_none waiting h (long_of word)

  goes_on : (w : Walk) (h : Held) (step : Step) → enters_none step ≡ true
      → (after_step c word (going w) h step).stopped ≡ None
  goes_on w h (next waiting) e = refl
  goes_on w h (trailing position) e = refl
  goes_on w h (subcommand name) e = absurd (true≢false (sym e))
  goes_on w h value e = go (arg_by_index c w.position)
    where
      go : (found : Option Rule) → (to_positional c found word (going w) h).stopped ≡ None
      go None = refl
      go (Some a) = refl

-- ---- all words

not_help : (is_help disabled : Bool) → disabled ≡ false
    → cond (is_help && not disabled) (DisplayHelp ∷ InvalidSubcommand ∷ []) [] ≡ [] → is_help ≡ false
not_help false disabled e fine = refl
not_help true true e fine = absurd (true≢false e)
not_help true false e fine = absurd (true≢false (sym (ap is_none_of fine)))

module _ (s : Shape) (names : Names) (helps : s.disable_help_subcommand ≡ false) where
  abbrev pub is_help : Text → Bool
  is_help name = bytes_eq name (codes "help")

  -- the words from a walk on enter no `help` where they have no fault
  abbrev pub IsFree : Walk → List Text → (Text × List Text) → Type 0
  IsFree w words p = walk_fault s names w words ≡ []
      → (fold (walked s.rules names) w words).stopped ≡ Some p → is_help p.0 ≡ false

  module _ (w : Walk) (word : Text) (rest : List Text) (p : Text × List Text) (again : (v : Walk)
      → IsFree (going v) rest p) where
    abbrev step_at : Bool → Option Text → Held × Step
    step_at trails met = cond trails (w.held, value) (subcommand_or_other s.rules met w.waiting w.position word w.held)

    abbrev walk_at : Bool → Option Text → Walk
    walk_at trails met = after_step s.rules word (going w) (step_at trails met).0 (step_at trails met).1

    abbrev fault_at : Bool → Option Text → Kinds
    fault_at trails met = or_else (cond trails [] (other_fault s met word w.held))
        (step_fault s w.position (step_at trails met).0 (step_at trails met).1)

    on : (v : Walk) → v.stopped ≡ None → IsFree v rest p
    on v e = subst (λ x. IsFree x rest p) (sym (going_is v e)) (again v)

    one_more : (trails : Bool) (met : Option Text)
        → or_else (fault_at trails met) (walk_fault s names (walk_at trails met) rest) ≡ []
        → (fold (walked s.rules names) (walk_at trails met) rest).stopped ≡ Some p → is_help p.0 ≡ false
    one_more true met fine stops =
        on (walk_at true met) (goes_on s.rules word w w.held value refl) (second_none _ _ fine) stops
    one_more false None fine stops =
        on (walk_at false None)
        (goes_on s.rules word w (step_at false None).0 (step_at false None).1
        (other_enters_none s.rules word w.waiting w.position w.held))
        (second_none _ _ fine) stops
    one_more false (Some name) fine stops =
        let named : is_help name ≡ false =
        not_help (is_help name) s.disable_help_subcommand helps (first_none _ _ (first_none _ _ fine)) in
        let same : Some (name, rest) ≡ Some p = ap (λ v. v.stopped) (walk_stopped s.rules names w name [] rest)
        ∙ stops in
        sym (ap (λ o. is_help (option_map_or (λ q. q.0) o name)) same) ∙ named

  pub enters_no_help : (words : List Text) (w : Walk) (p : Text × List Text) → IsFree (going w) words p
  unfolding walked walk_fault
  enters_no_help [] w p fine stops = absurd (none≢some p stops)
  enters_no_help (word ∷ rest) w p fine stops =
      one_more w word rest p (λ v. enters_no_help rest v p) w.is_trailing
      (subcommand_met names w.waiting word) fine stops
