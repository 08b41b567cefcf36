-- What reading the whole text tells of it.
use Rattle.std.proofs.Common.{◌≡◌, ◌∙◌, ℕ, List, Some, None, Result, Ok, Err, refl, sym, subst, IfOk, IfErr, MatchResult}
use Rattle.std.proofs.lemmas.Option.{none-some}
use Rattle.std.specs.Str.{IsUtf8}
use Rattle.city_json.specs.Compact.{compact}
use Rattle.city_json.specs.Depth.{IsDeep}
use Rattle.city_json.specs.Fits.{IsDistinct, Fits}
use Rattle.city_json.specs.Gives.{Refuses}
use Rattle.city_json.specs.Grammar.{Spells}
use Rattle.city_json.specs.Reading.{text_at}
use Rattle.city_json.specs.Refusals.{RefusesText, SpellsNone, SpellsRepeated}
use Rattle.city_json.specs.Tree.{Tree, tree}
use Rattle.city_json.specs.Writable.{IsWritable}
use Rattle.byte_streams.specs.declared.fault.Fault.{Fault}
use Rattle.city_json.specs.declared.json.Json.{Json}
use Rattle.byte_streams.specs.declared.fault.Fault.TheVariants.{NotUtf8, TooDeep, Syntax, DuplicateName, Memory}
use Rattle.city_json.proofs.CompactLaws.{compact-spells}
use Rattle.city_json.proofs.Complete.{one_meaning, text_at-complete}
use Rattle.city_json.proofs.DepthLaws.{nests_as_value}
use Rattle.city_json.proofs.Sound.{text_at-sound}

-- A text that is not deep is read wherever it spells a value.
text_at-spelled : (text : List ℕ) (value : Tree) → (IsDeep text → ⊥) → Spells text value → text_at text ≡ Some value
text_at-spelled text value shallow spells =
    text_at-complete text value spells.1 ((nests_as_value text value spells).0 shallow)

spells_none : (text : List ℕ) → (IsDeep text → ⊥) → text_at text ≡ None → SpellsNone text
spells_none text shallow none value spells = none-some value (sym none ∙ text_at-spelled text value shallow spells)

pub text_refused : (fault : Fault) (text : List ℕ) → IsUtf8 text → (IsDeep text → ⊥) → Refuses fault (text_at text)
    → RefusesText fault text
text_refused Memory text utf8 shallow read = (utf8, shallow)
text_refused Syntax text utf8 shallow read = ((utf8, shallow), spells_none text shallow read)
text_refused _ text utf8 shallow read = absurd read

pub text_read : (text : List ℕ) (value : Tree) → IsUtf8 text → text_at text ≡ Some value → IsDistinct value
    → Spells text value × Fits value
text_read text value utf8 read distinct =
    let found = text_at-sound text value read in
    ((utf8, found.0), (found.1, distinct))

pub text_repeats : (text : List ℕ) (value : Tree) → IsUtf8 text → text_at text ≡ Some value → (IsDistinct value → ⊥)
    → SpellsRepeated text
text_repeats text value utf8 read repeated = (value, (utf8, (text_at-sound text value read).0), repeated)

-- The text is taken, and this is its value.
abbrev pub IsTaken : List ℕ → Json → Type 0
IsTaken text value = Spells text (tree value) × Fits (tree value) × (IsDeep text → ⊥)

-- What was printed of a value that fits is read again, unless memory is out.
pub answers_printed : (text : List ℕ) (answer : Result Json Fault) → IfOk answer (IsTaken text)
    → IfErr answer (λ fault. RefusesText fault text) → (value : Tree) → IsWritable value → Fits value
    → text ≡ compact value
    → MatchResult answer (λ again. tree again ≡ value) (λ fault. fault ≡ Memory)
answers_printed text answer taken refused value writable fits printed = by_answer answer taken refused
  where
    spells : Spells text value
    spells = rw printed (compact-spells value writable)

    shallow : IsDeep text → ⊥
    shallow = (nests_as_value text value spells).1 fits.0

    by_answer : (answer : Result Json Fault) → IfOk answer (IsTaken text)
        → IfErr answer (λ fault. RefusesText fault text)
        → MatchResult answer (λ again. tree again ≡ value) (λ fault. fault ≡ Memory)
    by_answer (Ok again) taken refused = one_meaning text (tree again) value taken.0.1 spells.1
    by_answer (Err NotUtf8) taken refused = absurd (refused spells.0)
    by_answer (Err TooDeep) taken refused = absurd (shallow refused.1)
    by_answer (Err Syntax) taken refused = absurd (refused.1 value spells)
    by_answer (Err DuplicateName) taken refused =
        absurd (refused.1.2 (subst IsDistinct (one_meaning text value refused.1.0 spells.1 refused.1.1.1) fits.1))
    by_answer (Err Memory) taken refused = refl
    by_answer (Err _) taken refused = absurd refused
