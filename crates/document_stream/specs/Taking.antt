-- What is known of an input once it was read.
use Rattle.std.specs.Prelude.{ℕ, Bool, List, Result, Ok, Err}
use Rattle.std.specs.List.{list_all}
use Rattle.city_json.specs.Grammar.{IsBlank}
use Rattle.city_json.specs.Reading.{is_white}
use Rattle.city_json.specs.Tree.{Tree}
use Rattle.byte_streams.specs.declared.fault.Fault.{Fault}
use Rattle.byte_streams.specs.declared.fault.Fault.TheVariants.{LineTooLong, Memory, NoHeader, Read, Write}
use Rattle.city_feature.specs.Header.{HeaderValue}
use Rattle.city_cut.specs.CutTexts.{CutsInto}
use Rattle.tile_stream.specs.Unread.{failed_reads_after}
use Rattle.document_stream.specs.Input.{IsReadAs, IsWholeInput, RefusesDocument, RefusesInput, SomeInput}

abbrev pub is_white_space : List ℕ → Bool
is_white_space text = list_all is_white text

-- a text spells a document that is
abbrev pub HasCut : List ℕ → HeaderValue → List (List ℕ) → Type 0
HasCut text header texts = (document : Tree) × IsReadAs text document × CutsInto document header texts

-- the reader may give an input with such a text
abbrev pub GivesCut : (List ℕ → Bool → Type 0) → HeaderValue → List (List ℕ) → Type 0
GivesCut gives header texts = SomeInput gives (λ input. IsWholeInput input × HasCut input.bytes header texts)

-- a text is blank, or that of no document that is cut, or memory ran out
abbrev pub RefusesCutting : Fault → List ℕ → Type 0
RefusesCutting Memory text = Unit {0}
RefusesCutting NoHeader text = IsBlank text
RefusesCutting LineTooLong text = ⊥
RefusesCutting Read text = ⊥
RefusesCutting Write text = ⊥
RefusesCutting fault text = (¬ IsBlank text) × RefusesDocument fault text

-- an input is refused for a cause in it, or memory ran out
abbrev pub IsRefusedInput : (List ℕ → Bool → Type 0) → Fault → Type 0
IsRefusedInput gives Memory = Unit {0}
IsRefusedInput gives fault = SomeInput gives (RefusesInput fault)

-- the count of failed reads after an input was taken: it grows where that is why it was refused
abbrev pub failed_reads_after_taking : {X : Type 0} → Result X Fault → ℕ → ℕ
failed_reads_after_taking (Ok x) count = count
failed_reads_after_taking (Err fault) count = failed_reads_after fault count
