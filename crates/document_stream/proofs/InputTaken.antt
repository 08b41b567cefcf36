-- From what was read of an input to why it is refused, or what it is cut into.
use Rattle.std.proofs.Common.{◌≡◌, ◌≤◌, ◌<◌, ◌++◌, ℕ, Bool, false, List, length, Result, Ok, Err, IfOk, IfErr, refl, subst, inl, inr, arith, [], ◌∷◌, ◌&&◌, true, true≢false, ap, sym, ◌∙◌}
use Rattle.std.proofs.lemmas.List.{length-append, length-map}
use Rattle.city_json.proofs.Scanning.{IsWhite-is_white, is_white-IsWhite}
use Rattle.city_json.specs.Compact.{compact}
use Rattle.city_json.specs.Grammar.{IsBlank}
use Rattle.city_json.specs.Reading.{is_white}
use Rattle.city_json.specs.Refusals.{RefusesText}
use Rattle.byte_streams.specs.Source.{GivesFirst}
use Rattle.city_json.specs.Tree.{Tree}
use Rattle.byte_streams.specs.declared.fault.Fault.{Fault}
use Rattle.byte_streams.specs.declared.fault.Fault.TheVariants.{LineTooLong, Memory, NoHeader, Read, Write}
use Rattle.city_feature.specs.Feature.{FeatureValue}
use Rattle.city_feature.specs.Header.{HeaderValue}
use Rattle.city_families.specs.Cut.{RefusesCut}
use Rattle.city_cut.specs.CutTexts.{CutsInto, RefusesRead}
use Rattle.city_families.specs.HeldTexts.{HeldTexts, texts_in}
use Rattle.city_json.specs.ObjectTexts.{PlacedObject, SpellsThere, object_of}
use Rattle.tile_stream.specs.Stream.{stream}
use Rattle.document_stream.specs.CutStream.{IsStreamOf, cut_stream}
use Rattle.byte_streams.specs.Limits.{max_line_bytes}
use Rattle.document_stream.specs.Input.{IsReadAs, RefusesInput, SomeInput}
use Rattle.document_stream.specs.Taking.{GivesCut, HasCut, IsRefusedInput, RefusesCutting, is_white_space}

pub blank : (text : List ℕ) → is_white_space text ≡ true → IsBlank text
blank [] all = tt
blank (b ∷ text) all = go (is_white b) refl (blank text) all
  where
    go : (white : Bool) → is_white b ≡ white → (is_white_space text ≡ true → IsBlank text) → (white && is_white_space text) ≡ true
        → IsBlank (b ∷ text)
    go true is rest more = (is_white-IsWhite b is, rest more)
    go false is rest more = absurd (true≢false (sym more))

pub not_blank : (text : List ℕ) → is_white_space text ≡ false → ¬ IsBlank text
not_blank [] some all = true≢false some
not_blank (b ∷ text) some all =
    let first : is_white b ≡ true = IsWhite-is_white b all.0 in
    not_blank text (ap (λ c. c && is_white_space text) (sym first) ∙ some) all.1

module _ (gives : List ℕ → Bool → Type 0) where
  -- the input came to its end
  module _ (bytes : List ℕ) (given : gives bytes false) (within : length bytes ≤ max_line_bytes) where
    pub cut_given : (header : HeaderValue) (texts : List (List ℕ)) → HasCut bytes header texts
        → GivesCut gives header texts
    cut_given header texts cut = (bytes, false, given, ((within, refl), cut))

    pub cuts_given : {X : Type 0} (answer : Result X Fault) (header : X → HeaderValue) (texts : X → List (List ℕ))
        → IfOk answer (λ cut. HasCut bytes (header cut) (texts cut))
        → IfOk answer (λ cut. GivesCut gives (header cut) (texts cut))
    cuts_given (Ok cut) header texts has = cut_given (header cut) (texts cut) has
    cuts_given (Err fault) header texts has = tt

    cause_given : (fault : Fault) → RefusesCutting fault bytes → IsRefusedInput gives fault
    cause_given Memory refused = tt
    cause_given NoHeader refused = (bytes, false, given, ((within, refl), refused))
    cause_given LineTooLong refused = absurd refused
    cause_given Read refused = absurd refused
    cause_given Write refused = absurd refused
    cause_given other refused = (bytes, false, given, ((within, refl), refused.0, refused.1))

    pub cut_refused : {X : Type 0} (answer : Result X Fault) → IfErr answer (λ fault. RefusesCutting fault bytes)
        → IfErr answer (λ fault. IsRefusedInput gives fault)
    cut_refused (Ok cut) refused = tt
    cut_refused (Err fault) refused = cause_given fault refused

  pub too_long : (after : List ℕ → Bool → Type 0) (bytes : List ℕ) → GivesFirst gives after bytes
      → max_line_bytes < length bytes → (others : List ℕ) × ((fails : Bool) × after others fails)
      → SomeInput gives (RefusesInput LineTooLong)
  too_long after bytes first past some =
      let long = length-append bytes some.0 in
      (bytes ++ some.0, some.1.0, first some.0 some.1.0 some.1.1, omega (arith, past, long))

  pub stream_given : (header : HeaderValue) (line : List ℕ) (texts : HeldTexts) → GivesCut gives header (texts_in texts)
      → line ≡ compact header.value → SomeInput gives
      (λ input. IsStreamOf input (length texts.own) (stream line (texts_in texts)))
  stream_given header line texts input head =
      let text = input.3 in
      let cut = text.1 in
      let made = cut.2 in
      (input.0, input.1, input.2, (header, made.1, (text.0, (cut.0, cut.1, made.0, made.2)), count, whole))
    where
      count : length texts.own ≡ length input.3.1.2.1
      count = sym (length-map texts.own (λ own. own ++ texts.common))
          ∙ (ap length input.3.1.2.3 ∙ length-map input.3.1.2.1 (λ (f : FeatureValue). compact f.value))

      whole : stream line (texts_in texts) ≡ cut_stream header input.3.1.2.1
      whole = rw (head, input.3.1.2.3) refl

-- a text that is not blank spells a document that is cut, or it is refused
module _ (text : List ℕ) where
  pub text_refused : (fault : Fault) → ¬ IsBlank text → RefusesText fault text → RefusesCutting fault text
  text_refused Memory some refused = tt
  text_refused NoHeader some refused = absurd refused
  text_refused LineTooLong some refused = absurd refused
  text_refused Read some refused = absurd refused
  text_refused Write some refused = absurd refused
  text_refused other some refused = (some, inl refused)

  pub document_refused : (document : Tree) → ¬ IsBlank text → IsReadAs text document → (fault : Fault)
      → RefusesCut fault document → RefusesCutting fault text
  document_refused document some spelled Memory cause = tt
  document_refused document some spelled NoHeader cause = absurd cause
  document_refused document some spelled LineTooLong cause = absurd cause
  document_refused document some spelled Read cause = absurd cause
  document_refused document some spelled Write cause = absurd cause
  document_refused document some spelled other cause = (some, inr (document, spelled, cause))

  read_refused : (document : Tree) → ¬ IsBlank text → IsReadAs text document → (fault : Fault)
      → RefusesRead fault document → RefusesCutting fault text
  read_refused document some spelled fault (inl memory) = subst (λ fault. RefusesCutting fault text) (sym memory) tt
  read_refused document some spelled fault (inr cause) = document_refused document some spelled fault cause

  -- its compact text was cut, or refused
  module _ (there : PlacedObject) (spells : SpellsThere text there) where
    pub compact_given : {X : Type 0} (answer : Result X Fault) (header : X → HeaderValue) (texts : X → List (List ℕ))
        → IfOk answer (λ cut. CutsInto (object_of there) (header cut) (texts cut))
        → IfOk answer (λ cut. HasCut text (header cut) (texts cut))
    compact_given (Ok cut) header texts made = (object_of there, spells, made)
    compact_given (Err fault) header texts made = tt

    pub compact_refused : {X : Type 0} (answer : Result X Fault) → ¬ IsBlank text
        → IfErr answer (λ fault. RefusesRead fault (object_of there))
        → IfErr answer (λ fault. RefusesCutting fault text)
    compact_refused (Ok cut) some refused = tt
    compact_refused (Err fault) some refused = read_refused (object_of there) some spells fault refused
