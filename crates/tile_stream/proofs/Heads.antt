-- The head of a tile, from its first line.
use Rattle.std.proofs.Common.{◌≡◌, ◌⊎◌, ◌≢◌, ◌<◌, ◌^◌, length, ℕ, Bool, true, false, List, [], ◌∷◌, Option, Some, None, Result, Ok, Err, IfOk, IfErr, IfNone, IfSome, refl, sym, ap, subst, ◌∙◌, inl, inr, arith}
use Rattle.city_json.proofs.Complete.{one_meaning}
use Rattle.city_json.specs.Compact.{compact}
use Rattle.city_json.specs.Fits.{Fits}
use Rattle.city_json.specs.Grammar.{Spells}
use Rattle.city_json.specs.ObjectTexts.{PlacedObject, SpellsThere, object_of}
use Rattle.city_json.specs.Refusals.{RefusesText}
use Rattle.city_json.specs.Tree.{Tree, tree}
use Rattle.city_json.specs.declared.json.Json.{Json}
use Rattle.byte_streams.specs.declared.fault.Fault.{Fault}
use Rattle.byte_streams.specs.declared.fault.Fault.TheVariants.{NoHeader, Memory, Write}
use Rattle.city_families.specs.Lines.{texts_of}
use Rattle.city_feature.specs.Feature.{FeatureValue}
use Rattle.city_feature.specs.FeatureLine.{SpellsFeature}
use Rattle.cut_on_text.proofs.SpelledFeatures.{texts_spell}
use Rattle.std.specs.List.{AllZip}
use Rattle.city_feature.specs.Header.{HeaderValue, HoldsCity, IsHeader, RefusesHeader}
use Rattle.city_feature.specs.Values.{HeaderJson, header_value}
use Rattle.tile_stream.specs.Head.{SpellsHead, SpellsHeadOf, HoldsHead, RefusesHeadValue, RefusesHead, SpellsNoCity, HasNoHead, LinesHaveNoHead, SomeTile, GivesHead, GivesHeld}
use Rattle.tile_stream.specs.Held.{HeldLine}
use Rattle.tile_stream.specs.Tile.{Stretch, TileLines, stretch_of, line_before, nothing_left, only_fault}
use Rattle.byte_streams.specs.declared.places.LineFault.{LineFault}
use Rattle.tile_stream.specs.Unread.{GivesLine, MayBeOver, IsRefused, ComesFrom}

abbrev at_line : ℕ → Fault → LineFault
at_line number fault = record { line = number; fault = fault }

pub true_is_false : (answer : Bool) → answer ≡ true → answer ≡ false → ⊥
true_is_false answer is not = cc (sym is ∙ not)

-- a value that the line spells stands for a header and for features with these texts
module _ (line : List ℕ) (value : Tree) (spells : Spells line value) (fits : Fits value) where
  spells_head : length line < 2 ^ 64 → (header : HeaderValue) (features : List FeatureValue) (texts : List (List ℕ))
      → HoldsHead value header features → texts ≡ texts_of features → SpellsHeadOf line header texts
  spells_head short header features texts (inl cut) is =
      let all = texts_spell line value header features short spells fits cut.2 in
      (features, (value, spells, fits, inl cut), subst (λ ts. AllZip SpellsFeature ts features) (sym is) all)
  spells_head short header features texts (inr taken) is =
      let none : texts ≡ [] = is ∙ ap texts_of taken.3 in
      let both : AllZip SpellsFeature texts features =
      subst (λ ts. AllZip SpellsFeature ts features) (sym none)
      (subst (λ fs. AllZip SpellsFeature [] fs) (sym taken.3) tt) in
      (features, (value, spells, fits, inr taken), both)

-- an object that the line spells was taken as a head on its text, or refused
module _ (line : List ℕ) (there : PlacedObject) (spells : SpellsThere line there) {X : Type 0} where
  pub head_found : length line < 2 ^ 64 → (header : X → HeaderValue) (texts : X → List (List ℕ))
      (result : Result (Option X) Fault)
      → IfOk result (λ found. IfSome found (λ x. (features : List FeatureValue)
      × HoldsHead (object_of there) (header x) features × (texts x ≡ texts_of features)))
      → IfOk result (λ found. IfSome found (λ x. SpellsHeadOf line (header x) (texts x)))
  head_found short header texts (Ok (Some x)) (features, holds, is) =
      spells_head line (object_of there) spells.0 spells.1 short (header x) features (texts x) holds is
  head_found short header texts (Ok None) stands = tt
  head_found short header texts (Err fault) stands = tt

  pub no_city_found : (result : Result (Option X) Fault)
      → IfOk result (λ found. IfNone found (¬ HoldsCity (object_of there)))
      → IfOk result (λ found. IfNone found (SpellsNoCity line))
  no_city_found (Ok (Some x)) none = tt
  no_city_found (Ok None) none =
      λ value other. subst (λ v. ¬ HoldsCity v) (one_meaning line (object_of there) value spells.0.1 other.1) none
  no_city_found (Err fault) none = tt

  pub head_not_found : (result : Result (Option X) Fault)
      → IfErr result (λ fault. (fault ≡ Memory) ⊎ RefusesHeadValue fault (object_of there))
      → IfErr result (λ fault. RefusesHead fault line)
  head_not_found (Ok found) is = tt
  head_not_found (Err fault) is = elim is [
    | inl memory ↦ inl (subst (λ f. RefusesText f line) (sym memory) (spells.0.0, spells.2))
    | inr refused ↦ inr (object_of there, spells.0, spells.1, refused)
  ]

-- a value that the line spells and that holds no city was taken as a header, or refused
module _ (line : List ℕ) (json : Json) (spells : Spells line (tree json)) (fits : Fits (tree json))
    (none : ¬ HoldsCity (tree json)) where
  pub header_taken : length line < 2 ^ 64 → (header : HeaderJson) → (header.json ≡ json)
      × IsHeader (tree json) header.grid → (texts : List (List ℕ)) → texts ≡ []
      → SpellsHeadOf line (header_value header) texts
  header_taken short header is texts empty =
      spells_head line (tree json) spells fits short (header_value header) [] texts
      (inr (none, is.1, ap tree is.0, refl)) empty

  pub header_refused : (fault : Fault) → RefusesHeader fault (tree json) → RefusesHead fault line
  header_refused fault refused = inr (tree json, spells, fits, inr (none, refused))

memory_in : (lines : List Stretch) (fault : Option LineFault) (last number : ℕ) → 0 < number
    → ComesFrom number lines fault last → LinesHaveNoHead lines fault last (at_line number Memory)
memory_in [] None last number counted comes = inr (counted, (refl, comes))
memory_in [] (Some fault) last number counted comes = inr (counted, (refl, comes))
memory_in (line ∷ others) fault last number counted comes = inr (counted, (refl, comes))

module _ (before : TileLines → Type 0) where
  pub no_line : MayBeOver before → SomeTile before (λ tile. HasNoHead tile (at_line 0 NoHeader))
  no_line over = (nothing_left over.0, over.1, inl (refl, refl))

  pub no_head : (fault : Fault) (number : ℕ) → 0 < number → IsRefused fault number before
      → SomeTile before (λ tile. HasNoHead tile (at_line number fault))
  no_head Memory number counted refused = (
    refused.0,
    refused.1,
    memory_in refused.0.lines refused.0.fault refused.0.last number counted refused.2,
  )
  no_head other number counted refused = (only_fault number other, refused, inl refl)

  module _ (after : TileLines → Type 0) (number : ℕ) (bytes : List ℕ) (gives : GivesLine before after number bytes)
    where
      gives_one : (header : HeaderValue) (features : List FeatureValue) → SpellsHead bytes header features
          → GivesHead before after header (record { line = number; features = features })
      gives_one header features spells left leaves =
          let line = stretch_of number gives.0 bytes in
          (line_before line left, gives.1 left leaves, (line, refl, refl, spells))

      pub gives_head : (header : HeaderValue) (texts : List (List ℕ)) → SpellsHeadOf bytes header texts
          → GivesHeld before after header (record { line = number; texts = texts })
      gives_head header texts spells =
          (record { line = number; features = spells.0 }, (refl, spells.2), gives_one header spells.0 spells.1)

      pub head_fault : (left : TileLines) → after left → (fault : Fault) → RefusesHead fault bytes
          → SomeTile before (λ tile. HasNoHead tile (at_line number fault))
      head_fault left leaves fault refused =
          (line_before (stretch_of number gives.0 bytes) left, gives.1 left leaves, inl (refl, refused))

-- a head is not refused because a write failed
pub no_failed_write : (line : List ℕ) (fault : Fault) → RefusesHead fault line → fault ≢ Write
no_failed_write line fault refused is = never (subst (λ (f : Fault). RefusesHead f line) is refused)
  where
    first : (value : Tree) → RefusesHeadValue Write value → ⊥
    first value (inl cut) = cut.1
    first value (inr header) = header.1

    never : RefusesHead Write line → ⊥
    never (inl text) = text
    never (inr value) = first value.0 value.3

-- the line of a header was made of it, or there was no memory for it
module _ (before after : TileLines → Type 0) (header : HeaderValue) (held : HeldLine)
    (gives : GivesHeld before after header held) where
  pub line_given : (result : Result (List ℕ) LineFault) → IfOk result (λ l. l ≡ compact header.value)
      → IfOk result (λ l. (h : HeaderValue) × (l ≡ compact h.value) × GivesHeld before after h held)
  line_given (Ok l) is = (header, is, gives)
  line_given (Err e) is = tt

  pub no_memory : 0 < held.line → (left : TileLines) → after left
      → SomeTile before (λ tile. HasNoHead tile (at_line held.line Memory))
  no_memory counted left leaves =
      let given = gives.2 left leaves in
      let line = given.2.0 in
      let out : LinesHaveNoHead (line ∷ left.lines) left.fault left.last (at_line held.line Memory) =
      inr (counted, (refl, omega (arith, given.2.2, gives.1.0))) in
      (given.0, given.1, subst (λ (tile : TileLines). HasNoHead tile (at_line held.line Memory)) (sym given.2.1) out)

  pub line_refused : (number : ℕ) → number ≡ held.line → 0 < number → (left : TileLines) → after left
      → (result : Result (List ℕ) LineFault) → IfErr result (λ e. e ≡ record { line = number; fault = Memory })
      → IfErr result (λ e. SomeTile before (λ tile. HasNoHead tile (at_line e.line e.fault)))
  line_refused number at counted left leaves (Ok l) is = tt
  line_refused number at counted left leaves (Err e) is =
      let Refused : LineFault → Type 0 = λ at. SomeTile before (λ tile. HasNoHead tile (at_line at.line at.fault)) in
      subst Refused (sym (is ∙ ap (λ n. record { line = n; fault = Memory }) at))
      (no_memory (omega (arith, at, counted)) left leaves)
