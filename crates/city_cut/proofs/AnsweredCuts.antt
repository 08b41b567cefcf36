-- A document that is read again from its compact text, and cut by its value.
use Rattle.std.proofs.Common.{◌≡◌, ◌<◌, ◌^◌, ◌∷◌, [], length, List, ℕ, Result, Ok, Err, MatchResult, IfOk, IfErr, OnOk, inr, subst}
use Rattle.byte_streams.specs.declared.fault.Fault.{Fault}
use Rattle.byte_streams.specs.declared.fault.Fault.TheVariants.{Memory}
use Rattle.city_json.specs.Bytes.{close_brace}
use Rattle.city_json.specs.CompactTexts.{IsCompactOf}
use Rattle.city_json.specs.Tree.{Tree, tree}
use Rattle.city_json.specs.declared.json.Json.{Json}
use Rattle.city_feature.specs.Feature.{FeatureValue}
use Rattle.city_feature.specs.Header.{HeaderValue}
use Rattle.city_families.specs.Cut.{IsCut, IsCuttable, RefusesCut}
use Rattle.city_cut.specs.CutTexts.{CutsInto, RefusesRead}
use Rattle.city_families.specs.HeldTexts.{AreOwnParts, HeldTexts, texts_in}
use Rattle.city_families.specs.Lines.{texts_of}
use Rattle.cut_on_text.proofs.SpelledFeatures.{own_of}

-- a value that is the document was cut
module _ {X : Type 0} (found document : Tree) (same : found ≡ document) where
  pub again_given : (answer : Result X Fault) (header : X → HeaderValue) (texts : X → List (List ℕ))
      → IfOk answer (λ cut. (features : List FeatureValue) × IsCut found (header cut) features
      × (texts cut ≡ texts_of features)) → OnOk answer (IsCuttable found)
      → IfOk answer (λ cut. CutsInto document (header cut) (texts cut))
  again_given (Ok cut) header texts made cuttable =
      subst (λ (t : Tree). CutsInto t (header cut) (texts cut)) same (cuttable, made.0, made.1, made.2)
  again_given (Err fault) header texts made cuttable = tt

  pub again_own : (text : List ℕ) → IsCompactOf text document → length text < 2 ^ 64 → (answer : Result X Fault)
      (header : X → HeaderValue) (held : X → HeldTexts)
      → IfOk answer (λ cut. (features : List FeatureValue) × IsCut found (header cut) features
      × (texts_in (held cut) ≡ texts_of features)) → IfOk answer (λ cut. (held cut).common ≡ close_brace ∷ [])
      → IfOk answer (λ cut. AreOwnParts (held cut))
  again_own text of short (Ok cut) header held made ends =
      own_of text document of short (header cut) made.0 (held cut)
      (subst (λ t. IsCut t (header cut) made.0) same made.1) made.2 (inr ends)
  again_own text of short (Err fault) header held made ends = tt

  pub again_refused : (answer : Result X Fault) → IfErr answer (λ fault. RefusesCut fault found)
      → IfErr answer (λ fault. RefusesRead fault document)
  again_refused (Ok cut) refused = tt
  again_refused (Err fault) refused = inr (subst (RefusesCut fault) same refused)

-- a document that its text tells to be refused
pub known_refused : {X : Type 0} (document : Tree) (answer : Result X Fault)
    → IfErr answer (λ fault. RefusesCut fault document) → IfErr answer (λ fault. RefusesRead fault document)
known_refused document (Ok cut) refused = tt
known_refused document (Err fault) refused = inr refused

-- a compact text was read, or memory ran out
pub read_value : (text : List ℕ) (answer : Result Json Fault)
    → ((value : Tree) → IsCompactOf text value → MatchResult answer (λ again. tree again ≡ value) (λ fault. fault ≡ Memory))
    → IfOk answer (λ again. (value : Tree) → IsCompactOf text value → tree again ≡ value)
read_value text (Ok json) same = same
read_value text (Err fault) same = tt

pub read_fault : (value : Tree) (answer : Result Json Fault)
    → MatchResult answer (λ again. tree again ≡ value) (λ fault. fault ≡ Memory)
    → IfErr answer (λ fault. fault ≡ Memory)
read_fault value (Ok json) memory = tt
read_fault value (Err fault) memory = memory
