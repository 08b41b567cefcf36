-- What the cut of a document gives, where its features have texts, and why there is none.
use Rattle.std.specs.Prelude.{◌≡◌, ◌⊎◌, ℕ, List}
use Rattle.byte_streams.specs.declared.fault.Fault.{Fault}
use Rattle.byte_streams.specs.declared.fault.Fault.TheVariants.{Memory}
use Rattle.city_json.specs.Tree.{Tree}
use Rattle.city_feature.specs.Feature.{FeatureValue}
use Rattle.city_feature.specs.Header.{HeaderValue}
use Rattle.city_families.specs.Cut.{IsCut, IsCuttable, RefusesCut}
use Rattle.city_families.specs.Lines.{texts_of}

-- nothing of the document is refused, and it is cut into this header and features of these texts
abbrev pub CutsInto : Tree → HeaderValue → List (List ℕ) → Type 0
CutsInto document header texts =
    IsCuttable document × (features : List FeatureValue) × IsCut document header features × (texts ≡ texts_of features)

-- a document whose text was read is not cut, or memory ran out
abbrev pub RefusesRead : Fault → Tree → Type 0
RefusesRead fault document = (fault ≡ Memory) ⊎ RefusesCut fault document
