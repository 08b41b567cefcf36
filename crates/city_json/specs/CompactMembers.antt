-- Where the members of an object lie in its compact text, for whoever knows that the text is one.
use Rattle.std.specs.Prelude.{◌≡◌, ◌++◌, ◌<◌, ◌≤◌, ℕ, List, ◌∷◌, length}
use Rattle.std.specs.List.{flat_map}
use Rattle.byte_streams.specs.Limits.{max_depth}
use Rattle.city_json.specs.Bytes.{colon, quotation_mark}
use Rattle.city_json.specs.Compact.{quoted, compact, written}
use Rattle.city_json.specs.CompactEnds.{IsStopped}
use Rattle.city_json.specs.Fits.{depth}
use Rattle.city_json.specs.Parts.{IsPart, AreParts}
use Rattle.city_json.specs.Tree.{Tree, MemberTrees, object}
use Rattle.city_json.specs.Writable.{IsWritable}
use Rattle.city_json.specs.declared.compacting.places.MemberPlace.{MemberPlace}

-- whatever member stands there, it lies in this part, and this is left after it
abbrev pub LeavesMember : ℕ → MemberPlace → List ℕ → List ℕ → Type 0
LeavesMember front part b after = (name : List ℕ) (value : Tree) (rest : List ℕ) → IsWritable value
    → depth value ≤ max_depth → IsStopped rest → b ≡ (quoted name ++ colon ∷ compact value) ++ rest
    → IsPart front part name value × (after ≡ rest)

-- whatever value this is the compact text of, it is an object, and its members lie in these parts
abbrev pub HasParts : List ℕ → List MemberPlace → Type 0
HasParts text parts = (value : Tree) → IsWritable value → depth value ≤ max_depth → text ≡ compact value
    → (members : MemberTrees) × (value ≡ object members) × AreParts 1 parts members

-- no string ends there with bytes after it, whatever its content is
abbrev pub HasNoString : List ℕ → Type 0
HasNoString b = (content rest : List ℕ) → 0 < length rest → b ≡ flat_map written content ++ quotation_mark ∷ rest → ⊥

-- no value stands there with an item's or a member's end after it
abbrev pub HasNoValue : List ℕ → Type 0
HasNoValue b = (value : Tree) (rest : List ℕ) → IsWritable value → depth value ≤ max_depth → IsStopped rest
    → 0 < length rest → b ≡ compact value ++ rest → ⊥

-- no member does
abbrev pub HasNoMember : List ℕ → Type 0
HasNoMember b = (name : List ℕ) (value : Tree) (rest : List ℕ) → IsWritable value → depth value ≤ max_depth
    → IsStopped rest → 0 < length rest → b ≡ (quoted name ++ colon ∷ compact value) ++ rest → ⊥
