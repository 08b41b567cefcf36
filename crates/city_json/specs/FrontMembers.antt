-- Where the members of an object lie that stands in front of other bytes.
use Rattle.std.specs.Prelude.{◌≡◌, ◌++◌, ◌≤◌, ◌<◌, ℕ, List, ◌∷◌, [], drop, get_or, length, slice_range}
use Rattle.byte_streams.specs.Limits.{max_depth}
use Rattle.city_json.specs.Bytes.{open_brace, close_brace}
use Rattle.city_json.specs.Compact.{compact, compact_members}
use Rattle.city_json.specs.CompactEnds.{LeavesValue}
use Rattle.city_json.specs.CompactMembers.{LeavesMember}
use Rattle.city_json.specs.Fits.{depth, members_depth}
use Rattle.city_json.specs.Parts.{AreParts}
use Rattle.city_json.specs.Tree.{Tree, MemberTrees, member, object}
use Rattle.city_json.specs.Writable.{IsWritable, AreWritableMembers}
use Rattle.city_json.specs.declared.compacting.places.MemberPlace.{MemberPlace}

-- whatever value stands in front in its compact text, it is an object, its members lie in these parts, and it ends
-- there
abbrev pub HasFrontParts : List ℕ → List MemberPlace → ℕ → Type 0
HasFrontParts text parts end = (value : Tree) (rest : List ℕ) → IsWritable value → depth value ≤ max_depth
    → text ≡ compact value ++ rest
    → (members : MemberTrees) × (value ≡ object members) × AreParts 1 parts members × (drop end text ≡ rest)

-- no object stands in front in its compact text
abbrev pub HasNoObject : List ℕ → Type 0
HasNoObject text = (all : MemberTrees) (rest : List ℕ) → AreWritableMembers all → members_depth all ≤ max_depth
    → text ≡ compact (object all) ++ rest → ⊥

-- some members are left, and where they lie in some parts, all do in these after those that were found
pub record MembersLeft (front : ℕ) (b rest : List ℕ) (parts : List MemberPlace) (all : MemberTrees) : Type 0 where
  pub name : List ℕ
  pub first : Tree
  pub others : MemberTrees
  pub writable : AreWritableMembers (member name first others)
  pub within : members_depth (member name first others) ≤ max_depth
  pub is : b ≡ compact_members (member name first others) ++ close_brace ∷ rest
  pub whole : (more : List MemberPlace) → AreParts front more (member name first others) → AreParts 1 (parts ++ more) all

-- the same for whatever object the text begins with
abbrev pub GoesOn : ℕ → List ℕ → List MemberPlace → Type 0
GoesOn at text parts = (all : MemberTrees) (rest : List ℕ) → AreWritableMembers all → members_depth all ≤ max_depth
    → text ≡ compact (object all) ++ rest → MembersLeft at (drop at text) rest parts all

-- where all members lie, and what is left
abbrev pub AllLieIn : List ℕ → List MemberPlace → ℕ → Type 0
AllLieIn text parts end = (all : MemberTrees) (rest : List ℕ) → AreWritableMembers all → members_depth all ≤ max_depth
    → text ≡ compact (object all) ++ rest → AreParts 1 parts all × (drop end text ≡ rest)

-- the members up to the one that ends there lie in these parts
pub record GoneTo (text : List ℕ) (parts : List MemberPlace) (end : ℕ) : Type 0 where
  pub at : ℕ
  pub before : List MemberPlace
  pub part : MemberPlace
  pub listed : parts ≡ before ++ part ∷ []
  pub ends : part.end ≡ end
  pub goes_on : GoesOn at text before
  pub leaves : LeavesMember at part (drop at text) (drop part.end text)

-- whatever further members stand there, all end there
abbrev pub EndsAfter : List ℕ → ℕ → ℕ → Type 0
EndsAfter text end stop = (parts : List MemberPlace) → GoneTo text parts end
    → (more : List MemberPlace) × AllLieIn text (parts ++ more) stop

-- in the object in front stands a member, named by these bytes up to its colon, and its value begins there
pub record IsValuePlace (text name : List ℕ) (value : ℕ) : Type 0 where
  pub at : ℕ
  pub parts : List MemberPlace
  pub some : 0 < length text
  pub opens : get_or text 0 0 ≡ open_brace
  pub order : at ≤ value
  pub within : value ≤ length text
  pub named : slice_range text at value ≡ name
  pub goes_on : GoesOn at text parts
  pub leaves : (end : ℕ) → end ≤ length text → LeavesValue 128 (drop value text) (drop end text)
      → LeavesMember at (record { at = at; value = value; end = end }) (drop at text) (drop end text)
