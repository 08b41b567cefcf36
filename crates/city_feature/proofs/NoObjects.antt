-- Values that are no objects: nothing is a member of them.
use Rattle.std.proofs.Common.{◌≡◌, List, None, codes, inl, inr, refl, sym, subst, ℕ}
use Rattle.city_json.specs.Grammar.{Spells}
use Rattle.city_json.specs.Members.{member_of}
use Rattle.city_json.specs.Tree.{Tree, null, boolean, number, string, array, object, MemberTrees}
use Rattle.city_feature.specs.Feature.{HasFeatureShape}
use Rattle.city_feature.specs.Header.{HoldsCity, IsCityJson}
use Rattle.city_feature.specs.Shapes.{IsFilledArray, IsFilledObject, IsObject, IsThere, Says}

-- where a text spells no object, its value is none
pub is_no_object : (bytes : List ℕ) (value : Tree) → Spells bytes value
    → ((members : MemberTrees) → ¬ Spells bytes (object members)) → ¬ IsObject value
is_no_object bytes (object all) spells none = λ is. none all spells
is_no_object bytes null spells none = λ is. is
is_no_object bytes (boolean b) spells none = λ is. is
is_no_object bytes (number n) spells none = λ is. is
is_no_object bytes (string text) spells none = λ is. is
is_no_object bytes (array items) spells none = λ is. is

pub no_member : (value : Tree) (name : List ℕ) → ¬ IsObject value → member_of name value ≡ None
no_member (object all) name other = absurd (other tt)
no_member null name other = refl
no_member (boolean b) name other = refl
no_member (number n) name other = refl
no_member (string text) name other = refl
no_member (array items) name other = refl

says_none : (value : Tree) (name text : List ℕ) → ¬ IsObject value → ¬ Says name text value
says_none value name text other says = cc (sym (no_member value name other), says)

pub no_feature : (value : Tree) → ¬ IsObject value → ¬ HasFeatureShape value
no_feature value other shape = says_none value (codes "type") (codes "CityJSONFeature") other shape.0

pub no_city_json : (value : Tree) → ¬ IsObject value → ¬ IsCityJson value
no_city_json value other is = says_none value (codes "type") (codes "CityJSON") other is.0

pub no_city : (value : Tree) → ¬ IsObject value → ¬ HoldsCity value
no_city value other holds = elim holds [
  | inl objects ↦ subst (IsThere IsFilledObject) (no_member value (codes "CityObjects") other) objects
  | inr vertices ↦ subst (IsThere IsFilledArray) (no_member value (codes "vertices") other) vertices
]
