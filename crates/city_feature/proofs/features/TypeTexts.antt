-- The type of a feature that is found on the compact text of its line.
use Rattle.std.proofs.Common.{◌≡◌, ◌∙◌, ◌<◌, ◌↔◌, ℕ, sym, ap, subst, List, [], Bool, Option, Some, None, Contains, codes, IsTrue, IfSome, IsUtf8, refl, length, get_or, unwrap_or, arith}
use Rattle.std.proofs.lemmas.Option.{same_Some}
use Rattle.city_json.proofs.Options.{if_some_more}
use Rattle.city_json.specs.Bytes.{quotation_mark}
use Rattle.city_json.specs.Compact.{quoted, compact}
use Rattle.city_json.specs.Members.{first_named, member_of}
use Rattle.city_json.specs.Tree.{Tree, null, string, object, MemberTrees}
use Rattle.city_json.specs.Writable.{IsWritable}
use Rattle.city_feature.proofs.features.StillFeature.{other_member}
use Rattle.city_feature.specs.Changes.{with_member}
use Rattle.city_feature.specs.Choice.{HasType}
use Rattle.city_feature.specs.Shapes.{IsText, IsThere, member_in}
use Rattle.city_json.specs.CompactTexts.{IsCompactOf}

-- the text of a member that is a text
pub text_there : (members : MemberTrees) (name text found : List ℕ)
    → (value : Tree) × (first_named name members ≡ Some value) × IsCompactOf found value
    → first_named name members ≡ Some (string text) → IsUtf8 text × (found ≡ quoted text)
text_there members name text found (value, is, of) says =
    let same : value ≡ string text = same_Some _ _ (sym is ∙ says) in
    (subst IsWritable same of.writable, of.is ∙ ap compact same)

-- the same where `null` stands for one that is not there
pub text_or_there : (members : MemberTrees) (name text found : List ℕ)
    → IsCompactOf found (unwrap_or (first_named name members) null)
    → first_named name members ≡ Some (string text) → IsUtf8 text × (found ≡ quoted text)
text_or_there members name text found of says =
    text_there members name text found (
      string text,
      says,
      subst (λ o. IsCompactOf found (unwrap_or o null)) says of,
    ) says

-- a text that is there
pub id_there : (o : Option Tree) → IsThere IsText o → (id : List ℕ) × (o ≡ Some (string id))
id_there None there = absurd there
id_there (Some (string id)) there = (id, refl)
id_there (Some other) there = absurd there

-- from a value to its member, and from there to a member of that
pub in_members : (outer inner : List ℕ) (o : Option Tree)
    → member_of inner (unwrap_or (member_of outer (unwrap_or o null)) null) ≡ member_in inner (member_in outer o)
in_members outer inner None = refl
in_members outer inner (Some v) = in_value (member_of outer v)
  where
    in_value : (o : Option Tree) → member_of inner (unwrap_or o null) ≡ member_in inner o
    in_value None = refl
    in_value (Some v) = refl

-- a text begins with its mark
pub no_text : (text : List ℕ) (value : Tree) (name : List ℕ)
    → (0 < length text → get_or text 0 0 ≡ quotation_mark → ⊥) → text ≡ compact value → value ≡ string name → ⊥
no_text text value name other is same =
    let written : text ≡ quoted name = is ∙ ap compact same in
    other (omega (arith, ap length written)) (ap (λ l. get_or l 0 0) written)

-- whether a text is one of the names
pub one_of : (names : List (List ℕ)) (value : Tree) (name given : List ℕ) (is : Bool) → value ≡ string name
    → given ≡ name → IsTrue is ↔ Contains names given
    → IsTrue is ↔ ((other : List ℕ) × (value ≡ string other) × Contains names other)
one_of names value name given is same given_is iff = (
  λ holds. (name, same, subst (Contains names) given_is (iff.0 holds)),
  λ has. iff.1 (subst (Contains names) (same_text (sym has.1 ∙ same) ∙ sym given_is) has.2),
)
  where
    content : Tree → List ℕ
    content (string text) = text
    content other = []

    same_text : {a b : List ℕ} → string a ≡ string b → a ≡ b
    same_text same = ap content same

-- whether a feature has one of the types, by the text of its type
pub typed_there : (names : List (List ℕ)) (all : MemberTrees) (text : List ℕ) (has : Bool)
    → ((id : List ℕ) → first_named (codes "id") all ≡ Some (string id) → IsCompactOf text
    (unwrap_or (member_in (codes "type") (member_in id (first_named (codes "CityObjects") all))) null))
    → ((value : Tree) → IsCompactOf text value → IsTrue has
    ↔ ((name : List ℕ) × (value ≡ string name) × Contains names name))
    → IsThere IsText (first_named (codes "id") all) → IsTrue has ↔ HasType names (object all)
typed_there names all text has of told there = (
  λ holds. onward (id_there (first_named (codes "id") all) there) holds,
  λ typed. back typed,
)
  where
    said : (o : Option Tree) (name : List ℕ) → unwrap_or o null ≡ string name → o ≡ Some (string name)
    said None name same = cc
    said (Some v) name same = ap Some same

    onward : (id : List ℕ) × (first_named (codes "id") all ≡ Some (string id)) → IsTrue has
        → HasType names (object all)
    onward (id, says) holds =
        let (name, is, among) = (told _ (of id says)).0 holds in (name, (id, says, said _ name is), among)

    back : HasType names (object all) → IsTrue has
    back (name, (id, says, typed), among) =
        (told _ (of id says)).1 (name, ap (λ o. unwrap_or o null) typed, among)

same_types : (names : List (List ℕ)) (v w : Tree) → member_of (codes "id") v ≡ member_of (codes "id") w
    → member_of (codes "CityObjects") v ≡ member_of (codes "CityObjects") w → HasType names v → HasType names w
same_types names v w ids objects (name, (id, says, typed), among) =
    (name, (id, sym ids ∙ says, ap (λ o. member_in (codes "type") (member_in id o)) (sym objects) ∙ typed), among)

pub moved_types : (types : Option (List (List ℕ))) (has : Bool) (x : Tree) (all : MemberTrees) → IsTrue has
    ↔ IfSome types (λ names. HasType names (object all)) → IsTrue has
    ↔ IfSome types (λ names. HasType names (with_member (codes "vertices") x (object all)))
moved_types types has x all iff =
    let value = object all in
    let other = with_member (codes "vertices") x value in
    let ids = other_member (codes "vertices") x (codes "id") refl value in
    let objects = other_member (codes "vertices") x (codes "CityObjects") refl value in (
      λ yes. if_some_more types (λ names. same_types names value other (sym ids) (sym objects)) (iff.0 yes),
      λ given. iff.1 (if_some_more types (λ names. same_types names other value ids objects) given),
    )
