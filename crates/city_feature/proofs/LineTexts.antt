-- A feature that is found on the compact text of its line.
use Rattle.std.proofs.Common.{◌≡◌, ◌∙◌, ◌++◌, ◌<◌, ◌≤◌, ℕ, zero, suc, sym, ap, refl, Bool, true, false, if◌then◌else◌, List, [], ◌∷◌, get_or, slice_range, map, All, Some, codes, IsUtf8, arith, inl, inr, ⊎_elim, cond, nat_lt}
use Rattle.std.proofs.lemmas.Bool.Decides.{nat_tests}
use Rattle.std.proofs.lemmas.List.Elements.{All-tail}
use Rattle.std.proofs.lemmas.Str.{IsUtf8-from_ascii}
use Rattle.city_json.proofs.CompactLaws.{compact-tells}
use Rattle.city_json.proofs.Replacing.{replaced_text}
use Rattle.city_json.proofs.NamedMembers.{equal_names, first_at, member_lies, new_name, other_names}
use Rattle.city_json.specs.Bytes.{colon, minus, open_brace, close_brace}
use Rattle.city_json.specs.Compact.{quoted, compact}
use Rattle.city_json.specs.CompactTexts.{IsCompactOf}
use Rattle.city_json.specs.Fits.{HasDistinctNames}
use Rattle.city_json.specs.Members.{first_named, member_of}
use Rattle.city_json.specs.Number.{IsMinus, IsNumber, IsWhole}
use Rattle.city_json.specs.ObjectTexts.{IsPlacedObject, PlacedObject, members_of, object_of}
use Rattle.city_json.specs.Parts.{AreParts, HasMember, replaced, with_value, IsPartNamed}
use Rattle.city_json.specs.Tree.{Tree, array, object, item_trees, MemberTrees, no_members, member}
use Rattle.city_json.specs.Writable.{IsWritable, AreWritableItems}
use Rattle.city_json.specs.declared.compacting.places.MemberPlace.{MemberPlace}
use Rattle.city_grid.proofs.VertexLaws.{vertex_is_read, vertex_is_writable}
use Rattle.city_grid.specs.Axes.{Triple, IsInRange}
use Rattle.city_grid.specs.Vertex.{vertex_tree}
use Rattle.city_feature.specs.Changes.{with_named}
use Rattle.city_feature.specs.Feature.{AreReadAgain, HasFeatureShape, IsFeature, vertices_tree}
use Rattle.city_feature.specs.LineTexts.{IsPlaceOf, SpellsVertices}

pub replaced_at : (k : ℕ) (name : List ℕ) (value new : Tree) (members : MemberTrees) → HasDistinctNames members
    → HasMember k name value members → replaced k new members ≡ with_named name new members
replaced_at k name value new no_members differ has = absurd has
replaced_at zero name value new (member other v others) differ has =
    sym (ap (λ b. if b then member other new others else member other v (with_named name new others))
    (equal_names other name has.0))
replaced_at (suc k) name value new (member other v others) differ has =
    ap (member other v) (replaced_at k name value new others differ.1 has)
    ∙ sym (ap (λ b. if b then member other new others else member other v (with_named name new others))
    (other_names other name (new_name k other name value others differ.0 has)))

-- what a part of a line says of the member of its name
pub record IsFound (line : List ℕ) (members : MemberTrees) (name : List ℕ) (part : MemberPlace) : Type 0 where
  pub value : Tree
  pub is : first_named name members ≡ Some value
  pub writable : IsWritable value
  pub valued : slice_range line part.value part.end ≡ compact value
  pub exchanged : (new : Tree) → compact (object (with_named name new members)) ≡ with_value line part (compact new)

pub found_at : (line : List ℕ) (parts : List MemberPlace) (members : MemberTrees) (name : List ℕ) (part : MemberPlace) → IsUtf8 name
    → IsCompactOf line (object members) → AreParts 1 parts members
    → IsPartNamed line parts (quoted name ++ colon ∷ []) part → IsFound line members name part
found_at line parts members name part utf8 of are here =
    let k = here.place in
    let (value, writable, valued, has) = member_lies line parts members name part utf8 of are here in
    record {
      value = value;
      is = first_at k name value members of.distinct.0 has;
      writable = writable;
      valued = valued;
      exchanged = λ new.
          ap (λ m. compact (object m)) (sym (replaced_at k name value new members of.distinct.0 has))
          ∙ sym (replaced_text members (open_brace ∷ []) (close_brace ∷ []) parts k part new are here.within)
          ∙ ap (λ p. with_value (compact (object members)) p (compact new)) here.is
          ∙ ap (λ l. with_value l part (compact new)) (sym of.is);
    }

-- what the value of a member is, by its text
pub says_at : (line : List ℕ) (all : MemberTrees) (name : List ℕ) (part : MemberPlace) (value : Tree) → IsWritable value
    → IsFound line all name part → slice_range line part.value part.end ≡ compact value
    → first_named name all ≡ Some value
says_at line all name part value writable found written =
    found.is ∙ ap Some (compact-tells found.value value found.writable writable (sym found.valued ∙ written))

pub number_begins : (text : List ℕ) → IsNumber text → (c : ℕ) × (rest : List ℕ) × (text ≡ c ∷ rest) × (45 ≤ c)
    × (c ≤ 57)
number_begins text n = told n.minus_sign n.whole n.is_minus n.is_whole n.spelled
  where
    told : (m w : List ℕ) → IsMinus m → IsWhole w → text ≡ m ++ (w ++ (n.fraction ++ n.exponent)) → (c : ℕ)
        × (rest : List ℕ) × (text ≡ c ∷ rest) × (45 ≤ c) × (c ≤ 57)
    told m [] is_minus is_whole is = absurd is_whole
    told m (d ∷ ds) (inl none) is_whole is = (
      d,
      ds ++ (n.fraction ++ n.exponent),
      is ∙ ap (λ l. l ++ (d ∷ ds ++ (n.fraction ++ n.exponent))) none,
      ⊎_elim (λ zero. omega (arith, zero.0)) (λ other. omega (arith, other.0)) is_whole,
      ⊎_elim (λ zero. omega (arith, zero.0)) (λ other. omega (arith, other.1)) is_whole,
    )
    told m (d ∷ ds) (inr one) is_whole is = (
      minus,
      d ∷ ds ++ (n.fraction ++ n.exponent),
      is ∙ ap (λ l. l ++ (d ∷ ds ++ (n.fraction ++ n.exponent))) one,
      omega arith,
      omega arith,
    )

-- names and texts of ASCII
abbrev pub are_small : List ℕ → Bool
are_small [] = true
are_small (b ∷ bs) = cond (nat_lt b 128) (are_small bs) false

small_and : (t : Bool) (b : ℕ) (rest : Bool) → nat_lt b 128 ≡ t → cond t rest false ≡ true → (b < 128) × (rest ≡ true)
small_and true b rest is all = (grind (arith, nat_tests), all)
small_and false b rest is all = cc

small_at : (bs : List ℕ) → are_small bs ≡ true → (i : ℕ) → get_or bs i 0 < 128
small_at [] small i = omega arith
small_at (b ∷ bs) small zero = (small_and (nat_lt b 128) b (are_small bs) refl small).0
small_at (b ∷ bs) small (suc i) = small_at bs (small_and (nat_lt b 128) b (are_small bs) refl small).1 i

pub utf8 : (bs : List ℕ) → are_small bs ≡ true → IsUtf8 bs
utf8 bs small = IsUtf8-from_ascii bs (small_at bs small)

-- the vertices of a feature
pub are_vertices : (ps : List Triple) → All IsInRange ps → AreReadAgain ps
are_vertices [] range = tt
are_vertices (p ∷ ps) range =
    let here = range 0 p (omega arith) in
    (vertex_is_read p here, here, are_vertices ps (All-tail IsInRange p ps range))

are_writable : (ps : List Triple) → All IsInRange ps → AreWritableItems (item_trees (map vertex_tree ps))
are_writable [] range = tt
are_writable (p ∷ ps) range = (
  vertex_is_writable p (range 0 p (omega arith)),
  are_writable ps (All-tail IsInRange p ps range),
)

-- what is written for vertices in range spells them
pub written_vertices : (text : List ℕ) (ps : List Triple) → text ≡ compact (vertices_tree ps) → All IsInRange ps
    → SpellsVertices text ps
written_vertices text ps written range =
    (item_trees (map vertex_tree ps), written, are_writable ps range, are_vertices ps range)

pub feature_at : (there : PlacedObject) (part : MemberPlace) (ps : List Triple) → IsPlacedObject there
    → HasFeatureShape (object_of there)
    → IsPartNamed there.text there.parts (quoted (codes "vertices") ++ colon ∷ []) part
    → SpellsVertices (slice_range there.text part.value part.end) ps
    → IsFeature (object_of there) ps × IsPlaceOf (codes "vertices") (members_of there) there.text part
feature_at there part ps is shape named (items, written, writable, vertices) =
    let name = codes "vertices" in
    let members = members_of there in
    let found = found_at there.text there.parts members name part (utf8 name refl) is.of is.are named in
    let here : member_of name (object members) ≡ Some (array items) =
    says_at there.text members name part (array items) writable found written in
    ((shape, (items, here, vertices)), found.exchanged)
