-- The line of a feature by what becomes of its vertices.
use Rattle.std.proofs.Common.{◌≡◌, ◌∙◌, ◌++◌, ◌-◌, ◌≤◌, ◌↔◌, ℕ, pos, ◌+ℤ◌, sym, ap, refl, subst, Bool, false, List, [], ◌∷◌, take, drop, slice_range, All, Option, Some, None, codes, arith, option_map, IsTrue, IfSome}
use Rattle.std.proofs.Math.IntN.{+ℤ_idr}
use Rattle.std.proofs.lemmas.List.{drop-drop, take-append-drop}
use Rattle.city_json.specs.Compact.{compact}
use Rattle.city_json.specs.Members.{first_named}
use Rattle.city_json.specs.Parts.{with_value}
use Rattle.city_json.specs.Tree.{Tree}
use Rattle.city_json.specs.declared.compacting.places.MemberPlace.{MemberPlace}
use Rattle.city_grid.specs.Axes.{Triple, triple, IsInRange, sum}
use Rattle.city_feature.proofs.features.TypeTexts.{moved_types}
use Rattle.city_feature.specs.Area.{Meets}
use Rattle.city_feature.specs.Choice.{HasType, IsChosen}
use Rattle.city_feature.specs.declared.choices.area.Area.{Area}
use Rattle.city_feature.specs.declared.choices.Choice.{Choice}
use Rattle.city_feature.specs.declared.features.on_text.Vertices.{Vertices}
use Rattle.city_feature.specs.declared.features.on_text.Vertices.TheVariants.{Stay}
use Rattle.city_feature.specs.Feature.{FeatureValue, IsFeature, moved, moved_vertices, vertices_tree}
use Rattle.city_feature.specs.FeatureLine.{GivesFeature, SpellsMoved}
use Rattle.city_feature.specs.LineVertices.{AreKnown, BecomeOf, text_with}
use Rattle.city_feature.specs.LineTexts.{IsPlaceOf, no_steps}
use Rattle.city_json.specs.ObjectTexts.{PlacedObject, SpellsThere, members_of, object_of}
use Rattle.city_feature.specs.Shapes.{IsText, IsThere}

pub not_both : (b : Bool) → b ≡ false → ¬ IsTrue b
not_both b is_not = λ is. cc

-- what lies in a part, put there again
pub kept : (line value : List ℕ) (part : MemberPlace) → part.value ≤ part.end → slice_range line part.value part.end ≡ value
    → with_value line part value ≡ line
kept line value part ordered lies =
    let size = part.end - part.value in
    let rest = drop part.value line in
    let from_there : drop part.end line ≡ drop size rest = ap (λ n. drop n line) (omega arith)
    ∙ sym (drop-drop size part.value line) in
    ap (λ v. take part.value line ++ (v ++ drop part.end line)) (sym lies)
    ∙ ap (λ back. take part.value line ++ (take size rest ++ back)) from_there
    ∙ ap (λ back. take part.value line ++ back) (take-append-drop size rest) ∙ take-append-drop part.value line

unmoved_one : (p : Triple) → sum p no_steps ≡ p
unmoved_one p =
    ap (λ n. triple n (p.y +ℤ pos 0) (p.z +ℤ pos 0)) (+ℤ_idr p.x) ∙ ap (λ n. triple p.x n (p.z +ℤ pos 0)) (+ℤ_idr p.y)
    ∙ ap (λ n. triple p.x p.y n) (+ℤ_idr p.z)

-- vertices that are moved by nothing
pub unmoved : (ps : List Triple) → moved_vertices ps no_steps ≡ ps
unmoved [] = refl
unmoved (p ∷ ps) = ap (λ q. q ∷ moved_vertices ps no_steps) (unmoved_one p) ∙ ap (λ qs. p ∷ qs) (unmoved ps)

-- vertices that stay as they stand
pub stay_there : (area : Option Area) (k : Triple) (there : PlacedObject) (part : MemberPlace) (ps : List Triple)
    (meets : Bool) → k ≡ no_steps
    → IsFeature (object_of there) ps × IsPlaceOf (codes "vertices") (members_of there) there.text part
    → All IsInRange ps → part.value ≤ part.end
    → slice_range there.text part.value part.end ≡ compact (vertices_tree ps)
    → IsTrue meets ↔ IfSome area (λ one. Meets one ps) → BecomeOf area k there (Stay meets)
stay_there area k there part ps meets still (is, placed) range ordered lies met =
    let same : ps ≡ moved_vertices ps k = sym (ap (moved_vertices ps) still ∙ unmoved ps) in
    record {
      part = part;
      ps = ps;
      is = is;
      placed = placed;
      range = subst (All IsInRange) same range;
      text = sym (kept there.text (compact (vertices_tree ps)) part ordered lies)
          ∙ ap (λ vs. with_value there.text part (compact (vertices_tree vs))) same;
      known = subst (λ vs. IsTrue meets ↔ IfSome area (λ one. Meets one vs)) same met;
    }

-- what becomes of the vertices, and whether the feature is chosen
module _ (choice : Choice) (k : Triple) (bytes : List ℕ) (there : PlacedObject) (vertices : Vertices)
    (has chosen : Bool) (found : BecomeOf choice.area k there vertices)
    (typed : IsThere IsText (first_named (codes "id") (members_of there))
    → IsTrue has ↔ IfSome choice.types (λ types. HasType types (object_of there)))
    (selects : (value : Tree) (ps : List Triple) → IsTrue has ↔ IfSome choice.types (λ types. HasType types value)
    → AreKnown choice.area ps vertices
    → IsTrue chosen ↔ IsChosen choice (record { value = value; vertices = ps }))
    (is : SpellsThere bytes there) where
  abbrev feature : FeatureValue
  feature = record { value = object_of there; vertices = found.ps }

  spells : SpellsMoved k bytes (moved feature k)
  spells = (feature, (is.0, is.1, found.is), found.range, refl)

  wanted : IsTrue chosen ↔ IsChosen choice (moved feature k)
  wanted =
      let vertices = moved_vertices found.ps k in
      selects (moved feature k).value vertices (moved_types choice.types has (vertices_tree vertices) (members_of there)
      (typed found.is.0.1)) found.known

  pub chosen_some : IsTrue chosen → GivesFeature (IsChosen choice) k bytes (Some (text_with vertices there.text))
  chosen_some chosen_is = (
    moved feature k,
    spells,
    (wanted.0 chosen_is, found.text ∙ sym (found.placed (vertices_tree (moved_vertices found.ps k)))),
  )

  pub chosen_none : chosen ≡ false → GivesFeature (IsChosen choice) k bytes None
  chosen_none is_not = (moved feature k, spells, λ is_wanted. not_both chosen is_not (wanted.1 is_wanted))

-- the text of the feature by what becomes of its vertices
pub given_text : (IsWanted : FeatureValue → Type 0) (k : Triple) (spelled line text : List ℕ)
    (chosen : Option Vertices) (vertices : Vertices) → chosen ≡ Some vertices → text ≡ text_with vertices line
    → GivesFeature IsWanted k spelled (option_map (λ found. text_with found line) chosen)
    → GivesFeature IsWanted k spelled (Some text)
given_text IsWanted k spelled line text chosen vertices is same gives =
    subst (λ t. GivesFeature IsWanted k spelled (Some t)) (sym same)
    (subst (λ o. GivesFeature IsWanted k spelled (option_map (λ found. text_with found line) o)) is gives)
