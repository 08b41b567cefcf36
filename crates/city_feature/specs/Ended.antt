-- The end that the texts of a document's features have in common: the brace that closes them, or before it the document's
-- appearance (CityJSON 2.0, Text sequences and streaming with CityJSONFeature).
use Rattle.std.specs.Prelude.{◌≡◌, ◌⊎◌, ◌++◌, ℕ, List, [], ◌∷◌, None, codes}
use Rattle.city_json.specs.Bytes.{close_brace}
use Rattle.city_json.specs.Compact.{compact, compact_more_members}
use Rattle.city_json.specs.Fits.{Fits}
use Rattle.city_json.specs.Members.{first_named}
use Rattle.city_json.specs.Tree.{Tree, object, MemberTrees, no_members, member}
use Rattle.city_json.specs.Writable.{IsWritable}
use Rattle.city_grid.specs.Axes.{Triple}
use Rattle.city_feature.specs.FeatureLine.{SpellsFeature}

-- a member `appearance` alone
abbrev pub appearance_alone : Tree → MemberTrees
appearance_alone appearance = member (codes "appearance") appearance no_members

-- the compact text of a member `appearance` that comes after others, with its comma, and the brace that closes the object
pub record IsAppearanceEnd (end : List ℕ) : Type 0 where
  pub appearance : Tree
  pub is : end ≡ compact_more_members (appearance_alone appearance) ++ close_brace ∷ []
  pub writable : IsWritable appearance
  pub fits : Fits (object (appearance_alone appearance))

-- what a feature's compact text has before this end: closed there by a brace, it is that of a feature, too, with no
-- appearance where the end has one
pub record IsOwnPart (own end : List ℕ) : Type 0 where
  pub members : MemberTrees
  pub vertices : List Triple
  pub spelled : SpellsFeature (own ++ close_brace ∷ []) (record { value = object members; vertices = vertices })
  pub written : own ++ close_brace ∷ [] ≡ compact (object members)
  pub ends : (end ≡ close_brace ∷ []) ⊎ (IsAppearanceEnd end × (first_named (codes "appearance") members ≡ None))
