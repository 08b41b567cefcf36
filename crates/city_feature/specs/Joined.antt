-- The header of joined tiles, and why tiles do not join (CityJSON 2.0: Metadata, Extensions,
-- Geometry templates).
use Rattle.std.specs.Prelude.{◌≡◌, ◌≢◌, ◌⊎◌, ◌+◌, ◌≤ℤ◌, pos, ℕ, List, [], ◌∷◌, Option, Some, None, codes, if◌then◌else◌, is_some}
use Rattle.city_json.specs.Compact.{compact}
use Rattle.city_json.specs.Members.{member_of, first_named}
use Rattle.city_json.specs.ObjectTexts.{members_in}
use Rattle.city_json.specs.Tree.{Tree, object, MemberTrees, no_members, member}
use Rattle.byte_streams.specs.declared.fault.Fault.{Fault}
use Rattle.byte_streams.specs.declared.fault.Fault.TheVariants.{ScaleDiffers, CrsDiffers, OffGrid, ShiftRange, ExtensionClash, TemplatesDiffer, Memory}
use Rattle.city_grid.specs.Axes.{Texts, Triple, IsInRange, three}
use Rattle.city_grid.specs.Shift.{IsShift, RefusesShift}
use Rattle.city_grid.specs.Transform.{Grid}
use Rattle.city_feature.specs.Changes.{with_member, without_member, changed_member}
use Rattle.city_feature.specs.Header.{HeaderValue}
use Rattle.city_feature.specs.Origin.{IsOrigin}
use Rattle.city_feature.specs.Shapes.{AreSame, IsThere, member_in}
use Rattle.city_feature.specs.declared.base.Base.{Base}

-- ---- extensions ----

abbrev pub extensions_of : HeaderValue → MemberTrees
extensions_of header = members_in (member_of (codes "extensions") header.value)

-- with one member more, as the last
abbrev pub with_last : MemberTrees → List ℕ → Tree → MemberTrees
with_last no_members name value = member name value no_members
with_last (member other old others) name value = member other old (with_last others name value)

-- with this member as the last where its name is new
abbrev pub with_new : MemberTrees → List ℕ → Tree → MemberTrees
with_new known name value =
    if is_some (first_named name known) then known else with_last known name value

-- the known members, and after them those of the others whose names are new
abbrev pub union : MemberTrees → MemberTrees → MemberTrees
union known no_members = known
union known (member name value others) = union (with_new known name value) others

-- the union of the headers' extensions, in the order in which their names first appear
abbrev pub all_extensions : MemberTrees → List HeaderValue → MemberTrees
all_extensions known [] = known
all_extensions known (header ∷ others) = all_extensions (union known (extensions_of header)) others

-- there is a first one, and its text is another
abbrev pub IsOther : Option Tree → Tree → Type 0
IsOther None value = ⊥
IsOther (Some first) value = compact first ≢ compact value

-- one of the members has another text than the first of its name
abbrev pub HasClash : MemberTrees → MemberTrees → Type 0
HasClash known no_members = ⊥
HasClash known (member name value others) =
    IsOther (first_named name known) value ⊎ HasClash (with_new known name value) others

-- these extensions are taken in: none of them clashes, and afterwards all are known
abbrev pub TakesIn : MemberTrees → MemberTrees → MemberTrees → Type 0
TakesIn known others after = (¬ HasClash known others) × (after ≡ union known others)

-- why they are not: one clashes, or memory is out
abbrev pub RefusesExtensions : Fault → MemberTrees → MemberTrees → Type 0
RefusesExtensions ExtensionClash known others = HasClash known others
RefusesExtensions Memory known others = Unit {0}
RefusesExtensions other known others = ⊥

-- ---- whether a tile fits the others ----

abbrev pub SharesScale : HeaderValue → HeaderValue → Type 0
SharesScale first header = header.grid.scale ≡ first.grid.scale

abbrev pub reference_system : HeaderValue → Option Tree
reference_system header =
    member_in (codes "referenceSystem") (member_of (codes "metadata") header.value)

abbrev pub SharesSystem : HeaderValue → HeaderValue → Type 0
SharesSystem first header = AreSame (reference_system first) (reference_system header)

-- a shift leads from the grid to the header's
abbrev pub IsOnGrid : Grid → HeaderValue → Triple → Type 0
IsOnGrid grid header k = IsShift header.grid grid k × IsInRange k

abbrev pub SharesMember : List ℕ → HeaderValue → HeaderValue → Type 0
SharesMember name first header = AreSame (member_of name first.value) (member_of name header.value)

-- no component is below 0
abbrev pub IsForward : Triple → Type 0
IsForward k = (pos 0 ≤ℤ k.x) × (pos 0 ≤ℤ k.y) × (pos 0 ≤ℤ k.z)

-- the templates are the same, and where there are any the appearance that they refer to is
abbrev pub SharesTemplates : HeaderValue → HeaderValue → Type 0
SharesTemplates first header =
    SharesMember (codes "geometry-templates") first header
    × (IsThere (λ templates. Unit {0}) (member_of (codes "geometry-templates") header.value)
    → SharesMember (codes "appearance") first header)

-- the tile fits the first one and the extensions known from the tiles before it, and k leads to it
pub record Agrees (first : HeaderValue) (grid : Grid) (known : MemberTrees) (header : HeaderValue)
    (k : Triple) : Type 0 where
  pub scale : SharesScale first header
  pub system : SharesSystem first header
  pub shift : IsOnGrid grid header k
  pub extensions : ¬ HasClash known (extensions_of header)
  pub templates : SharesTemplates first header

-- all do, each with its shift
abbrev pub AllAgree : HeaderValue → Grid → MemberTrees → List HeaderValue → List Triple → Type 0
AllAgree first grid known [] [] = Unit {0}
AllAgree first grid known [] (k ∷ ks) = ⊥
AllAgree first grid known (header ∷ others) [] = ⊥
AllAgree first grid known (header ∷ others) (k ∷ ks) =
    Agrees first grid known header k
    × AllAgree first grid (union known (extensions_of header)) others ks

-- why a tile does not fit, the first that holds: its scale differs; its reference system; it is off
-- the grid; too far away; an extension differs; the geometry templates, or an appearance beside them
abbrev pub RefusesTile : Fault → HeaderValue → Grid → MemberTrees → HeaderValue → Type 0
RefusesTile ScaleDiffers first grid known header = ¬ SharesScale first header
RefusesTile CrsDiffers first grid known header =
    SharesScale first header × ¬ SharesSystem first header
RefusesTile OffGrid first grid known header =
    SharesScale first header
    × SharesSystem first header
    × RefusesShift OffGrid header.grid grid
RefusesTile ShiftRange first grid known header =
    SharesScale first header
    × SharesSystem first header
    × RefusesShift ShiftRange header.grid grid
RefusesTile ExtensionClash first grid known header =
    (k : Triple)
    × SharesScale first header
    × SharesSystem first header
    × IsOnGrid grid header k
    × HasClash known (extensions_of header)
RefusesTile TemplatesDiffer first grid known header =
    (k : Triple)
    × SharesScale first header
    × SharesSystem first header
    × IsOnGrid grid header k
    × (¬ HasClash known (extensions_of header))
    × ¬ SharesTemplates first header
RefusesTile other first grid known header = ⊥

-- the tile of this number, counted from `next`, is the first that does not fit, for this fault
abbrev pub IsFirstMisfit : HeaderValue → Grid → MemberTrees → ℕ → List HeaderValue → ℕ → Fault → Type 0
IsFirstMisfit first grid known next [] tile fault = ⊥
IsFirstMisfit first grid known next (header ∷ others) tile fault =
    ((tile ≡ next) × RefusesTile fault first grid known header)
    ⊎ ((k : Triple)
    × Agrees first grid known header k
    × IsFirstMisfit first grid (union known (extensions_of header)) (next + 1) others tile fault)

-- ---- the joined header ----

-- the metadata without their extent, which is that of one tile; the metadata stay, also empty
abbrev pub without_extent : Tree → Tree
without_extent header =
    changed_member (codes "metadata") (without_member (codes "geographicalExtent")) header

-- with the union of all extensions: at their place, or last; none where there is none
abbrev pub with_extensions : MemberTrees → Tree → Tree
with_extensions no_members header = header
with_extensions (member name value others) header =
    with_member (codes "extensions") (object (member name value others)) header

-- with the translation written so
abbrev pub with_translation : Texts → Tree → Tree
with_translation texts header =
    changed_member (codes "transform") (with_member (codes "translate") (three texts)) header

abbrev pub joined_value : Tree → MemberTrees → Texts → Tree
joined_value first extensions texts =
    with_translation texts (with_extensions extensions (without_extent first))

-- the tiles of these headers join: to this line, with these shifts
pub record IsJoined (base : Base) (headers : List HeaderValue) (line : List ℕ) (shifts : List Triple) : Type 0 where
  pub first : HeaderValue
  pub others : List HeaderValue
  pub headers_are : headers ≡ first ∷ others
  pub grid : Grid
  pub texts : Texts
  pub origin : IsOrigin base first others grid texts
  pub agree : AllAgree first grid no_members headers shifts
  pub line_is : line ≡ compact (joined_value first.value (all_extensions no_members headers) texts)

-- the tiles do not join: this one, counted from 1, is the first that does not fit
pub record IsMisfit (base : Base) (headers : List HeaderValue) (tile : ℕ) (fault : Fault) : Type 0 where
  pub first : HeaderValue
  pub others : List HeaderValue
  pub headers_are : headers ≡ first ∷ others
  pub grid : Grid
  pub texts : Texts
  pub origin : IsOrigin base first others grid texts
  pub misfit : IsFirstMisfit first grid no_members 1 headers tile fault

-- out of memory, no tile is named
abbrev pub RefusesJoin : Base → List HeaderValue → ℕ → Fault → Type 0
RefusesJoin base headers tile Memory = tile ≡ 0
RefusesJoin base headers tile fault = IsMisfit base headers tile fault
