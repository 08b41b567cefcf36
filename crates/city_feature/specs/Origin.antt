-- The transform that joined tiles share: the first tile's, or the one of the least translation.
use Rattle.std.specs.Prelude.{◌≡◌, ◌++◌, ◌≤ℤ◌, ◌<ℤ◌, ℕ, ℤ, List, ◌∷◌, All, Some, codes}
use Rattle.city_json.specs.Members.{member_of}
use Rattle.city_grid.specs.Axes.{Texts, three}
use Rattle.city_grid.specs.Transform.{Grid}
use Rattle.city_feature.specs.Header.{HeaderValue}
use Rattle.city_feature.specs.Shapes.{member_in}
use Rattle.city_feature.specs.declared.base.Base.{Base}
use Rattle.city_feature.specs.declared.base.Base.TheVariants.{First, Least}

-- the header's translation is written so
abbrev pub HasTranslation : HeaderValue → Texts → Type 0
HasTranslation header texts =
    member_in (codes "translate") (member_of (codes "transform") header.value) ≡ Some (three texts)

-- of these headers it is the first that has the least measure
pub record IsFirstLeast (measure : HeaderValue → ℤ) (headers : List HeaderValue) (least : HeaderValue) : Type 0 where
  pub before : List HeaderValue
  pub after : List HeaderValue
  pub headers_are : headers ≡ before ++ least ∷ after
  pub above : All (λ header. measure least <ℤ measure header) before
  pub not_below : All (λ header. measure least ≤ℤ measure header) after

-- on one axis the least translation of the headers is n, and this is how the first that has it
-- writes it
abbrev pub IsLeast : (HeaderValue → ℤ) → (Texts → List ℕ) → List HeaderValue → ℤ → List ℕ → Type 0
IsLeast measure text headers n written =
    (least : HeaderValue)
    × (texts : Texts)
    × IsFirstLeast measure headers least
    × HasTranslation least texts
    × (n ≡ measure least)
    × (written ≡ text texts)

-- Shifts are told against this grid, and the joined header writes its translation so. The scale is
-- the first header's.
abbrev pub IsOrigin : Base → HeaderValue → List HeaderValue → Grid → Texts → Type 0
IsOrigin First first others grid texts = (grid ≡ first.grid) × HasTranslation first texts
IsOrigin Least first others grid texts =
    (grid.scale ≡ first.grid.scale)
    × IsLeast (λ header. header.grid.translate.x) (λ each. each.x) (first ∷ others) grid.translate.x texts.x
    × IsLeast (λ header. header.grid.translate.y) (λ each. each.y) (first ∷ others) grid.translate.y texts.y
    × IsLeast (λ header. header.grid.translate.z) (λ each. each.z) (first ∷ others) grid.translate.z texts.z
