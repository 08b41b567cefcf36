-- Against the least translation no shift has a component below 0.
use Rattle.std.proofs.Common.{◌≡◌, ◌≤ℤ◌, ◌<ℤ◌, ◌-ℤ◌, ◌*ℤ◌, ℤ, pos, negsuc, ℕ, List, [], ◌∷◌, All, sym, subst, arith}
use Rattle.std.proofs.lemmas.Int.{ints}
use Rattle.std.proofs.lemmas.List.Elements.{All-nil, All-cons, All-append, All-weaker, All-head, All-tail}
use Rattle.city_json.specs.Tree.{MemberTrees}
use Rattle.city_grid.specs.Axes.{Texts, Triple}
use Rattle.city_grid.specs.Shift.{IsShift}
use Rattle.city_grid.specs.Transform.{Grid, IsAboveZero}
use Rattle.city_feature.specs.Header.{HeaderValue}
use Rattle.city_feature.specs.Joined.{AllAgree, IsForward, extensions_of, union}
use Rattle.city_feature.specs.Origin.{IsLeast, IsOrigin}
use Rattle.city_feature.specs.declared.base.Base.TheVariants.{Least}

-- a multiple of a number above 0 that is at least 0 is one of a number that is
forward : (k scale to from : ℤ) → pos 0 <ℤ scale → k *ℤ scale ≡ to -ℤ from → from ≤ℤ to → pos 0 ≤ℤ k
forward (pos k) scale to from above equal ahead = omega (arith, ints)
forward (negsuc k) (negsuc n) to from above equal ahead = absurd (omega (arith, ints))
forward (negsuc k) (pos n) to from above equal ahead = absurd (omega (arith, ints, equal))

pub least_is_below : (measure : HeaderValue → ℤ) (text : Texts → List ℕ) (headers : List HeaderValue) (n : ℤ)
    (written : List ℕ) → IsLeast measure text headers n written → All (λ header. n ≤ℤ measure header) headers
least_is_below measure text headers n written (least, texts, found, has, n_is, written_is) =
    let Above : HeaderValue → Type 0 = λ header. measure least ≤ℤ measure header in
    let all = All-append Above found.before (least ∷ found.after)
    (All-weaker (λ header. measure least <ℤ measure header) Above
    (λ header above. omega (arith, ints)) found.before found.above)
    (All-cons Above least found.after (omega (arith, ints)) found.not_below) in
    subst (λ k. All (λ header. k ≤ℤ measure header) headers) (sym n_is) (subst (All Above) (sym found.headers_are) all)

module _ (grid : Grid) (above_zero : IsAboveZero grid.scale) where
  forward_shift : (tile : Grid) (k : Triple) → IsShift tile grid k → grid.translate.x ≤ℤ tile.translate.x
      → grid.translate.y ≤ℤ tile.translate.y → grid.translate.z ≤ℤ tile.translate.z → IsForward k
  forward_shift tile k shift x y z = (
    forward k.x grid.scale.x tile.translate.x grid.translate.x above_zero.0 shift.x x,
    forward k.y grid.scale.y tile.translate.y grid.translate.y above_zero.1 shift.y y,
    forward k.z grid.scale.z tile.translate.z grid.translate.z above_zero.2 shift.z z,
  )

  forward_shifts : (first : HeaderValue) (known : MemberTrees) (headers : List HeaderValue) (ks : List Triple)
      → All (λ header. grid.translate.x ≤ℤ header.grid.translate.x) headers
      → All (λ header. grid.translate.y ≤ℤ header.grid.translate.y) headers
      → All (λ header. grid.translate.z ≤ℤ header.grid.translate.z) headers
      → AllAgree first grid known headers ks → All IsForward ks
  forward_shifts first known [] [] x y z agree = All-nil IsForward
  forward_shifts first known [] (k ∷ ks) x y z agree = absurd agree
  forward_shifts first known (header ∷ others) [] x y z agree = absurd agree
  forward_shifts first known (header ∷ others) (k ∷ ks) x y z agree =
      All-cons IsForward k ks
      (forward_shift header.grid k agree.0.shift.0
      (All-head (λ each. grid.translate.x ≤ℤ each.grid.translate.x) header others x)
      (All-head (λ each. grid.translate.y ≤ℤ each.grid.translate.y) header others y)
      (All-head (λ each. grid.translate.z ≤ℤ each.grid.translate.z) header others z))
      (forward_shifts first (union known (extensions_of header)) others ks
      (All-tail (λ each. grid.translate.x ≤ℤ each.grid.translate.x) header others x)
      (All-tail (λ each. grid.translate.y ≤ℤ each.grid.translate.y) header others y)
      (All-tail (λ each. grid.translate.z ≤ℤ each.grid.translate.z) header others z)
      agree.1)

-- each shift of tiles that agree against the origin of the least translation
pub shifts_are_forward : (first : HeaderValue) (others : List HeaderValue) (grid : Grid) (texts : Texts)
    (known : MemberTrees) (ks : List Triple) → IsAboveZero grid.scale → IsOrigin Least first others grid texts
    → AllAgree first grid known (first ∷ others) ks → All IsForward ks
shifts_are_forward first others grid texts known ks above_zero origin agree =
    forward_shifts grid above_zero first known (first ∷ others) ks
    (least_is_below (λ header. header.grid.translate.x) (λ each. each.x)
    (first ∷ others) grid.translate.x texts.x origin.1)
    (least_is_below (λ header. header.grid.translate.y) (λ each. each.y)
    (first ∷ others) grid.translate.y texts.y origin.2)
    (least_is_below (λ header. header.grid.translate.z) (λ each. each.z)
    (first ∷ others) grid.translate.z texts.z origin.3)
    agree
