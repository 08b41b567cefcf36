-- The headers of tiles, joined or refused.
use Rattle.std.proofs.Common.{◌≡◌, ◌≤◌, ◌<◌, ◌+◌, ◌-◌, ◌++◌, ◌⊎◌, ℕ, zero, suc, List, [], ◌∷◌, IsSomeAnd, slice_get, length, map, refl, sym, ap, subst, inl, inr, arith}
use Rattle.byte_streams.specs.declared.fault.Fault.{Fault}
use Rattle.byte_streams.specs.declared.fault.Fault.TheVariants.{Memory}
use Rattle.city_json.specs.Tree.{MemberTrees}
use Rattle.city_feature.specs.Header.{HeaderValue}
use Rattle.city_feature.specs.Joined.{AllAgree, IsFirstMisfit, RefusesJoin, IsJoined, IsMisfit, extensions_of, union}
use Rattle.city_feature.specs.declared.base.Base.{Base}
use Rattle.city_grid.specs.Axes.{Triple}
use Rattle.city_grid.specs.Transform.{Grid}
use Rattle.tile_merge.specs.Giving.{Giving}
use Rattle.tile_merge.specs.Merged.{HeadedTile, HaveHeads, headers_of, IsFirstHeadless, IsFirstUnfit, IsOfNoTile}
use Rattle.tile_merge.specs.Opened.{AllThree, OpenState, IsOpened}
use Rattle.byte_streams.specs.declared.places.MergeFault.{MergeFault}
use Rattle.tile_merge.proofs.Opening.{all_three_long, have_heads}

module _ (first : HeaderValue) (grid : Grid) where
  -- each header has a shift
  shift_each : (known : MemberTrees) (headers : List HeaderValue) (shifts : List Triple)
      → AllAgree first grid known headers shifts → length shifts ≡ length headers
  shift_each known [] [] agree = refl
  shift_each known [] (k ∷ shifts) agree = absurd agree
  shift_each known (header ∷ headers) [] agree = absurd agree
  shift_each known (header ∷ headers) (k ∷ shifts) agree =
      let others = shift_each (union known (extensions_of header)) headers shifts agree.1 in
      omega (arith, others)

  -- the tile that does not fit is one of them
  misfit_within : (known : MemberTrees) (next : ℕ) (headers : List HeaderValue) (tile : ℕ) (fault : Fault)
      → IsFirstMisfit first grid known next headers tile fault → (next ≤ tile) × (tile < next + length headers)
  misfit_within known next [] tile fault misfit = absurd misfit
  misfit_within known next (header ∷ headers) tile fault (inl here) = (omega (arith, here.0), omega (arith, here.0))
  misfit_within known next (header ∷ headers) tile fault (inr later) =
      let within = misfit_within (union known (extensions_of header)) (next + 1) headers tile fault later.2 in
      (omega (arith, within.0), omega (arith, within.1))

misfit_is_one : (base : Base) (headers : List HeaderValue) (tile : ℕ) (fault : Fault) → IsMisfit base headers tile fault
    → (0 < tile) × (tile ≤ length headers)
misfit_is_one base headers tile fault misfit =
    let within = misfit_within misfit.first misfit.grid _ 1 headers tile fault misfit.misfit in
    (omega (arith, within.0), omega (arith, within.1))

-- a refusal of joining is of one of the tiles, or of none
refused_within : (base : Base) (headers : List HeaderValue) (tile : ℕ) (fault : Fault)
    → RefusesJoin base headers tile fault → tile ≤ length headers
refused_within base headers tile Memory refused = omega (arith, refused)
refused_within base headers tile other refused = (misfit_is_one base headers tile other refused).1

-- a tile stands at this place, and this holds of the line of its header
record StandsAt (heads : List HeadedTile) (place : ℕ) (P : ℕ → Type 0) : Type 0 where
  before : List HeadedTile
  head : HeadedTile
  others : List HeadedTile
  heads_are : heads ≡ before ++ head ∷ others
  place_is : length before ≡ place
  holds : P head.held.line

one_later : (first : HeadedTile) (heads : List HeadedTile) (place : ℕ) (P : ℕ → Type 0) → StandsAt heads place P
    → StandsAt (first ∷ heads) (suc place) P
one_later first heads place P stands = record {
  before = first ∷ stands.before;
  head = stands.head;
  others = stands.others;
  heads_are = ap (λ (l : List HeadedTile). first ∷ l) stands.heads_are;
  place_is = ap suc stands.place_is;
  holds = stands.holds;
}

module _ {X : Type 0} (line : X → ℕ) (P : ℕ → Type 0) where
  at_place : (heads : List HeadedTile) (items : List X)
      → map (λ (head : HeadedTile). head.held.line) heads ≡ map line items → (place : ℕ)
      → IsSomeAnd (slice_get items place) (λ item. P (line item)) → StandsAt heads place P
  at_place heads [] same place some = absurd some
  at_place [] (item ∷ items) same place some = cc same
  at_place (head ∷ heads) (item ∷ items) same zero some =
      let number : head.held.line ≡ line item = cc same in
      record {
        before = [];
        head = head;
        others = heads;
        heads_are = refl;
        place_is = refl;
        holds = subst P (sym number) some;
      }
  at_place (head ∷ heads) (item ∷ items) same (suc place) some =
      let numbers : map (λ (h : HeadedTile). h.held.line) heads ≡ map line items = cc same in
      one_later head heads place P (at_place heads items numbers place some)

-- a tile has no head, or memory ran out
pub no_heads : {A B C : Type 0} → A ⊎ C → A ⊎ (B ⊎ C)
no_heads (inl headless) = inl headless
no_heads (inr memory) = inr (inr memory)

-- a refusal of joining, at the line of the tile's header
module _ {R : Type 0} (gives : Giving R) (base : Base) (readers : List R) (tiles : List (OpenState R))
    (headers : List HeaderValue) (opened : AllThree (IsOpened gives) readers tiles headers) where
  pub within_tiles : (tile : ℕ) (fault : Fault) → RefusesJoin base headers tile fault → tile ≤ length tiles
  within_tiles tile fault refused =
      let long = all_three_long (IsOpened gives) readers tiles headers opened in
      omega (arith, long.0, long.1, refused_within base headers tile fault refused)

  unfit : (tile : ℕ) (fault : Fault) → 0 < tile → RefusesJoin base headers tile fault
      → (e : MergeFault) (heads : List HeadedTile) → HaveHeads gives readers heads → headers_of heads ≡ headers
      → StandsAt heads (tile - 1) (λ (number : ℕ). e ≡ record { tile = tile; line = number; fault = fault })
      → IsFirstUnfit gives base readers e
  unfit tile fault some refused e heads have same stands =
      subst (IsFirstUnfit gives base readers) (sym stands.holds) (record {
        tiles = heads;
        heads = have;
        before = stands.before;
        tile = stands.head;
        others = stands.others;
        tiles_are = stands.heads_are;
        number = omega (arith, some, stands.place_is);
        line = refl;
        misfit = subst (λ (l : List HeaderValue). RefusesJoin base l tile fault) (sym same) refused;
      })

  pub join_refused : (tile : ℕ) (fault : Fault) → RefusesJoin base headers tile fault → (e : MergeFault)
      → (tile ≡ 0 → e ≡ record { tile = 0; line = 0; fault = fault })
      → (0 < tile → IsSomeAnd (slice_get tiles (tile - 1))
      (λ (t : OpenState R). e ≡ record { tile = tile; line = t.line; fault = fault }))
      → IsFirstHeadless gives readers e ⊎ IsFirstUnfit gives base readers e ⊎ (IsOfNoTile e × (e.fault ≡ Memory))
  join_refused tile Memory refused e none some =
      let is = none refused in
      inr (inr (
        (ap (λ (x : MergeFault). x.tile) is, ap (λ (x : MergeFault). x.line) is),
        ap (λ (x : MergeFault). x.fault) is,
      ))
  join_refused tile other refused e none some =
      let within = misfit_is_one base headers tile other refused in
      let heads = have_heads gives readers tiles headers opened in
      let stands = at_place (λ (t : OpenState R). t.line)
      (λ (number : ℕ). e ≡ record { tile = tile; line = number; fault = other }) heads.0 tiles heads.3 (tile - 1)
      (some within.0) in
      inr (inl (unfit tile other within.0 refused e heads.0 heads.1 heads.2 stands))

  pub shifts_long : (line : List ℕ) (shifts : List Triple) → IsJoined base headers line shifts
      → length shifts ≡ length tiles
  shifts_long line shifts joined =
      let long = all_three_long (IsOpened gives) readers tiles headers opened in
      omega (arith, long.0, long.1, shift_each joined.first joined.grid _ headers shifts joined.agree)
