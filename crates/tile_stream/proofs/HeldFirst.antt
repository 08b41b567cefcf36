-- The texts of the features that a first line holds, before those of the lines after it.
use Rattle.std.proofs.Common.{◌≡◌, ◌≢◌, ◌<◌, ◌∙◌, ℕ, Bool, List, [], ◌∷◌, Some, refl, sym, subst, inl, inr, arith}
use Rattle.byte_streams.specs.declared.fault.Fault.{Fault}
use Rattle.byte_streams.specs.declared.fault.Fault.TheVariants.{Memory}
use Rattle.city_feature.specs.Feature.{FeatureValue}
use Rattle.city_feature.specs.FeatureLine.{GivesFeature, RefusesFeatureLine}
use Rattle.city_grid.specs.Axes.{Triple}
use Rattle.tile_stream.specs.Coming.{LinesMayComeTo, LeftComesTo, MayComeTo, MayLeave, GivesTexts, SomethingComes}
use Rattle.tile_stream.specs.Held.{Held, HeldLine, AreTextsOf, LinesGive, RefusesLines, TextsFirst, TileComesTo}
use Rattle.tile_stream.specs.Texts.{Outcome, ComesTo, EndsAfterLine}
use Rattle.tile_stream.specs.Tile.{TileLines}
use Rattle.tile_stream.specs.TileState.{TileState}
use Rattle.tile_stream.specs.Unread.{Unread, EndsFrom}
use Rattle.tile_stream.proofs.Comings.{ends_after, left_comes}
use Rattle.tile_stream.proofs.HeldFeatures.{held_first}
use Rattle.tile_stream.proofs.Leaving.{something_left}

module _ (IsWanted : FeatureValue → Type 0) (k : Triple) (Then : List (List ℕ) → Outcome → Type 0) where
  some_if : (held : HeldLine) (lines : List (List ℕ)) → held.texts ≡ lines → SomethingComes Then
      → SomethingComes (TextsFirst IsWanted k held Then)
  some_if held [] is some =
      let none = subst (λ (lines : List (List ℕ)). LinesGive IsWanted k lines []) (sym is) refl in
      (some.0, (some.1.0, inr ([], some.0, none, some.1.1, refl)))
  some_if held (line ∷ others) is some =
      let filled : held.texts ≢ [] = λ none. cc (sym is ∙ none) in
      ([], (Some (record { line = held.line; fault = Memory }), inl (refl, (refl, inl (refl, filled)))))

module _ {R : Type 0} (gives : R → List ℕ → Bool → Type 0) (IsWanted : FeatureValue → Type 0) (k : Triple) where
  pub lines_come : ((reader : R) → (bytes : List ℕ) × ((fails : Bool) × gives reader bytes fails)) → (lines : Unread R)
      → EndsFrom lines.number lines.ended → SomethingComes (LinesMayComeTo gives IsWanted k lines)
  lines_come given lines from =
      let some = something_left gives given lines from in
      let comes = left_comes IsWanted k lines.number some.0 some.2 in
      (comes.0, (comes.1.0, (some.0, (some.1, some.2), comes.1.1)))

  module _ (tile : TileState R) where
    pub something : (left : TileLines) × MayLeave gives tile.lines left
        → SomethingComes (MayComeTo gives IsWanted k tile)
    something some =
        let lines = left_comes IsWanted k tile.lines.number some.0 some.1.1 in
        let held = some_if IsWanted k (LeftComesTo IsWanted k tile.lines.number some.0) tile.held tile.held.texts refl
        lines in
        (held.0, (held.1.0, (some.0, some.1, held.1.1)))

    -- the texts of all features were made, and given at once
    pub texts_given : (texts : List (List ℕ)) → LinesGive IsWanted k tile.held.texts texts
        → GivesTexts (MayComeTo gives IsWanted k tile) (LinesMayComeTo gives IsWanted k tile.lines) texts
    texts_given texts gave more outcome comes = (comes.0, comes.1, inr (texts, more, gave, comes.2, refl))

    pub none_given : tile.held.texts ≡ [] → (texts : List (List ℕ)) → texts ≡ []
        → GivesTexts (MayComeTo gives IsWanted k tile) (LinesMayComeTo gives IsWanted k tile.lines) texts
    none_given none texts is =
        texts_given texts (subst (λ (held : List (List ℕ)). LinesGive IsWanted k held texts) (sym none) is)

    -- the tile stops at the features
    pub held_stops : (left : TileLines) × MayLeave gives tile.lines left → (fault : Fault)
        → RefusesLines k fault tile.held.texts
        → MayComeTo gives IsWanted k tile [] (Some (record { line = tile.held.line; fault = fault }))
    held_stops some fault refuses = (some.0, some.1, inl (refl, (refl, refuses)))

    -- what comes of a tile whose head was taken is what the features that it holds, and then the lines
    -- after its head, come to
    pub tile_comes : (held : Held) → AreTextsOf held tile.held → tile.held.line < tile.lines.number
        → (texts : List (List ℕ)) (outcome : Outcome) → (comes : MayComeTo gives IsWanted k tile texts outcome)
        → TileComesTo IsWanted k held comes.0 texts outcome
    tile_comes held are later texts outcome comes =
        let After : List (List ℕ) → Outcome → Type 0 = λ more end. EndsAfterLine held.line end
        × ComesTo (GivesFeature IsWanted k) (RefusesFeatureLine k) comes.0 more end in
        held_first IsWanted k held tile.held are (LeftComesTo IsWanted k tile.lines.number comes.0) After
        (λ more end left. (ends_after held.line tile.lines.number end (omega (arith, later, are.0)) left.0, left.1))
        texts outcome comes.2
