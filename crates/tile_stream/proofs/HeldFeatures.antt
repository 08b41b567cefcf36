-- What the texts of features give, each taken as a line, is what the features give.
use Rattle.std.proofs.Common.{◌≡◌, ◌≢◌, ◌<◌, ◌⊎◌, inl, inr, ℕ, List, [], ◌∷◌, Some, None, length, get_or, refl, sym, ap, subst, ◌∙◌, arith}
use Rattle.std.proofs.lemmas.List.{get_or_default}
use Rattle.std.specs.List.{AllZip}
use Rattle.byte_streams.specs.declared.fault.Fault.{Fault}
use Rattle.byte_streams.specs.declared.fault.Fault.TheVariants.{VertexRange, Memory}
use Rattle.city_families.proofs.FeatureList.{zip_at, zip_long}
use Rattle.city_feature.proofs.OneFeature.{not_moved, same_feature}
use Rattle.city_feature.specs.Feature.{FeatureValue, IsMovable, moved}
use Rattle.city_feature.specs.FeatureLine.{IsTextOf, SpellsFeature}
use Rattle.city_grid.specs.Axes.{Triple}
use Rattle.tile_stream.specs.Coming.{ComesBack}
use Rattle.tile_stream.specs.Held.{AreTextsOf, GiveTexts, Held, HeldFirst, HeldLine, LinesGive, RefusesHeld, RefusesLines, StopsAtHeld, StopsAtTexts, TextsFirst}
use Rattle.tile_stream.specs.Texts.{Outcome}

module _ (k : Triple) where
  some_features : (lines : List (List ℕ)) (features : List FeatureValue) → AllZip SpellsFeature lines features
      → lines ≢ [] → features ≢ []
  some_features lines features all filled none = filled (empty lines (zip_long SpellsFeature lines features all))
    where
      empty : (lines : List (List ℕ)) → length lines ≡ length features → lines ≡ []
      empty [] same = refl
      empty (line ∷ others) same = absurd (omega (arith, same, ap length none))

  refused_so : (features : List FeatureValue) (at : ℕ) (f : FeatureValue) → at < length features
      → get_or features at f ≡ f → (fault : Fault) → (fault ≡ Memory) ⊎ ((fault ≡ VertexRange) × ¬ IsMovable f k)
      → RefusesHeld k fault features
  refused_so features at f within is fault (inl out) =
      subst (λ (e : Fault). RefusesHeld k e features) (sym out) (λ none. omega (arith, within, ap length none))
  refused_so features at f within is fault (inr range) =
      subst (λ (e : Fault). RefusesHeld k e features) (sym range.0) (at, f, within, is, range.1)

  held_refused : (lines : List (List ℕ)) (features : List FeatureValue) → AllZip SpellsFeature lines features
      → (fault : Fault) → RefusesLines k fault lines → RefusesHeld k fault features
  held_refused lines features all fault (inl out) =
      subst (λ (e : Fault). RefusesHeld k e features) (sym out.0) (some_features lines features all out.1)
  held_refused lines features all fault (inr any) = at_place (first_of features inside)
    where
      inside : any.0 < length features
      inside = omega (arith, any.2, zip_long SpellsFeature lines features all)

      first_of : (fs : List FeatureValue) → any.0 < length fs → FeatureValue
      first_of [] below = absurd (omega (arith, below))
      first_of (f ∷ fs) below = f

      at_place : FeatureValue → RefusesHeld k fault features
      at_place d =
          let spells = zip_at SpellsFeature lines features any.0 any.1 d all inside in
          let f : FeatureValue = get_or features any.0 d in
          let line : get_or lines any.0 any.1 ≡ any.1 = any.3 in
          let is : SpellsFeature any.1 f = subst (λ l. SpellsFeature l f) line spells in
          refused_so features any.0 f inside (get_or_default features any.0 f d inside) fault
          (not_moved k any.1 f is fault any.4)

module _ (IsWanted : FeatureValue → Type 0) (k : Triple) where
  features_give : (lines : List (List ℕ)) (features : List FeatureValue) (texts : List (List ℕ))
      → AllZip SpellsFeature lines features → LinesGive IsWanted k lines texts → GiveTexts IsWanted k features texts
  features_give [] [] texts all give = give
  features_give [] (f ∷ fs) texts all give = absurd all
  features_give (line ∷ lines) [] texts all give = absurd all
  features_give (line ∷ lines) (f ∷ fs) texts all give =
      let moves = give.2.1 in
      let same : moves.0 ≡ f = same_feature line moves.0 f moves.1 all.0 in (
        give.0,
        give.1,
        subst (λ (g : FeatureValue). IsMovable g k) same moves.2,
        subst (λ (there : FeatureValue). IsTextOf IsWanted there give.0)
            (moves.3 ∙ ap (λ (g : FeatureValue). moved g k) same) give.2.2,
        features_give lines fs give.1 all.1 give.3,
        give.4,
      )

  stops_so : (held : Held) (there : HeldLine) → AreTextsOf held there → (outcome : Outcome)
      → StopsAtTexts k there outcome → StopsAtHeld k held outcome
  stops_so held there are None stops = stops
  stops_so held there are (Some at) stops = (
    stops.0 ∙ sym are.0,
    held_refused k there.texts held.features are.1 at.fault stops.1,
  )

  pub held_first : (held : Held) (there : HeldLine) → AreTextsOf held there
      → (Then More : List (List ℕ) → Outcome → Type 0) → ComesBack More Then
      → ComesBack (HeldFirst IsWanted k held More) (TextsFirst IsWanted k there Then)
  held_first held there are Then More back texts outcome (inl stops) =
      inl (stops.0, stops_so held there are outcome stops.1)
  held_first held there are Then More back texts outcome (inr comes) =
      inr (
        comes.0,
        comes.1,
        features_give there.texts held.features comes.0 are.1 comes.2,
        back comes.1 outcome comes.3,
        comes.4,
      )
