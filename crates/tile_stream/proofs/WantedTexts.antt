-- Of the texts that a first line holds, those of the features that are wanted once they are moved.
use Rattle.std.proofs.Common.{◌≡◌, ◌≤◌, ◌<◌, ◌+◌, ◌++◌, ◌∙◌, ℕ, Bool, true, false, List, [], ◌∷◌, Option, Some, None, is_some, length, length-append, get_or, take, take_all, map, option_to_list, refl, sym, ap, subst, arith}
use Rattle.std.proofs.lemmas.List.{take_more}
use Rattle.std.specs.List.{AllByRecursion, AllZip}
use Rattle.city_json.specs.Compact.{compact}
use Rattle.city_families.proofs.Seeking.{zip_push}
use Rattle.city_families.specs.HeldTexts.{HeldTexts, texts_in}
use Rattle.city_families.specs.Lines.{texts_of}
use Rattle.cut_on_text.specs.Moved.{chosen_of}
use Rattle.city_feature.specs.Feature.{FeatureValue, IsMovable, moved}
use Rattle.city_feature.specs.FeatureLine.{GivesFeature, SpellsFeature, TellsWanted}
use Rattle.city_grid.specs.Axes.{Triple}
use Rattle.tile_stream.proofs.HeldTexts.{at_most_one}
use Rattle.tile_stream.specs.Held.{LinesGive, TellWanted}

-- those that are chosen, each mapped
pub chosen_mapped : {X Y : Type 0} (f : X → Y) (bs : List Bool) (xs : List X)
    → map f (chosen_of bs xs) ≡ chosen_of bs (map f xs)
chosen_mapped f [] xs = refl
chosen_mapped f (b ∷ bs) [] = refl
chosen_mapped f (true ∷ bs) (x ∷ xs) = ap (λ l. f x ∷ l) (chosen_mapped f bs xs)
chosen_mapped f (false ∷ bs) (x ∷ xs) = chosen_mapped f bs xs

module _ (IsWanted : FeatureValue → Type 0) (k : Triple) where
  -- one line more was looked at
  pub told_more : (all : List (List ℕ)) (at : ℕ) (wanted longer : List Bool) → at < length all
      → TellWanted IsWanted k (take at all) wanted → (is : Bool) → TellsWanted IsWanted k (get_or all at []) is
      → longer ≡ wanted ++ is ∷ [] → TellWanted IsWanted k (take (at + 1) all) longer
  told_more all at wanted longer within so_far is one grown =
      subst (λ lines. TellWanted IsWanted k lines longer) (sym (take_more all at [] within))
      (subst (TellWanted IsWanted k (take at all ++ get_or all at [] ∷ [])) (sym grown)
      (zip_push (TellsWanted IsWanted k) (take at all) wanted (get_or all at []) is so_far one))

  pub all_told : (all : List (List ℕ)) (at : ℕ) (wanted : List Bool) → length all ≤ at
      → TellWanted IsWanted k (take at all) wanted → TellWanted IsWanted k all wanted
  all_told all at wanted done told = subst (λ lines. TellWanted IsWanted k lines wanted) (take_all at all done) told

  -- the features of the lines, and what is given of them
  pub record Looked (lines : List (List ℕ)) (wanted : List Bool) : Type 0 where
    pub features : List FeatureValue
    pub spelled : AllZip SpellsFeature lines features
    pub movable : AllByRecursion (λ feature. IsMovable feature k) features
    pub give : LinesGive IsWanted k lines (chosen_of wanted (texts_of (map (λ feature. moved feature k) features)))

  one_more : (line : List ℕ) (lines : List (List ℕ)) (is : Bool) (wanted : List Bool)
      → (given : Option (List ℕ)) → GivesFeature IsWanted k line given → is ≡ is_some given
      → Looked lines wanted → Looked (line ∷ lines) (is ∷ wanted)
  one_more line lines true wanted None gives is more = cc is
  one_more line lines false wanted (Some text) gives is more = cc is
  one_more line lines false wanted None gives is more = record {
    features = gives.1.0 ∷ more.features;
    spelled = (gives.1.1, more.spelled);
    movable = (gives.1.2, more.movable);
    give = (None, chosen_of wanted (texts_of (map (λ feature. moved feature k) more.features)), gives, more.give, refl);
  }
  one_more line lines true wanted (Some text) gives is more =
      let rest = chosen_of wanted (texts_of (map (λ feature. moved feature k) more.features)) in
      record {
        features = gives.1.0 ∷ more.features;
        spelled = (gives.1.1, more.spelled);
        movable = (gives.1.2, more.movable);
        give = (
          Some text,
          rest,
          gives,
          more.give,
          ap (λ t. t ∷ rest) (sym (gives.2.1 ∙ ap (λ (there : FeatureValue). compact there.value) gives.1.3)),
        );
      }

  pub looked : (lines : List (List ℕ)) (wanted : List Bool) → TellWanted IsWanted k lines wanted → Looked lines wanted
  looked [] [] told = record { features = []; spelled = tt; movable = tt; give = refl }
  looked [] (is ∷ wanted) told = absurd told
  looked (line ∷ lines) [] told = absurd told
  looked (line ∷ lines) (is ∷ wanted) told =
      one_more line lines is wanted told.0.0 told.0.1 told.0.2 (looked lines wanted told.1)

  -- what is given are as many texts at most
  few_given : (lines texts : List (List ℕ)) → LinesGive IsWanted k lines texts → length texts ≤ length lines
  few_given [] texts give = omega (arith, ap length give)
  few_given (line ∷ lines) texts give =
      omega (
        arith,
        few_given lines give.1 give.3,
        ap length give.4,
        length-append (option_to_list give.0) give.1,
        at_most_one give.0,
      )

  -- texts that were moved and of which those were kept are given
  pub kept_given : (held : HeldTexts) (wanted : List Bool) → TellWanted IsWanted k (texts_in held) wanted
      → (there kept : HeldTexts)
      → ((features : List FeatureValue) → AllZip SpellsFeature (texts_in held) features
      → AllByRecursion (λ feature. IsMovable feature k) features
      → texts_in there ≡ texts_of (map (λ feature. moved feature k) features))
      → kept ≡ record there { own = chosen_of wanted there.own } → (texts : List (List ℕ))
      → texts ≡ texts_in kept
      → LinesGive IsWanted k (texts_in held) texts × (length texts ≤ length (texts_in held))
  kept_given held wanted told there kept moves is texts are =
      let all = looked (texts_in held) wanted told in
      let same : texts ≡ chosen_of wanted (texts_of (map (λ feature. moved feature k) all.features)) =
      are
      ∙ (ap texts_in is
      ∙ (chosen_mapped (λ own. own ++ there.common) wanted there.own
      ∙ ap (chosen_of wanted) (moves all.features all.spelled all.movable))) in
      let give = subst (LinesGive IsWanted k (texts_in held)) (sym same) all.give in
      (give, few_given (texts_in held) texts give)
