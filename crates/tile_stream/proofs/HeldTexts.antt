-- The texts of the features that a first line holds, made one after another.
use Rattle.std.proofs.Common.{◌≡◌, ◌≢◌, ◌≤◌, ◌<◌, ◌+◌, ◌++◌, ◌⊎◌, inl, inr, ℕ, List, [], ◌∷◌, Option, Some, None, length, length-append, get_or, take, option_to_list, option_map, map, refl, sym, ap, subst, ◌∙◌, arith, append_assoc, append-nil}
use Rattle.std.proofs.Math.ListN.{get_or-map}
use Rattle.std.proofs.lemmas.List.{get_or_default, length-map, map-append, take_more}
use Rattle.byte_streams.specs.declared.fault.Fault.{Fault}
use Rattle.byte_streams.specs.declared.fault.Fault.TheVariants.{Memory}
use Rattle.city_families.specs.HeldTexts.{HeldTexts, texts_in}
use Rattle.city_feature.specs.Feature.{FeatureValue}
use Rattle.city_feature.specs.FeatureLine.{GivesFeature, RefusesFeatureLine}
use Rattle.city_grid.specs.Axes.{Triple}
use Rattle.tile_stream.specs.Held.{LinesGive, RefusesLines}

-- these are the texts that these lines give
pub record MadeSoFar (IsWanted : FeatureValue → Type 0) (k : Triple) (lines : List (List ℕ)) (texts : List (List ℕ)) :
    Type 0 where
  pub give : LinesGive IsWanted k lines texts
  pub few : length texts ≤ length lines

pub at_most_one : (given : Option (List ℕ)) → length (option_to_list given) ≤ 1
at_most_one None = omega (arith)
at_most_one (Some text) = omega (arith)

module _ (IsWanted : FeatureValue → Type 0) (k : Triple) where
  give_more : (lines : List (List ℕ)) (texts : List (List ℕ)) → LinesGive IsWanted k lines texts
      → (line : List ℕ) (given : Option (List ℕ)) → GivesFeature IsWanted k line given
      → LinesGive IsWanted k (lines ++ line ∷ []) (texts ++ option_to_list given)
  give_more [] texts give line given one =
      (given, [], one, refl, ap (λ ts. ts ++ option_to_list given) give ∙ sym (append-nil (option_to_list given)))
  give_more (first ∷ others) texts give line given one =
      let more = give_more others give.1 give.3 line given one in (
        give.0,
        give.1 ++ option_to_list given,
        give.2,
        more,
        ap (λ ts. ts ++ option_to_list given) give.4
            ∙ append_assoc (option_to_list give.0) give.1 (option_to_list given),
      )

  module _ (all : List (List ℕ)) (at : ℕ) (texts : List (List ℕ)) (so_far : MadeSoFar IsWanted k (take at all) texts)
    where
      -- the line at this place gave its text, where it has one
      pub made_more : at < length all → (given : Option (List ℕ)) → GivesFeature IsWanted k (get_or all at []) given
          → (longer : List (List ℕ)) → longer ≡ texts ++ option_to_list given
          → MadeSoFar IsWanted k (take (at + 1) all) longer
      made_more within given one longer is =
          let grown : take (at + 1) all ≡ take at all ++ get_or all at [] ∷ [] = take_more all at [] within in
          let Made : List (List ℕ) → Type 0 = λ lines. MadeSoFar IsWanted k lines longer in
          subst Made (sym grown) (record {
            give = subst (LinesGive IsWanted k (take at all ++ get_or all at [] ∷ [])) (sym is)
                (give_more (take at all) texts so_far.give (get_or all at []) given one);
            few = omega (
              arith,
              so_far.few,
              ap length is,
              length-append texts (option_to_list given),
              at_most_one given,
              length-append (take at all) (get_or all at [] ∷ []),
            );
          })

-- a line that is refused is among them
pub refuses_all : (k : Triple) (fault : Fault) (all : List (List ℕ)) (at : ℕ) → at < length all → (fault ≡ Memory)
    ⊎ RefusesFeatureLine k fault (get_or all at []) → RefusesLines k fault all
refuses_all k fault all at within (inl out) = inl (out, filled all within)
  where
    filled : (all : List (List ℕ)) → at < length all → all ≢ []
    filled all within none = omega (arith, within, ap length none)
refuses_all k fault all at within (inr refused) =
    inr (at, get_or all at [], within, get_or_default all at (get_or all at []) [] within, refused)

-- the texts are as many as their own parts, and each is its own part and the common one
pub texts_long : (held : HeldTexts) → length (texts_in held) ≡ length held.own
texts_long held = length-map held.own (λ own. own ++ held.common)

pub text_there : (held : HeldTexts) (at : ℕ) → at < length held.own
    → get_or (texts_in held) at [] ≡ get_or held.own at [] ++ held.common
text_there held at within =
    get_or_default (texts_in held) at [] ([] ++ held.common) (omega (arith, within, texts_long held))
    ∙ get_or-map (λ own. own ++ held.common) held.own at []

-- one more, where there is one
pub more_mapped : {A B : Type 0} (f : A → B) (xs : List A) (given : Option A)
    → map f (xs ++ option_to_list given) ≡ map f xs ++ option_to_list (option_map f given)
more_mapped f xs None = map-append f xs []
more_mapped f xs (Some x) = map-append f xs (x ∷ [])
