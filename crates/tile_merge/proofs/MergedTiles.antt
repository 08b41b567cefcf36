-- From the tiles that were opened and what they gave to the tiles of a merge.
use Rattle.std.proofs.Common.{◌≡◌, ℕ, List, [], ◌∷◌, length, map, refl, sym, ap, subst, ◌∙◌, arith}
use Rattle.std.specs.List.{AllByRecursion}
use Rattle.city_feature.specs.Feature.{FeatureValue}
use Rattle.city_feature.specs.Header.{HeaderValue}
use Rattle.city_feature.specs.Joined.{IsJoined}
use Rattle.city_feature.specs.declared.base.Base.{Base}
use Rattle.city_grid.specs.Axes.{Triple}
use Rattle.tile_merge.specs.Giving.{Giving}
use Rattle.tile_merge.specs.EndNotes.{outcomes_in, totals_in}
use Rattle.tile_merge.specs.Feeds.{FeedState, Course}
use Rattle.tile_merge.specs.Merged.{HeadedTile, MergedTile, HaveHeads, headers_of, merged_shifts, merged_texts, merged_outcomes, ComesToTexts, Merges}
use Rattle.tile_merge.specs.Opened.{AllThree, MayGiveOpened, OpenState, IsOpened}
use Rattle.tile_merge.specs.Rounds.{IsFeedOf, MayTakeAll, SomeCourses, course_texts, course_ends}
use Rattle.tile_stream.proofs.HeldFirst.{something, tile_comes}

module _ {R : Type 0} (gives : Giving R) (IsWanted : FeatureValue → Type 0) where
  pub given_all : (tiles : List (OpenState R)) (shifts : List Triple) (feeds : List (FeedState R))
      (courses : List Course) → AllThree (IsFeedOf gives IsWanted) tiles shifts feeds
      → MayTakeAll gives IsWanted feeds courses → AllThree (MayGiveOpened gives IsWanted) tiles shifts courses
  given_all [] [] [] [] fed may = tt
  given_all (tile ∷ tiles) (shift ∷ shifts) (feed ∷ feeds) (course ∷ courses) fed may =
      (fed.0.0 course may.0, given_all tiles shifts feeds courses fed.1 may.1)
  given_all [] [] [] (course ∷ courses) fed may = absurd may
  given_all [] [] (feed ∷ feeds) courses fed may = absurd fed
  given_all [] (shift ∷ shifts) feeds courses fed may = absurd fed
  given_all (tile ∷ tiles) [] feeds courses fed may = absurd fed
  given_all (tile ∷ tiles) (shift ∷ shifts) [] courses fed may = absurd fed
  given_all (tile ∷ tiles) (shift ∷ shifts) (feed ∷ feeds) [] fed may = absurd may

  -- something may be ahead of each
  pub some_ahead : (readers : List R) (tiles : List (OpenState R)) (headers : List HeaderValue) (shifts : List Triple)
      (feeds : List (FeedState R)) → AllThree (IsOpened gives) readers tiles headers
      → AllThree (IsFeedOf gives IsWanted) tiles shifts feeds → SomeCourses (MayTakeAll gives IsWanted feeds)
  some_ahead [] [] [] [] [] opened fed = ([], tt)
  some_ahead (reader ∷ readers) (tile ∷ tiles) (header ∷ headers) (shift ∷ shifts) (feed ∷ feeds) opened fed =
      let one = fed.0.1 (something gives IsWanted shift tile.unread opened.0.some) in
      let more = some_ahead readers tiles headers shifts feeds opened.1 fed.1 in
      (one.0 ∷ more.0, (one.1, more.1))
  some_ahead [] [] [] [] (feed ∷ feeds) opened fed = absurd fed
  some_ahead [] [] [] (shift ∷ shifts) feeds opened fed = absurd fed
  some_ahead [] [] (header ∷ headers) shifts feeds opened fed = absurd opened
  some_ahead [] (tile ∷ tiles) headers shifts feeds opened fed = absurd opened
  some_ahead (reader ∷ readers) [] headers shifts feeds opened fed = absurd opened
  some_ahead (reader ∷ readers) (tile ∷ tiles) [] shifts feeds opened fed = absurd opened
  some_ahead (reader ∷ readers) (tile ∷ tiles) (header ∷ headers) [] feeds opened fed = absurd fed
  some_ahead (reader ∷ readers) (tile ∷ tiles) (header ∷ headers) (shift ∷ shifts) [] opened fed = absurd fed

  -- the tiles of a merge, each with its head, its shift, and what it gave
  pub record AreMerged (readers : List R) (headers : List HeaderValue) (shifts : List Triple) (courses : List Course) :
      Type 0 where
    pub merged : List MergedTile
    pub heads : HaveHeads gives readers (map (λ (m : MergedTile). m.tile) merged)
    pub comes : AllByRecursion (ComesToTexts IsWanted) merged
    pub headers_are : headers_of (map (λ (m : MergedTile). m.tile) merged) ≡ headers
    pub shifts_are : merged_shifts merged ≡ shifts
    pub texts_are : merged_texts merged ≡ course_texts courses
    pub outcomes_are : merged_outcomes merged ≡ outcomes_in (course_ends courses)
    pub totals_are : totals_in (course_ends courses) ≡ map length (merged_texts merged)

  pub are_merged : (readers : List R) (tiles : List (OpenState R)) (headers : List HeaderValue) (shifts : List Triple)
      (courses : List Course) → AllThree (IsOpened gives) readers tiles headers → AllThree (MayGiveOpened gives IsWanted) tiles shifts courses
      → AreMerged readers headers shifts courses
  are_merged [] [] [] [] [] opened given = record {
    merged = [];
    heads = tt;
    comes = tt;
    headers_are = refl;
    shifts_are = refl;
    texts_are = refl;
    outcomes_are =
        refl;
    totals_are = refl;
  }
  are_merged (reader ∷ readers) (tile ∷ tiles) (header ∷ headers) (shift ∷ shifts) (course ∷ courses) opened given =
      let comes = given.0.0 in
      let head = opened.0.head.2 comes.0 comes.1.0 in
      let headed : HeadedTile = record { lines = head.0; header = header; held = opened.0.head.0; after = comes.0 } in
      let one : MergedTile = record {
        tile = headed;
        shift = shift;
        texts = course.texts;
        outcome =
            course.ended.stop;
      } in
      let more = are_merged readers tiles headers shifts courses opened.1 given.1 in
      record {
        merged = one ∷ more.merged;
        heads = ((head.1, head.2), more.heads);
        comes = (
          tile_comes gives IsWanted shift tile.unread opened.0.head.0 opened.0.head.1
              (omega (arith, opened.0.line, opened.0.later)) course.texts course.ended.stop comes,
          more.comes,
        );
        headers_are = ap (λ xs. header ∷ xs) more.headers_are;
        shifts_are = ap (λ xs. shift ∷ xs) more.shifts_are;
        texts_are = ap (λ xs. course.texts ∷ xs) more.texts_are;
        outcomes_are = ap (λ xs. course.ended.stop ∷ xs) more.outcomes_are;
        totals_are = ap (λ n. n ∷ totals_in (course_ends courses)) given.0.1
            ∙ ap (λ xs. length course.texts ∷ xs) more.totals_are;
      }
  are_merged [] [] [] [] (course ∷ courses) opened given = absurd given
  are_merged [] [] [] (shift ∷ shifts) courses opened given = absurd given
  are_merged [] [] (header ∷ headers) shifts courses opened given = absurd opened
  are_merged [] (tile ∷ tiles) headers shifts courses opened given = absurd opened
  are_merged (reader ∷ readers) [] headers shifts courses opened given = absurd opened
  are_merged (reader ∷ readers) (tile ∷ tiles) [] shifts courses opened given = absurd opened
  are_merged (reader ∷ readers) (tile ∷ tiles) (header ∷ headers) [] courses opened given = absurd given
  are_merged (reader ∷ readers) (tile ∷ tiles) (header ∷ headers) (shift ∷ shifts) [] opened given = absurd given

  pub merges : (base : Base) (readers : List R) (headers : List HeaderValue) (line : List ℕ) (shifts : List Triple)
      (courses : List Course) (all : AreMerged readers headers shifts courses) → IsJoined base headers line shifts
      → Merges gives IsWanted base readers all.merged line
  merges base readers headers line shifts courses all joined = record {
    heads = all.heads;
    joined = subst (λ (hs : List HeaderValue). IsJoined base hs line (merged_shifts all.merged)) (sym all.headers_are)
        (subst (IsJoined base headers line) (sym all.shifts_are) joined);
    texts = all.comes;
  }
