-- One round of a merge in turn, and one after another.
use Rattle.std.proofs.Common.{◌≡◌, ◌≤◌, ◌<◌, ◌+◌, ◌++◌, ℕ, Bool, true, false, List, [], ◌∷◌, Option, Some, None, length, take, drop, is_some, option_to_list, refl, sym, ap, subst, ◌∙◌, arith, append_assoc, append-nil}
use Rattle.std.proofs.Math.Seq.{take-append-add}
use Rattle.std.specs.Io.KnownBytes.{Appends}
use Rattle.std.proofs.KnownBytes.{Appends-nil, Appends-trans}
use Rattle.std.proofs.lemmas.Grind.{flat_map-append}
use Rattle.std.specs.List.{AllZip, AllByRecursion, list_any}
use Rattle.city_feature.specs.Feature.{FeatureValue}
use Rattle.tile_merge.specs.Giving.{Giving}
use Rattle.tile_merge.specs.declared.merging.ends.TileEnd.{TileEnd}
use Rattle.tile_merge.specs.Feeds.{FeedState, Course, ThenComes, NotesCome, MayTake, TakesTurn, SomeCourse, IsOver, most_ahead, text_before}
use Rattle.tile_merge.specs.Opened.{AllThree}
use Rattle.tile_merge.specs.Rounds.{course_texts, course_ends, MayTakeAll, SomeCourses, all_ahead, texts_given, lines_of, WroteRound, WroteTurns, WroteTurnsFront, TurnsSoFar}
use Rattle.tile_stream.specs.Stream.{with_newline}
use Rattle.tile_merge.specs.Turns.{firsts, rests, turns}
use Rattle.tile_merge.proofs.TurnsLaws.{turns_step, turns_nothing}

module _ {R : Type 0} (gives : Giving R) (IsWanted : FeatureValue → Type 0) where
  abbrev May : FeedState R → Course → Type 0
  May feed course = MayTake gives IsWanted feed course

  -- of a tile that is over nothing more comes, and its end is known
  over_course : (feed : FeedState R) → IsOver feed → (course : Course) → May feed course → (course.texts ≡ [])
      × (feed.last ≡ Some course.ended)
  over_course feed over course may =
      let Comes : List _ → Type 0 = λ left. NotesCome
      (ThenComes feed.notes.closed gives IsWanted feed.shift feed.unread feed.count feed.last) left course.texts
      course.ended in
      let left = subst Comes over.1 may in
      subst (λ closed. ThenComes closed gives IsWanted feed.shift feed.unread feed.count feed.last course) over.0 left

  -- what a turn says of the courses
  pub record IsTurnBack (before : FeedState R) (given : Option (List ℕ)) (course : Course) : Type 0 where
    there : Course
    may : May before there
    first : take 1 there.texts ≡ option_to_list given
    rest : drop 1 there.texts ≡ course.texts
    ended : there.ended ≡ course.ended

  turn_back : (before after : FeedState R) (given : Option (List ℕ)) → TakesTurn gives IsWanted before after given
      → (course : Course) → May after course → IsTurnBack before given course
  turn_back before after (Some text) turn course may = record {
    there = text_before text course;
    may = turn.0 course may;
    first = refl;
    rest = refl;
    ended = refl;
  }
  turn_back before after None turn course may =
      let none = over_course after turn.3 course may in
      record {
        there = course;
        may = turn.0 course may;
        first = ap (take 1) none.0;
        rest = ap (drop 1) none.0 ∙ sym none.0;
        ended = refl;
      }

  pub record IsRoundBack (before : List (FeedState R)) (given : List (Option (List ℕ))) (courses : List Course) : Type 0
    where
      pub all : List Course
      pub may : MayTakeAll gives IsWanted before all
      pub first : firsts (course_texts all) ≡ texts_given given
      pub rest : rests (course_texts all) ≡ course_texts courses
      pub ended : course_ends all ≡ course_ends courses

  pub round_back : (before after : List (FeedState R)) (given : List (Option (List ℕ)))
      → AllThree (TakesTurn gives IsWanted) before after given
      → (courses : List Course) → MayTakeAll gives IsWanted after courses → IsRoundBack before given courses
  round_back [] [] [] turns [] may = record { all = []; may = tt; first = refl; rest = refl; ended = refl }
  round_back (old ∷ before) (new ∷ after) (text ∷ given) turns (course ∷ courses) may =
      let one = turn_back old new text turns.0 course may.0 in
      let more = round_back before after given turns.1 courses may.1 in
      record {
        all = one.there ∷ more.all;
        may = (one.may, more.may);
        first = ap (λ xs. xs ++ firsts (course_texts more.all)) one.first
            ∙ ap (λ ys. option_to_list text ++ ys) more.first;
        rest = ap (λ xs. xs ∷ rests (course_texts more.all)) one.rest ∙ ap (λ ys. course.texts ∷ ys) more.rest;
        ended = ap (λ x. x ∷ course_ends more.all) one.ended ∙ ap (λ ys. course.ended ∷ ys) more.ended;
      }
  round_back [] [] [] turns (course ∷ courses) may = absurd may
  round_back [] [] (text ∷ given) turns courses may = absurd turns
  round_back [] (new ∷ after) given turns courses may = absurd turns
  round_back (old ∷ before) [] given turns courses may = absurd turns
  round_back (old ∷ before) (new ∷ after) [] turns courses may = absurd turns
  round_back (old ∷ before) (new ∷ after) (text ∷ given) turns [] may = absurd may

  some_after : (before after : FeedState R) (given : Option (List ℕ)) → TakesTurn gives IsWanted before after given
      → SomeCourse (May after)
  some_after before after (Some text) turn = turn.1
  some_after before after None turn = turn.1

  pub round_some : (before after : List (FeedState R)) (given : List (Option (List ℕ)))
      → AllThree (TakesTurn gives IsWanted) before after given → SomeCourses (MayTakeAll gives IsWanted after)
  round_some [] [] [] turns = ([], tt)
  round_some (old ∷ before) (new ∷ after) (text ∷ given) turns =
      let one = some_after old new text turns.0 in
      let more = round_some before after given turns.1 in
      (one.0 ∷ more.0, (one.1, more.1))
  round_some [] [] (text ∷ given) turns = absurd turns
  round_some [] (new ∷ after) given turns = absurd turns
  round_some (old ∷ before) [] given turns = absurd turns
  round_some (old ∷ before) (new ∷ after) [] turns = absurd turns

  fewer_after : (before after : FeedState R) (given : Option (List ℕ)) → TakesTurn gives IsWanted before after given
      → most_ahead after ≤ most_ahead before
  fewer_after before after (Some text) turn = omega (arith, turn.2)
  fewer_after before after None turn = turn.2

  round_not_more : (before after : List (FeedState R)) (given : List (Option (List ℕ)))
      → AllThree (TakesTurn gives IsWanted) before after given → all_ahead after ≤ all_ahead before
  round_not_more [] [] [] turns = omega arith
  round_not_more (old ∷ before) (new ∷ after) (text ∷ given) turns =
      omega (arith, fewer_after old new text turns.0, round_not_more before after given turns.1)
  round_not_more [] [] (text ∷ given) turns = absurd turns
  round_not_more [] (new ∷ after) given turns = absurd turns
  round_not_more (old ∷ before) [] given turns = absurd turns
  round_not_more (old ∷ before) (new ∷ after) [] turns = absurd turns

  pub round_fewer : (before after : List (FeedState R)) (given : List (Option (List ℕ)))
      → AllThree (TakesTurn gives IsWanted) before after given → list_any is_some given ≡ true
      → all_ahead after < all_ahead before
  round_fewer [] [] [] turns any = absurd (cc any)
  round_fewer (old ∷ before) (new ∷ after) (Some text ∷ given) turns any =
      omega (arith, turns.0.2, round_not_more before after given turns.1)
  round_fewer (old ∷ before) (new ∷ after) (None ∷ given) turns any =
      omega (arith, turns.0.2, round_fewer before after given turns.1 any)
  round_fewer [] [] (text ∷ given) turns any = absurd turns
  round_fewer [] (new ∷ after) given turns any = absurd turns
  round_fewer (old ∷ before) [] given turns any = absurd turns
  round_fewer (old ∷ before) (new ∷ after) [] turns any = absurd turns

  -- where no tile gave a text, all are over
  pub record IsAllOver (after : List (FeedState R)) (given : List (Option (List ℕ))) (courses : List Course) : Type 0
    where
      pub none : AllByRecursion (λ (texts : List (List ℕ)). texts ≡ []) (course_texts courses)
      pub ends : AllZip (λ (feed : FeedState R) (ended : TileEnd). feed.last ≡ Some ended) after (course_ends courses)
      pub nothing : texts_given given ≡ []

  pub all_over : (before after : List (FeedState R)) (given : List (Option (List ℕ)))
      → AllThree (TakesTurn gives IsWanted) before after given → list_any is_some given ≡ false
      → (courses : List Course) → MayTakeAll gives IsWanted after courses → IsAllOver after given courses
  all_over [] [] [] turns any [] may = record { none = tt; ends = tt; nothing = refl }
  all_over (old ∷ before) (new ∷ after) (Some text ∷ given) turns any courses may = absurd (cc any)
  all_over (old ∷ before) (new ∷ after) (None ∷ given) turns any (course ∷ courses) may =
      let one = over_course new turns.0.3 course may.0 in
      let more = all_over before after given turns.1 any courses may.1 in
      record { none = (one.0, more.none); ends = (one.1, more.ends); nothing = more.nothing }
  all_over [] [] [] turns any (course ∷ courses) may = absurd may
  all_over [] [] (text ∷ given) turns any courses may = absurd turns
  all_over [] (new ∷ after) given turns any courses may = absurd turns
  all_over (old ∷ before) [] given turns any courses may = absurd turns
  all_over (old ∷ before) (new ∷ after) [] turns any courses may = absurd turns
  all_over (old ∷ before) (new ∷ after) (None ∷ given) turns any [] may = absurd may

  -- ---- rounds after one another ----

  module _ (before : List (FeedState R)) (old : Option (List ℕ)) where
    pub turns_start : SomeCourses (MayTakeAll gives IsWanted before) → TurnsSoFar gives IsWanted before before old old
    turns_start some = record {
      out = [];
      back = λ courses may. (courses, may, refl, refl);
      some = some;
      written = Appends-nil old;
    }

    module _ (now : List (FeedState R)) (mid : Option (List ℕ)) (so_far : TurnsSoFar gives IsWanted before now old mid)
      where
        module _ (after : List (FeedState R)) (any : Bool) (new : Option (List ℕ))
            (round : WroteRound gives IsWanted now after any mid new) where
          abbrev given : List (Option (List ℕ))
          given = round.0

          out : List (List ℕ)
          out = so_far.out ++ texts_given given

          wrote : Appends old new (lines_of (so_far.out ++ texts_given given))
          wrote = subst (Appends old new) (sym (flat_map-append with_newline so_far.out (texts_given given)))
              (Appends-trans old mid new _ _ so_far.written round.3)

          back : (courses : List Course) → MayTakeAll gives IsWanted after courses
              → (all : List Course) × MayTakeAll gives IsWanted before all
              × (turns (course_texts all) ≡ (so_far.out ++ texts_given given) ++ turns (course_texts courses))
              × (course_ends all ≡ course_ends courses)
          back courses may =
              let one = round_back now after given round.1 courses may in
              let all = so_far.back one.all one.may in
              let step = turns_step (course_texts one.all)
              ∙ ap (λ xs. xs ++ turns (rests (course_texts one.all))) one.first
              ∙ ap (λ ls. texts_given given ++ turns ls) one.rest in (
                all.0,
                all.1,
                all.2 ∙ ap (λ xs. so_far.out ++ xs) step
                    ∙ sym (append_assoc so_far.out (texts_given given) (turns (course_texts courses))),
                all.3 ∙ one.ended,
              )

          pub turns_on : TurnsSoFar gives IsWanted before after old new
          turns_on = record {
            out = so_far.out ++ texts_given given;
            back = back;
            some = round_some now after given round.1;
            written = wrote;
          }

          pub turns_smaller : any ≡ true → all_ahead after < all_ahead now
          turns_smaller is = round_fewer now after given round.1 (sym round.2 ∙ is)

          pub turns_over : any ≡ false → WroteTurns gives IsWanted [] before after old new
          turns_over is =
              let some = round_some now after given round.1 in
              let over = all_over now after given round.1 (sym round.2 ∙ is) some.0 some.1 in
              let all = back some.0 some.1 in
              let Ends : List TileEnd → Type 0 = λ ends.
              AllZip (λ (feed : FeedState R) (ended : TileEnd). feed.last ≡ Some ended) after ends in
              let lines = ap lines_of (all.2 ∙ ap (λ xs. (so_far.out ++ texts_given given) ++ xs)
              (turns_nothing (course_texts some.0) over.none) ∙ append-nil (so_far.out ++ texts_given given)) in
              (all.0, all.1, subst Ends (sym all.3) over.ends, subst (Appends old new) (sym lines) wrote)

        pub turns_failed : (new : Option (List ℕ)) → WroteTurnsFront gives IsWanted [] now mid new
            → WroteTurnsFront gives IsWanted [] before old new
        turns_failed new front =
            let all = so_far.back front.0 front.2 in
            let lines = ap lines_of all.2 ∙ flat_map-append with_newline so_far.out (turns (course_texts front.0)) in
            let count = length (lines_of so_far.out) + front.1 in
            let part = ap (take count) lines
            ∙ take-append-add (lines_of so_far.out) (lines_of (turns (course_texts front.0))) front.1 in (
              all.0,
              count,
              all.1,
              subst (Appends old new) (sym part)
                  (Appends-trans old mid new _ _ so_far.written front.3),
            )
