-- In the midst of a round: one tile takes its turn.
use Rattle.std.proofs.Common.{◌≡◌, ◌≤◌, ◌<◌, ◌+◌, ◌++◌, ◌||◌, ℕ, Bool, true, false, List, [], ◌∷◌, Option, Some, length, take, get_or, set, is_some, option_to_list, inl, inr, refl, sym, ap, subst, ◌∙◌, arith, append_assoc, append-nil}
use Rattle.std.proofs.Math.Seq.{take-append-add}
use Rattle.std.specs.Io.KnownBytes.{Appends, Keeps}
use Rattle.std.proofs.KnownBytes.{Appends-nil, Appends-trans}
use Rattle.std.proofs.lemmas.Grind.{common_steps, flat_map-append}
use Rattle.std.proofs.lemmas.List.Folds.{list_any-append}
use Rattle.std.specs.List.{AllZip, list_any}
use Rattle.city_feature.specs.Feature.{FeatureValue}
use Rattle.tile_merge.specs.Giving.{Giving}
use Rattle.tile_merge.specs.Feeds.{FeedState, Course, MayTake, TakesTurn, SomeCourse, text_before}
use Rattle.tile_merge.specs.Opened.{AllThree}
use Rattle.tile_merge.specs.Rounds.{course_texts, MayTakeAll, SomeCourses, texts_given, lines_of, WroteRound, WroteTurnFront, WroteTurnsFront, RoundSoFar}
use Rattle.tile_stream.specs.Stream.{with_newline}
use Rattle.tile_merge.specs.Turns.{firsts, rests, turns}
use Rattle.tile_merge.proofs.Threes.{all_three_push}
use Rattle.tile_merge.proofs.Rounding.{round_back, round_some}
use Rattle.tile_stream.proofs.Steps.{first_of_longer, Appends-kept}
use Rattle.tile_merge.proofs.TurnsLaws.{turns_step, firsts-append}

-- the item at the seam of two lists, and what comes after it
record IsAtSeam {X : Type 0} (front back : List X) : Type 0 where
  item : X
  others : List X
  back_is : back ≡ item ∷ others
  found : (default : X) → get_or (front ++ back) (length front) default ≡ item
  written : (new : X) → set (front ++ back) (length front) new ≡ front ++ new ∷ others

at_seam : {X : Type 0} (front back : List X) → length front < length (front ++ back) → IsAtSeam front back
at_seam [] [] within = absurd (omega (arith, within))
at_seam [] (x ∷ back) within = record {
  item = x;
  others = back;
  back_is = refl;
  found = λ default. refl;
  written =
      λ new. refl;
}
at_seam (x ∷ front) back within =
    let more = at_seam front back (omega (arith, within)) in
    record {
      item = more.item;
      others = more.others;
      back_is = more.back_is;
      found = more.found;
      written = λ new. ap (λ xs. x ∷ xs) (more.written new);
    }

nothing_after : {X : Type 0} (front back : List X) → length (front ++ back) ≤ length front → back ≡ []
nothing_after [] [] short = refl
nothing_after [] (x ∷ back) short = absurd (omega (arith, short))
nothing_after (x ∷ front) back short = nothing_after front back (omega (arith, short))

-- the part of a pairing after a front
AllZip-after : {A B : Type 0} (P : A → B → Type 0) (front : List A) (x : A) (others : List A) (ys : List B)
    → AllZip P (front ++ x ∷ others) ys → (y : B) × (rest : List B) × P x y × AllZip P others rest
AllZip-after P [] x others [] all = absurd all
AllZip-after P [] x others (y ∷ ys) all = (y, ys, all.0, all.1)
AllZip-after P (a ∷ front) x others [] all = absurd all
AllZip-after P (a ∷ front) x others (y ∷ ys) all = AllZip-after P front x others ys all.1

AllZip-joined : {A B : Type 0} (P : A → B → Type 0) (front back : List A) (ys zs : List B) → AllZip P front ys
    → AllZip P back zs → AllZip P (front ++ back) (ys ++ zs)
AllZip-joined P [] back [] zs one two = two
AllZip-joined P [] back (y ∷ ys) zs one two = absurd one
AllZip-joined P (a ∷ front) back [] zs one two = absurd one
AllZip-joined P (a ∷ front) back (y ∷ ys) zs one two = (one.0, AllZip-joined P front back ys zs one.1 two)

course_texts-append : (first others : List Course)
    → course_texts (first ++ others) ≡ course_texts first ++ course_texts others
course_texts-append [] others = refl
course_texts-append (course ∷ first) others = ap (λ xs. course.texts ∷ xs) (course_texts-append first others)

pub any_false : (any : Bool) → (any || false) ≡ any
any_false true = refl
any_false false = refl

module _ {R : Type 0} (gives : Giving R) (IsWanted : FeatureValue → Type 0)
    (before : List (FeedState R)) (old : Option (List ℕ)) where
  pub round_start : RoundSoFar gives IsWanted before before 0 false old old
  round_start = record {
    first = [];
    after = [];
    rest = before;
    before_is = refl;
    now_is = refl;
    place_is = refl;
    round = ([], tt, refl, Appends-nil old);
  }

  module _ (now : List (FeedState R)) (place : ℕ) (any : Bool) (mid : Option (List ℕ))
      (so_far : RoundSoFar gives IsWanted before now place any old mid) where
    abbrev given : List (Option (List ℕ))
    given = so_far.round.0

    -- what was written was passed on
    pub round_kept : (newer : Option (List ℕ)) → Keeps mid newer
        → RoundSoFar gives IsWanted before now place any old newer
    round_kept newer kept = record {
      first = so_far.first;
      after = so_far.after;
      rest = so_far.rest;
      before_is = so_far.before_is;
      now_is = so_far.now_is;
      place_is = so_far.place_is;
      round = (given, so_far.round.1, so_far.round.2, Appends-kept old mid newer _ so_far.round.3 kept);
    }

    -- all tiles took their turns
    pub round_end : length now ≤ place → WroteRound gives IsWanted before now any old mid
    round_end all =
        let none = nothing_after so_far.after so_far.rest
        (omega (arith, all, so_far.place_is, ap length so_far.now_is)) in
        let first = so_far.before_is ∙ ap (λ xs. so_far.first ++ xs) none ∙ append-nil so_far.first in
        let after = so_far.now_is ∙ ap (λ xs. so_far.after ++ xs) none ∙ append-nil so_far.after in
        let Turns : List (FeedState R) → List (FeedState R) → Type 0 =
        λ xs ys. AllThree (TakesTurn gives IsWanted) xs ys given in (
          given,
          subst (λ xs. Turns xs now) (sym first) (subst (Turns so_far.first) (sym after) so_far.round.1),
          so_far.round.2,
          so_far.round.3,
        )

    module _ (within : place < length now) where
      seam : IsAtSeam so_far.after so_far.rest
      seam = at_seam so_far.after so_far.rest (omega (arith, within, so_far.place_is, ap length so_far.now_is))

      is_item : (default : FeedState R) → get_or now place default ≡ seam.item
      is_item default = ap (λ xs. get_or xs place default) so_far.now_is
          ∙ ap (λ n. get_or (so_far.after ++ so_far.rest) n default) (sym so_far.place_is) ∙ seam.found default

      is_set : (new : FeedState R) → set now place new ≡ so_far.after ++ new ∷ seam.others
      is_set new = ap (λ xs. set xs place new) so_far.now_is
          ∙ ap (λ n. set (so_far.after ++ so_far.rest) n new) (sym so_far.place_is) ∙ seam.written new

      is_before : before ≡ so_far.first ++ seam.item ∷ seam.others
      is_before = so_far.before_is ∙ ap (λ xs. so_far.first ++ xs) seam.back_is

      -- something may be ahead of the tile
      pub turn_some : SomeCourses (MayTakeAll gives IsWanted before) → (default : FeedState R)
          → SomeCourse (MayTake gives IsWanted (get_or now place default))
      turn_some some default =
          let all = subst (λ feeds. MayTakeAll gives IsWanted feeds some.0) is_before some.1 in
          let one = AllZip-after (MayTake gives IsWanted) so_far.first seam.item seam.others some.0 all in
          subst (λ feed. SomeCourse (MayTake gives IsWanted feed)) (sym (is_item default)) (one.0, one.2)

      -- what was written could not be passed on before the turn
      pub turn_unwritten : SomeCourses (MayTakeAll gives IsWanted before)
          → WroteTurnsFront gives IsWanted [] before old mid
      turn_unwritten some =
          let beyond = AllZip-after (MayTake gives IsWanted) so_far.first seam.item seam.others some.0
          (subst (λ feeds. MayTakeAll gives IsWanted feeds some.0) is_before some.1) in
          let after = round_some gives IsWanted so_far.first so_far.after given so_far.round.1 in
          let front = round_back gives IsWanted so_far.first so_far.after given so_far.round.1 after.0 after.1 in
          let rest = beyond.0 ∷ beyond.1 in
          let all = front.all ++ rest in
          let may = AllZip-joined (MayTake gives IsWanted) so_far.first (seam.item ∷ seam.others) front.all rest
          front.may (beyond.2, beyond.3) in
          let texts = texts_given given in
          let others = firsts (course_texts rest) in
          let later = turns (rests (course_texts all)) in
          let first : firsts (course_texts all) ≡ texts ++ others =
          ap firsts (course_texts-append front.all rest) ∙ firsts-append (course_texts front.all) (course_texts rest)
          ∙ ap (λ xs. xs ++ others) front.first in
          let whole : turns (course_texts all) ≡ texts ++ (others ++ later) =
          turns_step (course_texts all) ∙ ap (λ xs. xs ++ later) first ∙ append_assoc texts others later in
          let tail = lines_of (others ++ later) in
          let lines : lines_of (turns (course_texts all)) ≡ lines_of texts ++ tail =
          ap lines_of whole ∙ flat_map-append with_newline texts (others ++ later) in
          let count = length (lines_of texts) + 0 in
          let is : take count (lines_of (turns (course_texts all))) ≡ lines_of texts =
          ap (take count) lines ∙ take-append-add (lines_of texts) tail 0 ∙ append-nil (lines_of texts) in (
            all,
            count,
            subst (λ feeds. MayTakeAll gives IsWanted feeds all) (sym is_before) may,
            subst (Appends old mid) (sym is) so_far.round.3,
          )

      module _ (default new : FeedState R) (text : Option (List ℕ))
          (turn : TakesTurn gives IsWanted (get_or now place default) new text) where
        item_turn : TakesTurn gives IsWanted seam.item new text
        item_turn = subst (λ feed. TakesTurn gives IsWanted feed new text) (is_item default) turn

        pub turn_taken : (newer : Option (List ℕ)) → Appends mid newer (lines_of (option_to_list text)) → (both : Bool)
            → both ≡ (any || is_some text) → RoundSoFar gives IsWanted before (set now place new) (place + 1) both old
            newer
        turn_taken newer appends both is_any =
            let texts = flat_map-append option_to_list given (text ∷ [])
            ∙ ap (λ xs. texts_given given ++ xs) (append-nil (option_to_list text)) in
            let lines = ap lines_of texts ∙ flat_map-append with_newline (texts_given given) (option_to_list text) in
            record {
              first = so_far.first ++ seam.item ∷ [];
              after = so_far.after ++ new ∷ [];
              rest = seam.others;
              before_is = is_before ∙ sym (append_assoc so_far.first (seam.item ∷ []) seam.others);
              now_is = is_set new ∙ sym (append_assoc so_far.after (new ∷ []) seam.others);
              place_is = grind (arith, common_steps, so_far.place_is);
              round = (
                given ++ text ∷ [],
                all_three_push (TakesTurn gives IsWanted) so_far.first so_far.after given seam.item new text
                    so_far.round.1 item_turn,
                is_any ∙ ap (λ b. b || is_some text) so_far.round.2
                    ∙ sym (list_any-append is_some given (text ∷ [])
                    ∙ ap (λ b. list_any is_some given || b) (any_false (is_some text))),
                subst (Appends old newer) (sym lines) (Appends-trans old mid newer _ _ so_far.round.3 appends),
              );
            }

      -- a line of which only the first bytes could be written
      module _ (default new : FeedState R) (text : List ℕ)
          (turn : TakesTurn gives IsWanted (get_or now place default) new (Some text))
          (some : SomeCourses (MayTakeAll gives IsWanted before)) where
        item_text : TakesTurn gives IsWanted seam.item new (Some text)
        item_text = subst (λ feed. TakesTurn gives IsWanted feed new (Some text)) (is_item default) turn

        beyond : (course : Course) × (rest : List Course) × MayTake gives IsWanted seam.item course
            × AllZip (MayTake gives IsWanted) seam.others rest
        beyond = AllZip-after (MayTake gives IsWanted) so_far.first seam.item seam.others some.0
            (subst (λ feeds. MayTakeAll gives IsWanted feeds some.0) is_before some.1)

        pub turn_failed : (newer : Option (List ℕ)) (taken : ℕ) → Appends mid newer (take taken (with_newline text))
            → WroteTurnsFront gives IsWanted [] before old newer
        turn_failed newer taken appends =
            let after = round_some gives IsWanted so_far.first so_far.after given so_far.round.1 in
            let front = round_back gives IsWanted so_far.first so_far.after given so_far.round.1 after.0 after.1 in
            let here = item_text.1 in
            let course = text_before text here.0 in
            let rest = beyond.1 in
            let all = front.all ++ course ∷ rest in
            let may = AllZip-joined (MayTake gives IsWanted) so_far.first (seam.item ∷ seam.others) front.all
            (course ∷ rest) front.may (item_text.0 here.0 here.1, beyond.3) in
            let texts = texts_given given in
            let others = firsts (course_texts rest) in
            let later = turns (rests (course_texts all)) in
            let first : firsts (course_texts all) ≡ texts ++ text ∷ others =
            ap firsts (course_texts-append front.all (course ∷ rest))
            ∙ firsts-append (course_texts front.all) (course_texts (course ∷ rest))
            ∙ ap (λ xs. xs ++ text ∷ others) front.first in
            let whole : turns (course_texts all) ≡ texts ++ text ∷ (others ++ later) =
            turns_step (course_texts all) ∙ ap (λ xs. xs ++ later) first ∙ append_assoc texts (text ∷ others) later in
            let tail = lines_of (others ++ later) in
            let lines : lines_of (turns (course_texts all)) ≡ lines_of texts ++ (with_newline text ++ tail) =
            ap lines_of whole ∙ flat_map-append with_newline texts (text ∷ (others ++ later)) in
            let part = first_of_longer taken (with_newline text) tail in
            let count = length (lines_of texts) + part.0 in
            let is : take count (lines_of (turns (course_texts all)))
            ≡ lines_of texts ++ take taken (with_newline text) =
            ap (take count) lines ∙ take-append-add (lines_of texts) (with_newline text ++ tail) part.0
            ∙ ap (λ xs. lines_of texts ++ xs) part.1 in (
              all,
              count,
              subst (λ feeds. MayTakeAll gives IsWanted feeds all) (sym is_before) may,
              subst (Appends old newer) (sym is) (Appends-trans old mid newer _ _ so_far.round.3 appends),
            )

  -- the turn of a tile ended before its line was written
  pub turn_stopped : (now : List (FeedState R)) (place : ℕ) (any : Bool) (mid : Option (List ℕ))
      (so_far : RoundSoFar gives IsWanted before now place any old mid) → place < length now → (default : FeedState R)
      → SomeCourses (MayTakeAll gives IsWanted before) → (newer : Option (List ℕ))
      → WroteTurnFront gives IsWanted (get_or now place default) mid newer
      → WroteTurnsFront gives IsWanted [] before old newer
  turn_stopped now place any mid so_far within default some newer (inl kept) =
      turn_unwritten now place any newer (round_kept now place any mid so_far newer kept) within some
  turn_stopped now place any mid so_far within default some newer (inr part) =
      turn_failed now place any mid so_far within default part.1 part.0 part.3 some newer part.2 part.4
