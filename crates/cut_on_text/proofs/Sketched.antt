-- Sketches of objects, one after another.
use Rattle.std.proofs.Common.{◌≡◌, ◌∙◌, ◌++◌, ◌≤◌, ◌<◌, ◌+◌, ◌-◌, ◌==◌, Bool, true, false, ℕ, List, [], ◌∷◌, All, length, drop, get_or, slice_range, refl, sym, ap, subst, arith, append_assoc, length-append}
use Rattle.std.proofs.lemmas.Bool.{eqb-true, eqb-false}
use Rattle.std.proofs.lemmas.List.{get_or_append_left, get_or_push}
use Rattle.std.proofs.lemmas.List.Elements.{All-drop, All-take}
use Rattle.std.specs.Fmt.{decimal}
use Rattle.std.specs.List.{flat_map}
use Rattle.city_json.specs.Bytes.{colon}
use Rattle.city_json.specs.Compact.{compact, quoted}
use Rattle.city_json.specs.Parts.{AreParts}
use Rattle.city_json.specs.Tree.{Tree, member_trees}
use Rattle.city_json.specs.declared.compacting.places.MemberPlace.{MemberPlace}
use Rattle.city_json.specs.CompactTexts.{IsCompactOf}
use Rattle.city_families.specs.Boundaries.{IsBounded, boundaries, relabelled_object}
use Rattle.city_families.specs.Chosen.{named_at}
use Rattle.city_families.specs.Leaves.{leaves}
use Rattle.cut_on_text.specs.Skeletons.{AreSkeletons, IsSkeleton, LeafPlace, SkeletonPlace, SkeletonTexts, no_place, place_at, woven}
use Rattle.cut_on_text.specs.Sketches.{ArePlaced, IsNoted, IsSketch, leaf_vertices}
use Rattle.cut_on_text.proofs.NoteWalks.{noted_after, noted_so}
use Rattle.cut_on_text.proofs.TextFeatures.{as_many_parts}
use Rattle.cut_on_text.proofs.Woven.{slice_end, slice_front, slice_middle, woven_front}

-- ---- one object

-- an object whose name was written after a line, then a colon, and then its text without its leaves
pub sketched : (count at : ℕ) (given id : List ℕ) (noted : List LeafPlace) (line line₁ line₂ : List ℕ)
    (noted' : List LeafPlace) (line' : List ℕ) (start : SkeletonPlace) (split : ℕ) (pairs : List (List ℕ × Tree))
    → IsCompactOf given (named_at pairs at).1
    → id ≡ quoted (named_at pairs at).0 → line₁ ≡ line ++ id → line₂ ≡ line₁ ++ colon ∷ []
    → ((value : Tree) → IsCompactOf given value → IsBounded count value × IsNoted noted line₂ split noted' line'
    (flat_map leaves (boundaries value)) (λ change. compact (relabelled_object change value)))
    → start.text ≡ length line → start.name ≡ length line₁ → start.leaves ≡ length noted → start.split ≡ split
    → IsSketch count noted line start noted' line' (named_at pairs at)
sketched count at given id noted line line₁ line₂ noted' line' start split pairs there id_is first second made begin name
    begins splits =
    let (bounded, notes) = made (named_at pairs at).1 there in
    let quoted_name = quoted (named_at pairs at).0 in
    let named : line₁ ≡ line ++ quoted_name = first ∙ ap (λ l. line ++ l) id_is in
    let before : line₂ ≡ line ++ (quoted_name ++ colon ∷ []) =
    second ∙ (ap (λ l. l ++ colon ∷ []) named ∙ append_assoc line quoted_name (colon ∷ [])) in
    let long : length line₁ ≡ length line + length quoted_name =
    ap length named ∙ length-append line quoted_name in
    let longer : length line₂ ≡ length line₁ + 1 = ap length second ∙ length-append line₁ (colon ∷ []) in
    let all : length line' ≡ length line₂ + length notes.text =
    ap length notes.written ∙ length-append line₂ notes.text in
    record {
      bounded = bounded;
      text = begin;
      first = begins;
      order = omega (arith, begin, name, long);
      within = omega (arith, name, longer, all);
      name = ap (λ n. slice_range line' n start.name) begin
          ∙ (ap (λ l. slice_range l (length line) start.name) (notes.written
          ∙ ap (λ l. l ++ notes.text) (second ∙ ap (λ l. l ++ colon ∷ []) named))
          ∙ (ap (λ l. slice_range l (length line) start.name)
          (append_assoc (line ++ quoted_name) (colon ∷ []) notes.text)
          ∙ slice_middle line quoted_name (colon ∷ notes.text) start.name (name ∙ long)));
      object = subst (λ n. IsNoted noted line n noted' line' (flat_map leaves (boundaries (named_at pairs at).1))
          (λ change. quoted_name ++ colon ∷ compact (relabelled_object change (named_at pairs at).1))) (sym splits)
          (noted_so noted line split noted' line' (flat_map leaves (boundaries (named_at pairs at).1))
          (flat_map leaves (boundaries (named_at pairs at).1))
          (λ change. (quoted_name ++ colon ∷ []) ++ compact (relabelled_object change (named_at pairs at).1))
          (λ change. quoted_name ++ colon ∷ compact (relabelled_object change (named_at pairs at).1))
          (noted_after noted line line₂ (quoted_name ++ colon ∷ []) split noted' line'
          (flat_map leaves (boundaries (named_at pairs at).1))
          (λ change. compact (relabelled_object change (named_at pairs at).1)) before notes) refl
          (λ change. append_assoc quoted_name (colon ∷ []) (compact (relabelled_object change (named_at pairs at).1))));
    }

-- ---- an object among others

-- an object whose text and whose leaves are those from one place to the next
pub record IsLaid (count : ℕ) (text : List ℕ) (noted : List LeafPlace) (start next : SkeletonPlace) (named : List ℕ × Tree) : Type 0 where
  pub bounded : IsBounded count named.1
  pub order : start.text ≤ next.text
  pub within : next.text ≤ length text
  pub named_order : start.text ≤ start.name
  pub named_within : start.name ≤ length text
  pub after_first : start.leaves ≤ start.split
  pub before_last : start.split ≤ next.leaves
  pub noted_within : next.leaves ≤ length noted
  pub name : slice_range text start.text start.name ≡ quoted named.0
  pub uses : flat_map leaves (boundaries named.1) ≡ leaf_vertices (slice_range noted start.split next.leaves)
      ++ leaf_vertices (slice_range noted start.leaves start.split)
  pub placed : ArePlaced start.text next.text (slice_range noted start.leaves next.leaves)
  pub is : (change : List ℕ → List ℕ) → quoted named.0 ++ colon ∷ compact (relabelled_object change named.1)
      ≡ woven text start.text next.text (slice_range noted start.leaves next.leaves)
      (λ vertex. change (decimal vertex))

-- where what comes after a line and the leaves begins
abbrev pub place_after : List ℕ → List LeafPlace → SkeletonPlace
place_after line noted =
    record { text = length line; name = length line; leaves = length noted; split = length noted }

pub place_is : (place : SkeletonPlace) (text first : ℕ) (line : List ℕ) (noted : List LeafPlace)
    → place ≡ record { text = text; name = text; leaves = first; split = first } → text ≡ length line
    → first ≡ length noted → place ≡ place_after line noted
place_is place text first line noted is same same_first = is ∙ (ap (λ n. at_places n first) same
    ∙ ap (λ n. at_places (length line) n) same_first)
  where
    at_places : ℕ → ℕ → SkeletonPlace
    at_places n m = record { text = n; name = n; leaves = m; split = m }

laid_last : (count : ℕ) (noted : List LeafPlace) (line : List ℕ) (start : SkeletonPlace) (noted' : List LeafPlace)
    (line' : List ℕ) (named : List ℕ × Tree) → IsSketch count noted line start noted' line' named
    → IsLaid count line' noted' start (place_after line' noted') named
laid_last count noted line start noted' line' named sketch =
    let notes = sketch.object in
    let first = notes.first in
    let second = notes.second in
    let long : length noted' ≡ length noted + length (first ++ second) =
    ap length notes.more ∙ length-append noted (first ++ second) in
    let both = length-append first second in
    let lines : length line' ≡ length line + length notes.text =
    ap length notes.written ∙ length-append line notes.text in
    let all : slice_range noted' start.leaves (length noted') ≡ first ++ second =
    ap (λ n. slice_range noted' n (length noted')) sketch.first
    ∙ (ap (λ l. slice_range l (length noted) (length noted')) notes.more
    ∙ slice_end noted (first ++ second) (length noted') long) in
    let front : slice_range noted' start.leaves start.split ≡ first =
    ap (λ n. slice_range noted' n start.split) sketch.first
    ∙ (ap (λ l. slice_range l (length noted) start.split)
    (notes.more ∙ sym (append_assoc noted first second))
    ∙ slice_middle noted first second start.split notes.split_is) in
    let split : start.split ≡ length (noted ++ first) = notes.split_is ∙ sym (length-append noted first) in
    let back : slice_range noted' start.split (length noted') ≡ second =
    ap (λ n. slice_range noted' n (length noted')) split
    ∙ (ap (λ l. slice_range l (length (noted ++ first)) (length noted'))
    (notes.more ∙ sym (append_assoc noted first second))
    ∙ slice_end (noted ++ first) second (length noted') (omega (arith, long, both, length-append noted first))) in
    record {
      bounded = sketch.bounded;
      order = omega (arith, sketch.text, lines);
      within = omega arith;
      named_order = sketch.order;
      named_within = sketch.within;
      after_first = omega (arith, sketch.first, notes.split_is);
      before_last = omega (arith, notes.split_is, long, both);
      noted_within = omega arith;
      name = sketch.name;
      uses = notes.named ∙ (ap (λ l. leaf_vertices l ++ leaf_vertices first) (sym back)
          ∙ ap (λ l. leaf_vertices (slice_range noted' start.split (length noted')) ++ leaf_vertices l) (sym front));
      placed = subst (ArePlaced start.text (length line')) (sym all)
          (subst (λ n. ArePlaced n (length line') (first ++ second)) (sym sketch.text) notes.placed);
      is = λ change.
          let label : ℕ → List ℕ = λ vertex. change (decimal vertex) in
          notes.is change ∙ (ap (λ n. woven line' n (length line') (first ++ second) label) (sym sketch.text)
          ∙ ap (λ l. woven line' start.text (length line') l label) (sym all));
    }

-- it stays where more is written and noted
laid_on : (count : ℕ) (text more : List ℕ) (noted others : List LeafPlace) (start next : SkeletonPlace)
    (named : List ℕ × Tree) → IsLaid count text noted start next named
    → IsLaid count (text ++ more) (noted ++ others) start next named
laid_on count text more noted others start next named laid =
    let split_within : start.split ≤ length noted = omega (arith, laid.before_last, laid.noted_within) in
    let all = slice_front noted others start.leaves next.leaves
    (omega (arith, laid.after_first, laid.before_last)) laid.noted_within in
    let front = slice_front noted others start.leaves start.split laid.after_first split_within in
    let back = slice_front noted others start.split next.leaves laid.before_last laid.noted_within in
    record {
      bounded = laid.bounded;
      order = laid.order;
      within = omega (arith, laid.within, length-append text more);
      named_order = laid.named_order;
      named_within = omega (arith, laid.named_within, length-append text more);
      after_first = laid.after_first;
      before_last = laid.before_last;
      noted_within = omega (arith, laid.noted_within, length-append noted others);
      name = slice_front text more start.text start.name laid.named_order laid.named_within ∙ laid.name;
      uses = laid.uses
          ∙ (ap (λ l. leaf_vertices l ++ leaf_vertices (slice_range noted start.leaves start.split)) (sym back)
          ∙ ap (λ l. leaf_vertices (slice_range (noted ++ others) start.split next.leaves) ++ leaf_vertices l) (sym front));
      placed = subst (ArePlaced start.text next.text) (sym all) laid.placed;
      is = λ change.
          let label : ℕ → List ℕ = λ vertex. change (decimal vertex) in
          laid.is change ∙ (sym (woven_front text more start.text next.text
          (slice_range noted start.leaves next.leaves) label laid.placed laid.within)
          ∙ ap (λ l. woven (text ++ more) start.text next.text l label) (sym all));
    }

-- of the next place only two numbers matter
laid_to : (count : ℕ) (text : List ℕ) (noted : List LeafPlace) (start next next' : SkeletonPlace)
    (named : List ℕ × Tree) → next'.text ≡ next.text → next'.leaves ≡ next.leaves
    → IsLaid count text noted start next named → IsLaid count text noted start next' named
laid_to count text noted start next next' named same same_leaves laid = record {
  bounded = laid.bounded;
  order = omega (arith, laid.order, same);
  within = omega (arith, laid.within, same);
  named_order = laid.named_order;
  named_within = laid.named_within;
  after_first = laid.after_first;
  before_last = omega (arith, laid.before_last, same_leaves);
  noted_within = omega (arith, laid.noted_within, same_leaves);
  name = laid.name;
  uses = laid.uses ∙ ap (λ n. leaf_vertices (slice_range noted start.split n)
      ++ leaf_vertices (slice_range noted start.leaves start.split)) (sym same_leaves);
  placed = subst (λ n. ArePlaced start.text n (slice_range noted start.leaves next'.leaves)) (sym same)
      (subst (λ n. ArePlaced start.text next.text (slice_range noted start.leaves n)) (sym same_leaves) laid.placed);
  is = λ change.
      let label : ℕ → List ℕ = λ vertex. change (decimal vertex) in
      laid.is change ∙ (ap (λ n. woven text start.text n (slice_range noted start.leaves next.leaves) label) (sym same)
      ∙ ap (λ n. woven text start.text next'.text (slice_range noted start.leaves n) label) (sym same_leaves));
}

-- ---- the objects so far

-- of the objects up to `at` each is laid from its place to the next one, the last one up to the end
abbrev pub AreLaid : ℕ → List ℕ → List LeafPlace → List SkeletonPlace → List (List ℕ × Tree) → Type 0
AreLaid count line noted places pairs = (k : ℕ) → k < length places
    → IsLaid count line noted (get_or places k no_place)
    (get_or (places ++ place_after line noted ∷ []) (k + 1) no_place) (named_at pairs k)

pub laid_none : (count : ℕ) (line : List ℕ) (noted : List LeafPlace) (places : List SkeletonPlace)
    (pairs : List (List ℕ × Tree)) → places ≡ [] → AreLaid count line noted places pairs
laid_none count line noted places pairs none k within = absurd (omega (arith, within, ap length none))

pub laid_more : (count at : ℕ) (noted : List LeafPlace) (line : List ℕ) (start : SkeletonPlace)
    (noted' : List LeafPlace) (line' : List ℕ) (places places' : List SkeletonPlace) (pairs : List (List ℕ × Tree))
    → length places ≡ at → places' ≡ places ++ start ∷ [] → AreLaid count line noted places pairs
    → IsSketch count noted line start noted' line' (named_at pairs at)
    → AreLaid count line' noted' places' pairs
laid_more count at noted line start noted' line' places places' pairs long pushed before sketch =
    subst (λ l. AreLaid count line' noted' l pairs) (sym pushed) (λ k within. by_place k (k == at) refl within)
  where
    end : SkeletonPlace
    end = place_after line' noted'

    by_place : (k : ℕ) (b : Bool) → (k == at) ≡ b → k < length (places ++ start ∷ [])
        → IsLaid count line' noted' (get_or (places ++ start ∷ []) k no_place)
        (get_or ((places ++ start ∷ []) ++ end ∷ []) (k + 1) no_place) (named_at pairs k)
    by_place k true e within =
        let same : k ≡ at = eqb-true k at e in
        let here : get_or (places ++ start ∷ []) k no_place ≡ start =
        get_or_push places start no_place k (omega (arith, long, same)) in
        let next : get_or ((places ++ start ∷ []) ++ end ∷ []) (k + 1) no_place ≡ end =
        get_or_push (places ++ start ∷ []) end no_place (k + 1)
        (omega (arith, long, same, length-append places (start ∷ []))) in
        subst (λ p. IsLaid count line' noted' p (get_or ((places ++ start ∷ []) ++ end ∷ []) (k + 1) no_place)
        (named_at pairs k)) (sym here) (subst (λ p. IsLaid count line' noted' start p (named_at pairs k)) (sym next)
        (subst (λ n. IsLaid count line' noted' start end (named_at pairs n)) (sym same)
        (laid_last count noted line start noted' line' (named_at pairs at) sketch)))
    by_place k false e within =
        let apart = eqb-false k at e in
        let inside : k < length places = omega (arith, within, apart, long, length-append places (start ∷ [])) in
        let here : get_or (places ++ start ∷ []) k no_place ≡ get_or places k no_place =
        get_or_append_left places (start ∷ []) no_place k inside in
        let notes = sketch.object in
        let grown : IsLaid count line' noted' (get_or places k no_place)
        (get_or (places ++ place_after line noted ∷ []) (k + 1) no_place) (named_at pairs k) =
        subst (λ l. IsLaid count l noted' (get_or places k no_place)
        (get_or (places ++ place_after line noted ∷ []) (k + 1) no_place) (named_at pairs k)) (sym notes.written)
        (subst (λ l. IsLaid count (line ++ notes.text) l (get_or places k no_place)
        (get_or (places ++ place_after line noted ∷ []) (k + 1) no_place) (named_at pairs k)) (sym notes.more)
        (laid_on count line notes.text noted (notes.first ++ notes.second) (get_or places k no_place)
        (get_or (places ++ place_after line noted ∷ []) (k + 1) no_place) (named_at pairs k) (before k inside))) in
        let next = next_place k (k + 1 == at) refl inside in
        subst (λ p. IsLaid count line' noted' p (get_or ((places ++ start ∷ []) ++ end ∷ []) (k + 1) no_place)
        (named_at pairs k)) (sym here) (laid_to count line' noted' (get_or places k no_place)
        (get_or (places ++ place_after line noted ∷ []) (k + 1) no_place)
        (get_or ((places ++ start ∷ []) ++ end ∷ []) (k + 1) no_place) (named_at pairs k) next.0 next.1 grown)
      where
        next_place : (k : ℕ) (b : Bool) → (k + 1 == at) ≡ b → k < length places
            → ((get_or ((places ++ start ∷ []) ++ end ∷ []) (k + 1) no_place).text
            ≡ (get_or (places ++ place_after line noted ∷ []) (k + 1) no_place).text)
            × ((get_or ((places ++ start ∷ []) ++ end ∷ []) (k + 1) no_place).leaves
            ≡ (get_or (places ++ place_after line noted ∷ []) (k + 1) no_place).leaves)
        next_place k true e inside =
            let same : k + 1 ≡ at = eqb-true (k + 1) at e in
            let one : get_or ((places ++ start ∷ []) ++ end ∷ []) (k + 1) no_place ≡ start =
            get_or_append_left (places ++ start ∷ []) (end ∷ []) no_place (k + 1)
            (omega (arith, same, long, length-append places (start ∷ [])))
            ∙ get_or_push places start no_place (k + 1) (omega (arith, same, long)) in
            let other : get_or (places ++ place_after line noted ∷ []) (k + 1) no_place ≡ place_after line noted =
            get_or_push places (place_after line noted) no_place (k + 1) (omega (arith, same, long)) in (
              ap (λ (p : SkeletonPlace). p.text) one ∙ (sketch.text ∙ sym (ap (λ (p : SkeletonPlace). p.text) other)),
              ap (λ (p : SkeletonPlace). p.leaves) one
                  ∙ (sketch.first ∙ sym (ap (λ (p : SkeletonPlace). p.leaves) other)),
            )
        next_place k false e inside =
            let apart = eqb-false (k + 1) at e in
            let further : k + 1 < length places = omega (arith, inside, apart, long) in
            let one : get_or ((places ++ start ∷ []) ++ end ∷ []) (k + 1) no_place ≡ get_or places (k + 1) no_place =
            get_or_append_left (places ++ start ∷ []) (end ∷ []) no_place (k + 1)
            (omega (arith, further, length-append places (start ∷ [])))
            ∙ get_or_append_left places (start ∷ []) no_place (k + 1) further in
            let other : get_or (places ++ place_after line noted ∷ []) (k + 1) no_place
            ≡ get_or places (k + 1) no_place =
            get_or_append_left places (place_after line noted ∷ []) no_place (k + 1) further in
            let same = one ∙ sym other in
            (ap (λ (p : SkeletonPlace). p.text) same, ap (λ (p : SkeletonPlace). p.leaves) same)

-- all of them
pub laid_all : (count : ℕ) (line : List ℕ) (noted : List LeafPlace) (places : List SkeletonPlace)
    (skeletons : SkeletonTexts) (parts : List MemberPlace) (pairs : List (List ℕ × Tree))
    → AreParts 1 parts (member_trees pairs) → length places ≡ length parts → skeletons.text ≡ line
    → skeletons.leaves ≡ noted → skeletons.places ≡ places ++ place_after line noted ∷ []
    → All (λ (leaf : LeafPlace). leaf.vertex < count) noted → AreLaid count line noted places pairs
    → AreSkeletons count skeletons pairs
laid_all count line noted places skeletons parts pairs are long text_is leaves_are places_are within laid =
    let many = as_many_parts 1 parts pairs are in
    let last = length-append places (place_after line noted ∷ []) in record {
      long = omega (arith, ap length places_are, last, long, many);
      each = λ k inside. skeleton k (omega (arith, inside, long, many));
    }
  where
    skeleton : (k : ℕ) → k < length places → IsSkeleton count skeletons k (named_at pairs k)
    skeleton k inside =
        let here : place_at skeletons k ≡ get_or places k no_place =
        ap (λ l. get_or l k no_place) places_are
        ∙ get_or_append_left places (place_after line noted ∷ []) no_place k inside in
        let next : place_at skeletons (k + 1) ≡ get_or (places ++ place_after line noted ∷ []) (k + 1) no_place =
        ap (λ l. get_or l (k + 1) no_place) places_are in
        let is : IsLaid count skeletons.text skeletons.leaves (place_at skeletons k) (place_at skeletons (k + 1))
        (named_at pairs k) =
        subst (λ l. IsLaid count l skeletons.leaves (place_at skeletons k) (place_at skeletons (k + 1))
        (named_at pairs k)) (sym text_is)
        (subst (λ l. IsLaid count line l (place_at skeletons k) (place_at skeletons (k + 1)) (named_at pairs k))
        (sym leaves_are)
        (subst (λ p. IsLaid count line noted p (place_at skeletons (k + 1)) (named_at pairs k)) (sym here)
        (subst (λ p. IsLaid count line noted (get_or places k no_place) p (named_at pairs k)) (sym next)
        (laid k inside)))) in
        let few : All (λ (leaf : LeafPlace). leaf.vertex < count) skeletons.leaves =
        subst (All (λ (leaf : LeafPlace). leaf.vertex < count)) (sym leaves_are) within in
        let from = (place_at skeletons k).leaves in
        let to = (place_at skeletons (k + 1)).leaves in
        record {
          bounded = is.bounded;
          name = is.name;
          uses = is.uses;
          after_first = is.after_first;
          before_last = is.before_last;
          within = All-take (λ (leaf : LeafPlace). leaf.vertex < count) (to - from) (drop from skeletons.leaves)
              (All-drop (λ (leaf : LeafPlace). leaf.vertex < count) from skeletons.leaves few);
          is = is.is;
        }
