-- Triples of whole numbers in their compact text are vertices, and closing brackets tell where they begin.
use Rattle.std.proofs.Common.{◌≡◌, ◌⊎◌, ◌≢◌, ◌∙◌, ◌++◌, ◌<◌, ◌≤◌, ◌+◌, ◌-◌, ◌/◌, ◌^◌, ℕ, zero, suc, false, not, cond, List, [], ◌∷◌, All, map, length, take, drop, get_or, slice_range, slice_index, refl, sym, ap, subst, arith, append_assoc, append-nil, length-append, inl, inr}
use Rattle.std.proofs.lemmas.Bool.{cases_Bool, cond-true, cond-false}
use Rattle.std.proofs.lemmas.Bool.Decides.{nat_tests}
use Rattle.std.proofs.lemmas.List.{drop-drop, drop-take}
use Rattle.std.proofs.lemmas.List.Edits.{between_none}
use Rattle.std.proofs.lemmas.Simd.{trailing_mask_l}
use Rattle.std.proofs.lemmas.Str.Parse.{digit_from_value}
use Rattle.std.proofs.Math.Seq.{drop-append-add, take-append_seam}
use Rattle.std.specs.Int.Count.{count_trailing_zeros}
use Rattle.std.specs.List.{AllByRecursion, prefix_len}
use Rattle.std.specs.Simd.Lanes.{mask_l}
use Rattle.std.specs.Str.Parse.{AllDigits}
use Rattle.city_json.proofs.PartsOfNumbers.{digits_of_whole}
use Rattle.city_json.proofs.Places.{slice_more}
use Rattle.city_json.proofs.WholeArrays.{marks_after}
use Rattle.city_json.specs.Bytes.{comma, open_bracket, close_bracket, digit_zero, minus}
use Rattle.city_json.specs.Compact.{compact, compact_items, compact_more_items}
use Rattle.city_json.specs.Tree.{Tree, ItemTrees, array, item, no_items}
use Rattle.city_json.specs.Triples.{AreTriples, IsShortNumeral, IsTriple}
use Rattle.city_feature.proofs.TriplesAreVertices as triples
use Rattle.city_grid.specs.Axes.{IsInRange, Triple}
use Rattle.city_grid.specs.Vertex.{vertex_tree}
use Rattle.city_feature.specs.Feature.{vertices_tree}
use Rattle.city_families.specs.Chosen.{point_at}
use Rattle.cut_on_text.specs.TripleStarts.{IsTriplesArray, is_close_bracket, starts_after_closes}
use Rattle.cut_on_text.specs.VertexTexts.{StandAt}
use Rattle.cut_on_text.proofs.TextPoints.{trees_of}
use Rattle.city_json.proofs.Triples.{slice_length}

-- ---- the first closing bracket of a block
abbrev open_len : List ℕ → ℕ
open_len bs = prefix_len (λ b. not (is_close_bracket b)) bs

pub record IsFirst (at : ℕ) (bs : List ℕ) (n : ℕ) : Type 0 where
  pub within : n < length bs
  pub starts : starts_after_closes at bs ≡ (at + n + 2) ∷ starts_after_closes (at + n + 1) (drop (n + 1) bs)

first_close : (at : ℕ) (bs : List ℕ) → 0 < mask_l (map is_close_bracket bs) → IsFirst at bs (open_len bs)
first_close at [] some = absurd (omega arith)
first_close at (b ∷ bs) some = elim (cases_Bool (is_close_bracket b)) [
  | inl closing ↦
      let none : open_len (b ∷ bs) ≡ 0 = cond-false (not (is_close_bracket b)) _ _ (ap not closing) in
      let same : at ≡ at + 0 = omega arith in
      subst (IsFirst at (b ∷ bs)) (sym none) (record {
        within = omega arith;
        starts = cond-true (is_close_bracket b) _ _ closing ∙ ap (λ k. (k + 2) ∷ starts_after_closes (k + 1) bs) same;
      })
  | inr clear ↦
      let more : open_len (b ∷ bs) ≡ 1 + open_len bs = cond-true (not (is_close_bracket b)) _ _ (ap not clear) in
      let none : ◌≡◌ {A = ℕ} (cond (is_close_bracket b) 1 0) 0 = cond-false (is_close_bracket b) 1 0 clear in
      let rest = first_close (at + 1) bs (omega (arith, none, some)) in
      let n = open_len bs in
      let place : at + 1 + n ≡ at + (1 + n) = omega arith in
      let next : suc (n + 1) ≡ 1 + n + 1 = omega arith in
      subst (IsFirst at (b ∷ bs)) (sym more) (record {
        within = omega (arith, rest.within);
        starts = cond-false (is_close_bracket b) _ _ clear ∙ rest.starts
            ∙ ap (λ k. (k + 2) ∷ starts_after_closes (k + 1) (drop (n + 1) bs)) place
            ∙ ap (λ m. (at + (1 + n) + 2) ∷ starts_after_closes (at + (1 + n) + 1) (drop m (b ∷ bs))) next;
      })
]

none_close : (at : ℕ) (bs : List ℕ) → mask_l (map is_close_bracket bs) ≡ 0 → starts_after_closes at bs ≡ []
none_close at [] none = refl
none_close at (b ∷ bs) none = elim (cases_Bool (is_close_bracket b)) [
  | inl closing ↦ absurd (let one : ◌≡◌ {A = ℕ} (cond (is_close_bracket b) 1 0) 1 = cond-true (is_close_bracket b) 1 0 closing in
      omega (arith, one, none))
  | inr clear ↦
      let down : ◌≡◌ {A = ℕ} (cond (is_close_bracket b) 1 0) 0 = cond-false (is_close_bracket b) 1 0 clear in
      cond-false (is_close_bracket b) _ _ clear ∙ none_close (at + 1) bs (omega (arith, down, none))
]

-- the rest of a block is gone through from one closing bracket to the next
pub record IsPlace (text : List ℕ) (end marks place : ℕ) (starts all : List ℕ) : Type 0 where
  pub within : place ≤ end
  pub bits : marks ≡ mask_l (map is_close_bracket (slice_range text place end))
  pub goes_on : all ≡ starts ++ starts_after_closes place (slice_range text place end)

module _ (text : List ℕ) (end marks place : ℕ) (starts all : List ℕ) (p : IsPlace text end marks place starts all) where
  pub place_last : marks ≡ 0 → starts ≡ all
  place_last none = sym (p.goes_on
      ∙ ap (λ l. starts ++ l) (none_close place (slice_range text place end) (sym p.bits ∙ none)) ∙ append-nil starts)

  pub place_next : (len : ℕ) (starts' : List ℕ) → end ≤ length text → end ≤ place + 64 → marks ≢ 0
      → len ≡ count_trailing_zeros 64 marks → starts' ≡ starts ++ (place + len + 2) ∷ []
      → IsPlace text end (marks / 2 ^ len / 2) (place + (len + 1)) starts' all
  place_next len starts' inside near some is pushed =
      let bs = slice_range text place end in
      let long : length bs ≡ end - place = slice_length text place end inside in
      let more : 0 < mask_l (map is_close_bracket bs) = omega (arith, some, p.bits) in
      let first : len ≡ open_len bs = is ∙ ap (count_trailing_zeros 64) p.bits
      ∙ trailing_mask_l is_close_bracket 64 bs (omega (arith, long, near)) more in
      let found = subst (IsFirst place bs) (sym first) (first_close place bs more) in
      let less : place + len < end = omega (arith, found.within, long) in
      let count : end - place ≡ (len + 1) + (end - (place + len + 1)) = omega (arith, less) in
      let next : place + (len + 1) ≡ place + len + 1 = omega arith in
      let beyond : drop (len + 1) bs ≡ slice_range text (place + len + 1) end =
      ap (λ k. drop (len + 1) (take k (drop place text))) count
      ∙ drop-take (len + 1) (end - (place + len + 1)) (drop place text)
      ∙ ap (take (end - (place + len + 1))) (drop-drop (len + 1) place text ∙ ap (λ k. drop k text) next) in
      subst (λ k. IsPlace text end (marks / 2 ^ len / 2) k starts' all) (sym next) (record {
        within = omega (arith, less);
        bits = marks_after is_close_bracket len bs marks p.bits ∙ ap (λ l. mask_l (map is_close_bracket l)) beyond;
        goes_on = p.goes_on ∙ ap (λ l. starts ++ l) found.starts
            ∙ sym (append_assoc starts ((place + len + 2) ∷ []) (starts_after_closes (place + len + 1) (drop (len + 1) bs)))
            ∙ ap (λ l. l ++ starts_after_closes (place + len + 1) (drop (len + 1) bs)) (sym pushed)
            ∙ ap (λ l. starts' ++ starts_after_closes (place + len + 1) l) beyond;
      })

-- ---- one part of the text after another
after_append : (at : ℕ) (xs ys : List ℕ)
    → starts_after_closes at (xs ++ ys) ≡ starts_after_closes at xs ++ starts_after_closes (at + length xs) ys
after_append at [] ys = let same : at ≡ at + 0 = omega arith in ap (λ k. starts_after_closes k ys) same
after_append at (x ∷ xs) ys =
    let place : at + 1 + length xs ≡ at + suc (length xs) = omega arith in
    let rest : starts_after_closes (at + 1) (xs ++ ys) ≡ starts_after_closes (at + 1) xs ++ starts_after_closes (at + suc (length xs)) ys =
    after_append (at + 1) xs ys ∙ ap (λ k. starts_after_closes (at + 1) xs ++ starts_after_closes k ys) place in
    elim (cases_Bool (is_close_bracket x)) [
      | inl closing ↦ cond-true (is_close_bracket x) _ _ closing ∙ ap (λ l. (at + 2) ∷ l) rest
          ∙ ap (λ l. l ++ starts_after_closes (at + suc (length xs)) ys) (sym (cond-true (is_close_bracket x) _ _ closing))
      | inr clear ↦ cond-false (is_close_bracket x) _ _ clear ∙ rest
          ∙ ap (λ l. l ++ starts_after_closes (at + suc (length xs)) ys) (sym (cond-false (is_close_bracket x) _ _ clear))
    ]

-- with the starts that the rest of the text tells of, these are all
abbrev pub GoesOn : List ℕ → ℕ → ℕ → List ℕ → Type 0
GoesOn text last at starts = 1 ∷ starts_after_closes 0 (slice_range text 0 last) ≡ starts ++ starts_after_closes at (slice_range text at last)

pub goes_on_after : (text : List ℕ) (last at next : ℕ) (starts starts' : List ℕ) → at ≤ next → next ≤ last
    → last ≤ length text → GoesOn text last at starts
    → starts' ≡ starts ++ starts_after_closes at (slice_range text at next) → GoesOn text last next starts'
goes_on_after text last at next starts starts' onward within inside on pushed =
    let one = slice_range text at next in
    let long : length one ≡ next - at = slice_length text at next (omega (arith, within, inside)) in
    let place : at + length one ≡ next = omega (arith, long, onward) in
    on ∙ ap (λ l. starts ++ starts_after_closes at l) (slice_more text at next last onward within)
    ∙ ap (λ l. starts ++ l) (after_append at one (slice_range text next last)
    ∙ ap (λ k. starts_after_closes at one ++ starts_after_closes k (slice_range text next last)) place)
    ∙ sym (append_assoc starts (starts_after_closes at one) (starts_after_closes next (slice_range text next last)))
    ∙ ap (λ l. l ++ starts_after_closes next (slice_range text next last)) (sym pushed)

pub goes_on_to : (text : List ℕ) (last at : ℕ) (starts : List ℕ) → at ≤ last → last ≤ at → GoesOn text last at starts
    → starts ≡ 1 ∷ starts_after_closes 0 (slice_range text 0 last)
goes_on_to text last at starts before past on =
    let same : last ≡ at = omega (arith, before, past) in
    sym (on ∙ ap (λ k. starts ++ starts_after_closes at (slice_range text at k)) same
    ∙ ap (λ l. starts ++ starts_after_closes at l) (between_none text at) ∙ append-nil starts)

-- ---- the brackets of triples
abbrev IsOpen : List ℕ → Type 0
IsOpen = AllByRecursion (λ c. is_close_bracket c ≡ false)

open_digit : (c : ℕ) → 48 ≤ c → c ≤ 57 → is_close_bracket c ≡ false
open_digit c low high = grind (arith, nat_tests)

open_digits : (ds : List ℕ) → AllDigits 10 ds → IsOpen ds
open_digits [] all = tt
open_digits (d ∷ ds) all =
    let range = digit_from_value d all.0 in
    (open_digit d range.0 range.1, open_digits ds all.1)

open_append : (xs ys : List ℕ) → IsOpen xs → IsOpen ys → IsOpen (xs ++ ys)
open_append [] ys one other = other
open_append (x ∷ xs) ys one other = (one.0, open_append xs ys one.1 other)

open_numeral : (text : List ℕ) → IsShortNumeral text → IsOpen text
open_numeral text n = subst IsOpen (sym n.splits)
    (open_append n.sign n.whole (sign n.is_sign) (open_digits n.whole (digits_of_whole n.whole n.is_whole)))
  where
    sign : (n.sign ≡ []) ⊎ ((n.sign ≡ minus ∷ []) × (get_or n.whole 0 0 ≢ digit_zero)) → IsOpen n.sign
    sign (inl none) = subst IsOpen (sym none) tt
    sign (inr some) = subst IsOpen (sym some.0) (refl, tt)

after_open : (at : ℕ) (run rest : List ℕ) → IsOpen run → starts_after_closes at (run ++ rest) ≡ starts_after_closes (at + length run) rest
after_open at [] rest all = let same : at ≡ at + 0 = omega arith in ap (λ k. starts_after_closes k rest) same
after_open at (b ∷ run) rest all =
    let place : at + 1 + length run ≡ at + suc (length run) = omega arith in
    cond-false (is_close_bracket b) _ _ all.0 ∙ after_open (at + 1) run rest all.1 ∙ ap (λ k. starts_after_closes k rest) place

regroup : (x y z : List ℕ) → (x ++ (comma ∷ (y ++ (comma ∷ (z ++ []))))) ++ close_bracket ∷ []
    ≡ (x ++ (comma ∷ (y ++ (comma ∷ z)))) ++ close_bracket ∷ []
regroup x y z = simp (append_assoc, append-nil)

abbrev StartsAfter : ℕ → List ℕ → List ℕ → Type 0
StartsAfter at text rest = starts_after_closes at (text ++ rest) ≡ (at + length text + 1) ∷ starts_after_closes (at + length text) rest

after_closed : (at : ℕ) (run rest : List ℕ) → IsOpen run → StartsAfter at (run ++ close_bracket ∷ []) rest
after_closed at run rest all =
    let long : length (run ++ close_bracket ∷ []) ≡ length run + 1 = length-append run (close_bracket ∷ []) in
    let first : at + length run + 2 ≡ at + length (run ++ close_bracket ∷ []) + 1 = omega (arith, long) in
    let place : at + length run + 1 ≡ at + length (run ++ close_bracket ∷ []) = omega (arith, long) in
    ap (starts_after_closes at) (append_assoc run (close_bracket ∷ []) rest)
    ∙ after_open at run (close_bracket ∷ rest) all
    ∙ ap (λ k. k ∷ starts_after_closes (at + length run + 1) rest) first
    ∙ ap (λ k. (at + length (run ++ close_bracket ∷ []) + 1) ∷ starts_after_closes k rest) place

after_triple : (at : ℕ) (value : Tree) (rest : List ℕ) → IsTriple value → StartsAfter at (compact value) rest
after_triple at value rest t =
    let run = open_bracket ∷ (t.x ++ (comma ∷ (t.y ++ (comma ∷ t.z)))) in
    let same : run ++ close_bracket ∷ [] ≡ compact value =
    ap (λ l. open_bracket ∷ l) (sym (regroup t.x t.y t.z)) ∙ ap compact (sym t.is) in
    let open_z : IsOpen (comma ∷ t.z) = (refl, open_numeral t.z t.short_z) in
    let open_y : IsOpen (comma ∷ (t.y ++ (comma ∷ t.z))) =
    (refl, open_append t.y (comma ∷ t.z) (open_numeral t.y t.short_y) open_z) in
    let all : IsOpen run = (refl, open_append t.x (comma ∷ (t.y ++ (comma ∷ t.z))) (open_numeral t.x t.short_x) open_y) in
    subst (λ l. StartsAfter at l rest) same (after_closed at run rest all)

-- where the vertices after a comma or the first bracket at `at` are followed by others
abbrev starts_after : ℕ → ItemTrees → List ℕ
starts_after at no_items = []
starts_after at (item value others) =
    (at + 1 + length (compact value) + 1) ∷ starts_after (at + 1 + length (compact value)) others

more_after : (at : ℕ) (items : ItemTrees) → AreTriples items
    → starts_after_closes at (compact_more_items items) ≡ starts_after at items
more_after at no_items are = refl
more_after at (item value others) are =
    after_triple (at + 1) value (compact_more_items others) are.0
    ∙ ap (λ l. (at + 1 + length (compact value) + 1) ∷ l) (more_after (at + 1 + length (compact value)) others are.1)

all_after : (items : ItemTrees) → AreTriples items
    → starts_after_closes 0 (open_bracket ∷ compact_items items) ≡ starts_after 0 items
all_after no_items are = refl
all_after (item value others) are =
    after_triple 1 value (compact_more_items others) are.0
    ∙ ap (λ l. (0 + 1 + length (compact value) + 1) ∷ l) (more_after (0 + 1 + length (compact value)) others are.1)

-- ---- where they stand
stand_cons : (text starts : List ℕ) (s n : ℕ) (p : Triple) (ps : List Triple)
    → slice_range text s (n + 1 - 1) ≡ compact (vertex_tree p) → StandAt text ((n + 1) ∷ starts) ps
    → StandAt text (s ∷ (n + 1) ∷ starts) (p ∷ ps)
stand_cons text starts s n p ps here rest = record {
  long = omega (arith, rest.long);
  each = each;
}
  where
    each : (k : ℕ) → k < length (p ∷ ps)
        → slice_range text (slice_index (s ∷ (n + 1) ∷ starts) k) (slice_index (s ∷ (n + 1) ∷ starts) (k + 1) - 1)
        ≡ compact (vertex_tree (point_at (p ∷ ps) k))
    each zero below = here
    each (suc k) below =
        let next : suc k + 1 ≡ suc (k + 1) = omega arith in
        ap (λ m. slice_range text (slice_index ((n + 1) ∷ starts) k) (slice_index (s ∷ (n + 1) ∷ starts) m - 1)) next
        ∙ rest.each k (omega (arith, below))

abbrev Lies : List ℕ → List ℕ → ℕ → List Triple → Type 0
Lies text tail at [] = Unit {0}
Lies text tail at (p ∷ ps) = drop (at + 1) text ≡ compact_items (trees_of (p ∷ ps)) ++ tail

stand_from : (text tail : List ℕ) (at : ℕ) (ps : List Triple) → Lies text tail at ps
    → StandAt text ((at + 1) ∷ starts_after at (trees_of ps)) ps
stand_from text tail at [] lies = record { long = refl; each = λ k below. absurd (omega (arith, below)) }
stand_from text tail at (p ∷ ps) lies =
    stand_cons text (starts_after (at + 1 + length (compact (vertex_tree p))) (trees_of ps)) (at + 1)
    (at + 1 + length (compact (vertex_tree p))) p ps here
    (stand_from text tail (at + 1 + length (compact (vertex_tree p))) ps (later ps lies))
  where
    there : (qs : List Triple) → drop (at + 1) text ≡ compact_items (trees_of (p ∷ qs)) ++ tail
        → drop (at + 1) text ≡ compact (vertex_tree p) ++ (compact_more_items (trees_of qs) ++ tail)
    there qs is = is ∙ append_assoc (compact (vertex_tree p)) (compact_more_items (trees_of qs)) tail

    here : slice_range text (at + 1) (at + 1 + length (compact (vertex_tree p)) + 1 - 1) ≡ compact (vertex_tree p)
    here =
        let count : (at + 1 + length (compact (vertex_tree p)) + 1 - 1) - (at + 1) ≡ length (compact (vertex_tree p)) = omega arith in
        ap (λ n. take n (drop (at + 1) text)) count ∙ ap (take (length (compact (vertex_tree p)))) (there ps lies)
        ∙ take-append_seam (compact (vertex_tree p)) (compact_more_items (trees_of ps) ++ tail)

    later : (qs : List Triple) → drop (at + 1) text ≡ compact_items (trees_of (p ∷ qs)) ++ tail
        → Lies text tail (at + 1 + length (compact (vertex_tree p))) qs
    later [] is = tt
    later (q ∷ qs) is =
        let place : at + 1 + (length (compact (vertex_tree p)) + 1) ≡ at + 1 + length (compact (vertex_tree p)) + 1 = omega arith in
        ap (λ k. drop k text) (sym place) ∙ sym (drop-drop (length (compact (vertex_tree p)) + 1) (at + 1) text)
        ∙ ap (drop (length (compact (vertex_tree p)) + 1)) (there (q ∷ qs) is)
        ∙ drop-append-add (compact (vertex_tree p)) (compact_more_items (trees_of (q ∷ qs)) ++ tail) 1

pub stand_there : (text starts : List ℕ) (last : ℕ) → IsTriplesArray text → last ≡ length text - 1
    → starts ≡ 1 ∷ starts_after_closes 0 (slice_range text 0 last)
    → (points : List Triple) × (text ≡ compact (vertices_tree points)) × All IsInRange points × StandAt text starts points
stand_there text starts last (items, are, written) is_last is =
    let printed = triples.vertices items are in
    let ps = printed.vertices in
    let same : text ≡ compact (array (trees_of ps)) = written ∙ ap (λ o. compact (array o)) printed.are in
    let triples : AreTriples (trees_of ps) = subst AreTriples printed.are are in
    let inner = open_bracket ∷ compact_items (trees_of ps) in
    let long : length text ≡ length inner + 1 = ap length same ∙ length-append inner (close_bracket ∷ []) in
    let count : last - 0 ≡ length inner = omega (arith, long, is_last) in
    let front : slice_range text 0 last ≡ inner = ap (λ n. take n (drop 0 text)) count ∙ ap (take (length inner)) same
    ∙ take-append_seam inner (close_bracket ∷ []) in
    let all : 1 ∷ starts_after 0 (trees_of ps) ≡ starts = ap (λ l. 1 ∷ l) (sym (ap (starts_after_closes 0) front
    ∙ all_after (trees_of ps) triples)) ∙ sym is in (
      ps,
      same,
      printed.range,
      subst (λ l. StandAt text l ps) all (stand_from text (close_bracket ∷ []) 0 ps (lies ps same)),
    )
  where
    lies : (ps : List Triple) → text ≡ compact (array (trees_of ps)) → Lies text (close_bracket ∷ []) 0 ps
    lies [] same = tt
    lies (p ∷ ps) same = ap (drop 1) same
