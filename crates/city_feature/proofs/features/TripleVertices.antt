-- Vertices that are read from triples of whole numbers, one after another.
use Rattle.std.proofs.Common.{◌≡◌, ◌∙◌, ◌++◌, ◌+◌, ◌-◌, ◌<◌, ◌≤◌, ℕ, List, [], ◌∷◌, length, take, drop, map, ap, sym, subst, arith, append_assoc, slice_range}
use Rattle.std.proofs.lemmas.List.{drop-drop, drop-take, length-append, take-take}
use Rattle.std.proofs.Math.Seq.{drop-append-add, take-append_seam}
use Rattle.city_json.specs.Bytes.{comma, open_bracket, close_bracket}
use Rattle.city_json.specs.Compact.{compact, compact_items, compact_more_items}
use Rattle.city_json.specs.Tree.{Tree, array, ItemTrees, no_items, item, item_trees}
use Rattle.city_json.specs.Triples.{AreTriples, IsTriple, IsTriplesText}
use Rattle.city_grid.specs.Axes.{Triple}
use Rattle.city_grid.specs.Vertex.{vertex_tree}
use Rattle.city_feature.specs.Feature.{vertices_tree}
use Rattle.city_json.proofs.Triples.{slice_length}

abbrev trees : List Triple → ItemTrees
trees ps = item_trees (map vertex_tree ps)

-- one or more triples stand from here on, and the bracket that closes the array
pub record Remain (text : List ℕ) (at end : ℕ) : Type 0 where
  pub first : Tree
  pub others : ItemTrees
  pub triple : IsTriple first
  pub triples : AreTriples others
  pub written : slice_range text at end ≡ compact_items (item first others) ++ close_bracket ∷ []

-- with one or more vertices from here on, the text is that of those that were read and these
abbrev pub GoesTo : List ℕ → ℕ → ℕ → ℕ → List Triple → Type 0
GoesTo text from end at read =
    (p : Triple) (ps : List Triple)
    → slice_range text at end ≡ compact_items (trees (p ∷ ps)) ++ close_bracket ∷ []
    → slice_range text from end ≡ compact (vertices_tree (read ++ p ∷ ps))

-- what stands after the front of a slice, and the front
slice_after : (text front rest : List ℕ) (at end : ℕ) → end ≤ length text → at + length front ≤ end
    → slice_range text at end ≡ front ++ rest → slice_range text (at + length front) end ≡ rest
slice_after text front rest at end within more is =
    let n = length front in
    let k = end - (at + n) in
    let count : end - at ≡ n + k = omega arith in
    ap (take k) (sym (drop-drop n at text)) ∙ sym (drop-take n k (drop at text))
    ∙ ap (λ j. drop n (take j (drop at text))) (sym count) ∙ ap (drop n) is
    ∙ ap (λ j. drop j (front ++ rest)) (let e : n ≡ n + 0 = omega arith in e) ∙ drop-append-add front rest 0

slice_front : (text front rest : List ℕ) (at end : ℕ) → end ≤ length text → at + length front ≤ end
    → slice_range text at end ≡ front ++ rest → slice_range text at (at + length front) ≡ front
slice_front text front rest at end within more is =
    let n = length front in
    let count : (at + n) - at ≡ n = omega arith in
    ap (λ j. take j (drop at text)) count ∙ sym (take-take n (end - at) (drop at text) (omega arith))
    ∙ ap (take n) is ∙ take-append_seam front rest

pub all_remain : (text : List ℕ) (from end : ℕ) → end ≤ length text → from + 4 ≤ end → IsTriplesText text from end
    → Remain text (from + 1) end × GoesTo text from end (from + 1) []
all_remain text from end within long t = by t.items t.triples t.written
  where
    by : (items : ItemTrees) → AreTriples items → slice_range text from end ≡ compact (array items)
        → Remain text (from + 1) end × GoesTo text from end (from + 1) []
    by no_items triples written = absurd (omega (arith, slice_length text from end within, ap length written))
    by (item first others) triples written =
        let rest = compact_items (item first others) ++ close_bracket ∷ [] in
        let after : slice_range text (from + 1) end ≡ rest =
        slice_after text (open_bracket ∷ []) rest from end within (omega arith) written in (
          record { first = first; others = others; triple = triples.0; triples = triples.1; written = after },
          λ p ps is. written ∙ ap (λ l. open_bracket ∷ l) (sym after ∙ is),
        )

module _ (text : List ℕ) (at end : ℕ) (within : end ≤ length text) (r : Remain text at end) where
  abbrev pub next : ℕ
  next = at + length (compact r.first)

  abbrev more : List ℕ
  more = compact_more_items r.others ++ close_bracket ∷ []

  there : slice_range text at end ≡ compact r.first ++ more
  there = r.written ∙ append_assoc (compact r.first) (compact_more_items r.others) (close_bracket ∷ [])

  pub long : end - at ≡ length (compact r.first) + (length (compact_more_items r.others) + 1)
  long =
      let whole : end - at ≡ length (compact r.first ++ more) = sym (slice_length text at end within) ∙ ap length there in
      omega (arith, whole, length-append (compact r.first) more, length-append (compact_more_items r.others) (close_bracket ∷ []))

  pub next_within : next ≤ length text
  next_within = omega (arith, long)

  pub first_here : slice_range text at next ≡ compact r.first
  first_here = slice_front text (compact r.first) more at end within (omega (arith, long)) there

  module _ (from : ℕ) (read all : List Triple) (v : Triple) (pushed : all ≡ read ++ v ∷ [])
      (is : slice_range text at next ≡ compact (vertex_tree v)) (on : GoesTo text from end at read) where
    same : compact r.first ≡ compact (vertex_tree v)
    same = sym first_here ∙ is

    pub read_last : end ≤ next + 1 → slice_range text from end ≡ compact (vertices_tree all)
    read_last past = by r.others r.written long
      where
        by : (others : ItemTrees) → slice_range text at end ≡ compact_items (item r.first others) ++ close_bracket ∷ []
            → end - at ≡ length (compact r.first) + (length (compact_more_items others) + 1)
            → slice_range text from end ≡ compact (vertices_tree all)
        by no_items written _ = on v [] (written ∙ ap (λ l. (l ++ []) ++ close_bracket ∷ []) same)
            ∙ ap (λ qs. compact (vertices_tree qs)) (sym pushed)
        by (item w o) written count = absurd (omega (arith, count, past))

    pub read_next : next + 1 < end → Remain text (next + 1) end × GoesTo text from end (next + 1) all
    read_next further = by r.others r.triples there long
      where
        by : (others : ItemTrees) → AreTriples others
            → slice_range text at end ≡ compact r.first ++ (compact_more_items others ++ close_bracket ∷ [])
            → end - at ≡ length (compact r.first) + (length (compact_more_items others) + 1)
            → Remain text (next + 1) end × GoesTo text from end (next + 1) all
        by no_items triples written count = absurd (omega (arith, count, further))
        by (item w o) triples written count =
            let tail = compact_items (item w o) ++ close_bracket ∷ [] in
            let front = compact r.first ++ comma ∷ [] in
            let parts : slice_range text at end ≡ front ++ tail =
            written ∙ sym (append_assoc (compact r.first) (comma ∷ []) tail) in
            let size : length front ≡ length (compact r.first) + 1 = length-append (compact r.first) (comma ∷ []) in
            let place : at + length front ≡ next + 1 = omega (arith, size) in
            let after : slice_range text (next + 1) end ≡ tail =
            ap (λ k. slice_range text k end) (sym place)
            ∙ slice_after text front tail at end within (omega (arith, place, further)) parts in (
              record { first = w; others = o; triple = triples.0; triples = triples.1; written = after },
              λ p ps rest.
                  let back = compact_items (trees (p ∷ ps)) ++ close_bracket ∷ [] in
                  let one : slice_range text at end ≡ front ++ back = parts ∙ ap (λ l. front ++ l) (sym after ∙ rest) in
                  let two : front ++ back ≡ compact (vertex_tree v) ++ (comma ∷ back) =
                  append_assoc (compact r.first) (comma ∷ []) back ∙ ap (λ l. l ++ (comma ∷ back)) same in
                  let three : compact (vertex_tree v) ++ (comma ∷ back)
                  ≡ compact_items (trees (v ∷ p ∷ ps)) ++ close_bracket ∷ [] =
                  sym (append_assoc (compact (vertex_tree v)) (comma ∷ compact_items (trees (p ∷ ps))) (close_bracket ∷ []))
                  in
                  on v (p ∷ ps) (one ∙ two ∙ three)
                  ∙ ap (λ qs. compact (vertices_tree qs)) (sym (append_assoc read (v ∷ []) (p ∷ ps))
                  ∙ ap (λ qs. qs ++ p ∷ ps) (sym pushed)),
            )

-- the same by what was found there
module _ (text : List ℕ) (from at end place : ℕ) (v : Triple) (read all : List Triple) (within : end ≤ length text)
    (pushed : all ≡ read ++ v ∷ [])
    (found : (e : ℕ) (value : Tree) → e ≤ length text → IsTriple value → slice_range text at e ≡ compact value
    → (place ≡ e) × (slice_range text at e ≡ compact (vertex_tree v)))
    (r : Remain text at end) (on : GoesTo text from end at read) where
  here : (place ≡ next text at end within r)
      × (slice_range text at (next text at end within r) ≡ compact (vertex_tree v))
  here = found (next text at end within r) r.first (next_within text at end within r) r.triple
      (first_here text at end within r)

  pub found_last : end ≤ place + 1 → slice_range text from end ≡ compact (vertices_tree all)
  found_last past = read_last text at end within r from read all v pushed here.1 on (omega (arith, past, here.0))

  pub found_next : place + 1 < end → Remain text (place + 1) end × GoesTo text from end (place + 1) all
  found_next further = subst (λ k. Remain text (k + 1) end × GoesTo text from end (k + 1) all) (sym here.0)
      (read_next text at end within r from read all v pushed here.1 on (omega (arith, further, here.0)))
