-- The compact text of vertices, vertex by vertex.
use Rattle.std.proofs.Common.{◌≡◌, ◌∙◌, ◌++◌, ◌+◌, ◌-◌, ◌<◌, ◌≤◌, ℕ, List, [], ◌∷◌, length, take, drop, get_or, slice_range, map, ap, sym, subst, refl, arith, append_assoc, append-nil}
use Rattle.std.proofs.lemmas.List.{drop_all, take_all, take_more}
use Rattle.std.proofs.lemmas.List.Folds.{drop_split}
use Rattle.city_json.proofs.Places.{drop_one}
use Rattle.city_json.specs.Bytes.{comma, open_bracket, close_bracket}
use Rattle.city_json.specs.Compact.{compact, compact_items, compact_more_items}
use Rattle.city_json.specs.Tree.{Tree, ItemTrees, no_items, item, item_trees}
use Rattle.city_json.specs.Writable.{AreWritableItems}
use Rattle.city_grid.proofs.VertexLaws.{three_are_writable}
use Rattle.city_grid.specs.Axes.{Triple, IsInRange, three}
use Rattle.city_grid.specs.Vertex.{SpellsVertex, vertex_tree}
use Rattle.city_feature.specs.Feature.{AreVertices, vertices_tree}
use Rattle.city_feature.specs.LineTexts.{SpellsVertices}

abbrev trees : List Triple → ItemTrees
trees ps = item_trees (map vertex_tree ps)

-- with one or more vertices from here on, the text is that of those that were read and these
abbrev pub GoesOn : List ℕ → ℕ → List Triple → Type 0
GoesOn text at read =
    (p : Triple) (ps : List Triple) → drop at text ≡ compact_items (trees (p ∷ ps)) ++ close_bracket ∷ []
    → text ≡ compact (vertices_tree (read ++ p ∷ ps))

-- the same of vertices in whatever spelling
abbrev pub SpellsOn : List ℕ → ℕ → List Triple → Type 0
SpellsOn text at read =
    (first : Tree) (others : ItemTrees) (ps : List Triple)
    → drop at text ≡ compact_items (item first others) ++ close_bracket ∷ [] → AreWritableItems (item first others)
    → AreVertices (item first others) ps → SpellsVertices text (read ++ ps)

from_here : (text here : List ℕ) (at end mark : ℕ) → at < end → end < length text → slice_range text at end ≡ here
    → get_or text end 0 ≡ mark → drop at text ≡ here ++ mark ∷ drop (end + 1) text
from_here text here at end mark onward within written marked =
    drop_split text at end (omega arith) ∙ ap (λ l. l ++ drop end text) written
    ∙ ap (λ l. here ++ l) (drop_one text end mark within marked)

pub no_vertices : (text : List ℕ) (ps : List Triple) → text ≡ open_bracket ∷ close_bracket ∷ [] → ps ≡ []
    → SpellsVertices text ps
no_vertices text ps same none = subst (SpellsVertices text) (sym none) (no_items, same, tt, tt)

pub goes_from : (text : List ℕ) → 0 < length text → get_or text 0 0 ≡ open_bracket → GoesOn text 1 []
goes_from text some opened = λ p ps rest. drop_one text 0 open_bracket some opened ∙ ap (λ l. open_bracket ∷ l) rest

pub spells_from : (text : List ℕ) → 0 < length text → get_or text 0 0 ≡ open_bracket → SpellsOn text 1 []
spells_from text some opened = λ first others ps rest writable vertices.
    (item first others, drop_one text 0 open_bracket some opened ∙ ap (λ l. open_bracket ∷ l) rest, writable, vertices)

module _ (text : List ℕ) (at end : ℕ) (v : Triple) (onward : at < end) (within : end < length text)
    (spelled : SpellsVertex (slice_range text at end) v) (range : IsInRange v) where
  pub spells_next : (read next : List Triple) → get_or text end 0 ≡ comma → next ≡ read ++ v ∷ []
      → SpellsOn text at read → SpellsOn text (end + 1) next
  spells_next read next marked grown on = λ first others ps rest writable vertices.
      let (texts, written, each) = spelled in
      let here = compact (three texts) in
      let back : drop at text ≡ compact_items (item (three texts) (item first others)) ++ close_bracket ∷ [] =
      from_here text here at end comma onward within written marked ∙ ap (λ l. here ++ comma ∷ l) rest
      ∙ sym (append_assoc here (comma ∷ compact_items (item first others)) (close_bracket ∷ [])) in
      subst (SpellsVertices text) (sym (append_assoc read (v ∷ []) ps) ∙ ap (λ qs. qs ++ ps) (sym grown))
      (on (three texts) (item first others) (v ∷ ps) back (
        three_are_writable texts v each,
        writable,
      ) ((texts, refl, each), range, vertices))

  pub spells_last : (read all : List Triple) → get_or text end 0 ≡ close_bracket → length text ≤ end + 1
      → all ≡ read ++ v ∷ [] → SpellsOn text at read → SpellsVertices text all
  spells_last read all marked past grown on =
      let (texts, written, each) = spelled in
      let here = compact (three texts) in
      let back : drop at text ≡ compact_items (item (three texts) no_items) ++ close_bracket ∷ [] =
      from_here text here at end close_bracket onward within written marked
      ∙ ap (λ l. here ++ close_bracket ∷ l) (drop_all (end + 1) text past)
      ∙ ap (λ l. l ++ close_bracket ∷ []) (sym (append-nil here)) in
      subst (SpellsVertices text) (sym grown)
      (on (three texts) no_items (v ∷ []) back (three_are_writable texts v each, tt) (
        (texts, refl, each),
        range,
        tt,
      ))

module _ (text : List ℕ) (at end : ℕ) (v : Triple) (onward : at < end) (within : end < length text)
    (written : slice_range text at end ≡ compact (vertex_tree v)) where
  pub goes_on_next : (read next : List Triple) → get_or text end 0 ≡ comma → next ≡ read ++ v ∷ [] → GoesOn text at read
      → GoesOn text (end + 1) next
  goes_on_next read next marked grown on = λ p ps rest.
      on v (p ∷ ps) (from_here text (compact (vertex_tree v)) at end comma onward within written marked
      ∙ ap (λ l. compact (vertex_tree v) ++ comma ∷ l) rest
      ∙ sym (append_assoc (compact (vertex_tree v)) (comma ∷ compact_items (trees (p ∷ ps))) (close_bracket ∷ [])))
      ∙ ap (λ qs. compact (vertices_tree qs)) (sym (append_assoc read (v ∷ []) (p ∷ ps))
      ∙ ap (λ qs. qs ++ p ∷ ps) (sym grown))

  pub goes_on_last : (read all : List Triple) → get_or text end 0 ≡ close_bracket → length text ≤ end + 1
      → all ≡ read ++ v ∷ [] → GoesOn text at read → text ≡ compact (vertices_tree all)
  goes_on_last read all marked past grown on =
      on v [] (from_here text (compact (vertex_tree v)) at end close_bracket onward within written marked
      ∙ ap (λ l. compact (vertex_tree v) ++ close_bracket ∷ l) (drop_all (end + 1) text past)
      ∙ ap (λ l. l ++ close_bracket ∷ []) (sym (append-nil (compact (vertex_tree v)))))
      ∙ ap (λ qs. compact (vertices_tree qs)) (sym grown)

-- written one after another
more_push : (ps : List Triple) (p : Triple)
    → compact_more_items (trees (ps ++ p ∷ [])) ≡ compact_more_items (trees ps) ++ comma ∷ compact (vertex_tree p)
more_push [] p = ap (λ l. comma ∷ l) (append-nil (compact (vertex_tree p)))
more_push (q ∷ qs) p =
    ap (λ l. comma ∷ compact (vertex_tree q) ++ l) (more_push qs p)
    ∙ sym (append_assoc (comma ∷ compact (vertex_tree q)) (compact_more_items (trees qs))
    (comma ∷ compact (vertex_tree p)))

pub more_written : (ps : List Triple) (i : ℕ) (p : Triple) (old before after : List ℕ) → i < length ps
    → p ≡ get_or ps i p → before ≡ old ++ compact_more_items (trees (take i ps))
    → after ≡ before ++ comma ∷ compact (vertex_tree p) → after ≡ old ++ compact_more_items (trees (take (i + 1) ps))
more_written ps i p old before after within is so_far more =
    more ∙ ap (λ l. l ++ comma ∷ compact (vertex_tree p)) so_far
    ∙ append_assoc old (compact_more_items (trees (take i ps))) (comma ∷ compact (vertex_tree p))
    ∙ ap (λ l. old ++ l) (sym (more_push (take i ps) p))
    ∙ ap (λ qs. old ++ compact_more_items (trees qs))
    (sym (take_more ps i p within ∙ ap (λ q. take i ps ++ q ∷ []) (sym is)))

pub all_written : (p : Triple) (ps : List Triple) (i : ℕ) (old first last after : List ℕ) → length ps ≤ i
    → first ≡ old ++ open_bracket ∷ compact (vertex_tree p) → last ≡ first ++ compact_more_items (trees (take i ps))
    → after ≡ last ++ close_bracket ∷ [] → after ≡ old ++ compact (vertices_tree (p ∷ ps))
all_written p ps i old first last after past begun so_far closed =
    closed ∙ ap (λ l. l ++ close_bracket ∷ []) (so_far
    ∙ ap (λ qs. first ++ compact_more_items (trees qs)) (take_all i ps past)
    ∙ ap (λ l. l ++ compact_more_items (trees ps)) begun)
    ∙ regroup old (compact (vertex_tree p)) (compact_more_items (trees ps))
  where
    regroup : (old v more : List ℕ)
        → ((old ++ open_bracket ∷ v) ++ more) ++ close_bracket ∷ [] ≡ old
        ++ (open_bracket ∷ (v ++ more) ++ close_bracket ∷ [])
    regroup old v more = simp append_assoc

pub first_and_others : (vs : List Triple) (p : Triple) → 0 < length vs → p ≡ get_or vs 0 p
    → p ∷ take (length vs - 1) (drop 1 vs) ≡ vs
first_and_others [] p some is = absurd (omega arith)
first_and_others (v ∷ vs) p some is = ap (λ q. q ∷ take (length (v ∷ vs) - 1) vs) is
    ∙ ap (λ qs. v ∷ qs) (take_all (length (v ∷ vs) - 1) vs (omega arith))
