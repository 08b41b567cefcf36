-- The texts of moved vertices, put one after another.
use Rattle.std.proofs.Common.{◌≡◌, ◌∙◌, ◌++◌, ◌<◌, ◌≤◌, ◌+◌, ◌-◌, ◌⊎◌, inl, inr, ℕ, true, false, List, [], ◌∷◌, length, map, take, drop, sym, ap, subst, arith, ⊎_elim, length-append, take_all, pos}
use Rattle.std.proofs.Math.Dec.{leb}
use Rattle.std.proofs.Math.Seq.{drop-append-add}
use Rattle.std.proofs.lemmas.Bool.Decides.{leb_tells}
use Rattle.std.proofs.lemmas.List.{drop-append-le, length-drop, map_more, take-append-le}
use Rattle.std.proofs.lemmas.List.Elements.{All-push}
use Rattle.std.specs.List.{All, slice_index, slice_range}
use Rattle.byte_streams.specs.declared.fault.Fault.{Fault}
use Rattle.byte_streams.specs.declared.fault.Fault.TheVariants.{Memory}
use Rattle.city_json.specs.Bytes.{comma}
use Rattle.city_json.specs.Compact.{compact}
use Rattle.city_json.specs.CompactTexts.{IsCompactOf}
use Rattle.city_json.specs.Tree.{Tree}
use Rattle.city_grid.proofs.VertexLaws.{vertex_is_read, vertex_is_writable}
use Rattle.city_grid.specs.Axes.{IsInRange, Triple, triple}
use Rattle.city_grid.specs.Vertex.{IsVertex, RefusesVertex, vertex_tree}
use Rattle.city_families.specs.Chosen.{point_at}
use Rattle.cut_on_text.specs.Moved.{moved_or_same}
use Rattle.cut_on_text.specs.VertexTexts.{IsGrown, StandAt}
use Rattle.city_feature.proofs.OneFeature.{same_vertex, taken}
use Rattle.cut_on_text.proofs.TextPoints.{stand_more}

-- the text of a vertex in range is read as that vertex
vertex_text : (text : List ℕ) (p : Triple) → IsInRange p → text ≡ compact (vertex_tree p)
    → IsCompactOf text (vertex_tree p)
vertex_text text p range is =
    record { is = is; writable = vertex_is_writable p range; distinct = (tt, (tt, (tt, tt))); within = omega arith }

pub vertex_read : (text : List ℕ) (p v : Triple) → IsInRange p → text ≡ compact (vertex_tree p)
    → ((value : Tree) → IsCompactOf text value → IsVertex value v) → v ≡ p
vertex_read text p v range is read = same_vertex (vertex_tree p) v p
    (read (vertex_tree p) (vertex_text text p range is)) (vertex_is_read p range)

pub no_vertex_fault : (text : List ℕ) (p : Triple) (fault : Fault) → IsInRange p → text ≡ compact (vertex_tree p)
    → ((value : Tree) → IsCompactOf text value → (fault ≡ Memory) ⊎ RefusesVertex fault value) → fault ≡ Memory
no_vertex_fault text p fault range is refused =
    ⊎_elim (λ memory. memory)
    (λ why. absurd (taken fault (vertex_tree p) p (vertex_is_read p range) range why))
    (refused (vertex_tree p) (vertex_text text p range is))

range_before : (xs ys : List ℕ) (a b : ℕ) → b ≤ length xs → slice_range (xs ++ ys) a b ≡ slice_range xs a b
range_before xs ys a b within = by (leb_tells a b)
  where
    by : ((leb a b ≡ true) × (a ≤ b)) ⊎ ((leb a b ≡ false) × (b < a)) → slice_range (xs ++ ys) a b ≡ slice_range xs a b
    by (inl ordered) =
        ap (take (b - a)) (drop-append-le a xs ys (omega (arith, ordered.1, within)))
        ∙ take-append-le (b - a) (drop a xs) ys (omega (arith, within, ordered.1, length-drop a xs))
    by (inr past) =
        let none : b - a ≡ 0 = omega (arith, past.1) in
        ap (λ n. take n (drop a (xs ++ ys))) none ∙ sym (ap (λ n. take n (drop a xs)) none)

pub grown_more : (text text' starts starts' : List ℕ) (points : List Triple) (v : Triple) → IsGrown text starts points
    → text' ≡ text ++ comma ∷ compact (vertex_tree v) → starts' ≡ starts ++ (length text' + 1) ∷ []
    → IsGrown text' starts' (points ++ v ∷ [])
grown_more text text' starts starts' points v grown appended pushed =
    let here = compact (vertex_tree v) in
    let long : length text' ≡ length text + length (comma ∷ here) =
    ap length appended ∙ length-append text (comma ∷ here) in
    let still : StandAt text' starts points = record {
      long = grown.stand.long;
      each = λ k below.
          let next = grown.within (k + 1) 0 (omega (arith, below, grown.stand.long)) in
          ap (λ l. slice_range l (slice_index starts k) (slice_index starts (k + 1) - 1)) appended
          ∙ (range_before text (comma ∷ here) (slice_index starts k) (slice_index starts (k + 1) - 1)
          (omega (arith, next)) ∙ grown.stand.each k below);
    } in
    let written : slice_range text' (length text + 1) (length text') ≡ here =
    ap (λ l. take (length text' - (length text + 1)) (drop (length text + 1) l)) appended
    ∙ (ap (take (length text' - (length text + 1))) (drop-append-add text (comma ∷ here) 1)
    ∙ take_all (length text' - (length text + 1)) here (omega (arith, long))) in
    let more = stand_more text' starts starts' points v (length text + 1) (length text') still grown.last written
    pushed in
    record {
      stand = more.0;
      last = more.1;
      within = subst (All (λ start. start ≤ length text' + 1)) (sym pushed)
          (All-push (λ start. start ≤ length text' + 1) starts (length text' + 1)
          (λ i d below. let within = grown.within i d below in omega (arith, within, long)) (omega arith));
    }

pub grown_on : (k : Triple) (points : List Triple) (at : ℕ) (text starts : List ℕ) (v : Triple) → at < length points
    → v ≡ moved_or_same k (point_at points at)
    → IsGrown text starts (map (moved_or_same k) (take at points) ++ v ∷ [])
    → IsGrown text starts (map (moved_or_same k) (take (at + 1) points))
grown_on k points at text starts v below is grown =
    subst (IsGrown text starts) (ap (λ p. map (moved_or_same k) (take at points) ++ p ∷ []) is
    ∙ sym (map_more (moved_or_same k) points at (triple (pos 0) (pos 0) (pos 0)) below)) grown

pub grown_all : (k : Triple) (points : List Triple) (at : ℕ) (text starts : List ℕ) → length points ≤ at
    → IsGrown text starts (map (moved_or_same k) (take at points)) → StandAt text starts (map (moved_or_same k) points)
grown_all k points at text starts past grown =
    subst (λ l. StandAt text starts (map (moved_or_same k) l)) (take_all at points past) grown.stand
