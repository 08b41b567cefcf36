-- Vertices that are found in their compact text, and copied from there.
use Rattle.std.proofs.Common.{◌≡◌, ◌∙◌, ◌++◌, ◌<◌, ◌+◌, ◌-◌, ◌==◌, ◌↔◌, ℕ, Bool, true, false, IsTrue, List, [], ◌∷◌, All, map, length, take, get_or, slice_range, slice_index, refl, sym, ap, subst, arith, append_assoc, append-nil, length-append}
use Rattle.std.proofs.lemmas.Bool.{eqb-true, eqb-false}
use Rattle.std.proofs.lemmas.List.{get_or_append_left, get_or_push, map-append, take_more}
use Rattle.city_json.specs.Bytes.{comma, open_bracket, close_bracket}
use Rattle.city_json.specs.Compact.{compact, compact_more_items}
use Rattle.city_json.specs.CompactTexts.{IsCompactOf}
use Rattle.city_json.specs.Tree.{Tree, ItemTrees, array, item_trees}
use Rattle.city_grid.specs.Axes.{IsInRange, Triple}
use Rattle.city_grid.specs.Vertex.{vertex_tree}
use Rattle.city_feature.proofs.NamedTexts.{are_in_range}
use Rattle.city_feature.specs.Feature.{AreVertices, vertices_tree}
use Rattle.city_feature.specs.Shapes.{IsArray}
use Rattle.city_families.specs.Chosen.{point_at}
use Rattle.cut_on_text.specs.VertexTexts.{StandAt}
use Rattle.cut_on_text.proofs.TextMembers.{three}

abbrev pub trees_of : List Triple → ItemTrees
trees_of ps = item_trees (map vertex_tree ps)

-- ---- where they begin
module _ (text starts starts' : List ℕ) (points : List Triple) (v : Triple) (at end : ℕ)
    (stand : StandAt text starts points) (last : slice_index starts (length points) ≡ at)
    (written : slice_range text at end ≡ compact (vertex_tree v)) (pushed : starts' ≡ starts ++ (end + 1) ∷ []) where
  more : length (points ++ v ∷ []) ≡ length points + 1
  more = length-append points (v ∷ [])

  old : (k : ℕ) → k < length starts → slice_index starts' k ≡ slice_index starts k
  old k below = ap (λ l. slice_index l k) pushed ∙ get_or_append_left starts ((end + 1) ∷ []) 0 k below

  new : slice_index starts' (length points + 1) ≡ end + 1
  new = ap (λ l. slice_index l (length points + 1)) pushed
      ∙ get_or_push starts (end + 1) 0 (length points + 1) stand.long

  at_is : (k : ℕ) (b : Bool) → (k == length points) ≡ b → k < length points + 1
      → slice_range text (slice_index starts' k) (slice_index starts' (k + 1) - 1)
      ≡ compact (vertex_tree (point_at (points ++ v ∷ []) k))
  at_is k true e below =
      let same : k ≡ length points = eqb-true k (length points) e in
      let from : slice_index starts' k ≡ at = old k (omega (arith, same, stand.long))
      ∙ (ap (slice_index starts) same ∙ last) in
      let to : slice_index starts' (k + 1) ≡ end + 1 = ap (λ n. slice_index starts' (n + 1)) same ∙ new in
      let to_end : slice_index starts' (k + 1) - 1 ≡ end = omega (arith, to) in
      let point : point_at (points ++ v ∷ []) k ≡ v =
      ap (point_at (points ++ v ∷ [])) same ∙ get_or_push points v _ (length points) refl in
      ap (λ n. slice_range text n (slice_index starts' (k + 1) - 1)) from
      ∙ (ap (λ n. slice_range text at n) to_end ∙ (written ∙ ap (λ p. compact (vertex_tree p)) (sym point)))
  at_is k false e below =
      let less : k < length points = omega (arith, below, eqb-false k (length points) e) in
      let from : slice_index starts' k ≡ slice_index starts k = old k (omega (arith, less, stand.long)) in
      let to : slice_index starts' (k + 1) ≡ slice_index starts (k + 1) =
      old (k + 1) (omega (arith, less, stand.long)) in
      let point : point_at (points ++ v ∷ []) k ≡ point_at points k = get_or_append_left points (v ∷ []) _ k less in
      ap (λ n. slice_range text n (slice_index starts' (k + 1) - 1)) from
      ∙ (ap (λ n. slice_range text (slice_index starts k) (n - 1)) to
      ∙ (stand.each k less ∙ ap (λ p. compact (vertex_tree p)) (sym point)))

  pub stand_more : StandAt text starts' (points ++ v ∷ []) × (slice_index starts' (length (points ++ v ∷ [])) ≡ end + 1)
  stand_more = (
    record {
      long = ap length pushed ∙ (length-append starts ((end + 1) ∷ []) ∙ omega (arith, stand.long, more));
      each = λ k below. at_is k (k == length points) refl (omega (arith, below, more));
    },
    ap (slice_index starts') more ∙ new,
  )

-- ---- written anew
pub array_is : (value : Tree) → IsArray value → (items : ItemTrees) × (value ≡ array items)
array_is (array items) is = (items, refl)
array_is other is = absurd is

pub vertices_made : (text : List ℕ) (is : Bool) (value : Tree) (written starts given : List ℕ)
    → ((value : Tree) → IsCompactOf text value → IsTrue is ↔ IsArray value) → is ≡ true → IsCompactOf text value
    → ((items : ItemTrees) → IsCompactOf text (array items) → (points : List Triple) × AreVertices items points
    × StandAt written starts points) → given ≡ written
    → (points : List Triple) × ((items : ItemTrees) × (value ≡ array items) × AreVertices items points)
    × StandAt given starts points × All IsInRange points
vertices_made text is value written starts given test so of made lent =
    let (items, same) = array_is value ((test value of).0 so) in
    let (points, are, stand) = made items (subst (IsCompactOf text) same of) in
    (points, (items, same, are), subst (λ l. StandAt l starts points) (sym lent) stand, are_in_range items points are)

-- ---- copied

more_push : (ps : List Triple) (p : Triple)
    → compact_more_items (trees_of (ps ++ p ∷ [])) ≡ compact_more_items (trees_of ps) ++ comma ∷ compact (vertex_tree p)
more_push [] p = ap (λ l. comma ∷ l) (append-nil (compact (vertex_tree p)))
more_push (q ∷ qs) p = ap (λ l. comma ∷ compact (vertex_tree q) ++ l) (more_push qs p)
    ∙ sym (append_assoc (comma ∷ compact (vertex_tree q)) (compact_more_items (trees_of qs))
    (comma ∷ compact (vertex_tree p)))

pub points_none : (points : List Triple) (line : List ℕ)
    → line ≡ line ++ compact_more_items (trees_of (map (point_at points) []))
points_none points line = sym (append-nil line)

pub points_more : (line line₁ line₂ line₃ : List ℕ) (points : List Triple) (numbers : List ℕ) (i : ℕ)
    → i < length numbers → line₁ ≡ line ++ compact_more_items (trees_of (map (point_at points) (take i numbers)))
    → line₂ ≡ line₁ ++ comma ∷ [] → line₃ ≡ line₂ ++ compact (vertex_tree (point_at points (get_or numbers i 0)))
    → line₃ ≡ line ++ compact_more_items (trees_of (map (point_at points) (take (i + 1) numbers)))
points_more line line₁ line₂ line₃ points numbers i within before comma_is one =
    let x = point_at points (get_or numbers i 0) in
    let front = map (point_at points) (take i numbers) in
    three line line₁ line₂ line₃ (compact_more_items (trees_of (map (point_at points) (take i numbers)))) (comma ∷ [])
    (compact (vertex_tree (point_at points (get_or numbers i 0)))) before comma_is one
    ∙ ap (λ l. line ++ l) (sym (more_push front x)
    ∙ ap (λ ps. compact_more_items (trees_of ps))
    (sym (ap (map (point_at points)) (take_more numbers i 0 within)
    ∙ map-append (point_at points) (take i numbers) (get_or numbers i 0 ∷ []))))

closed : (line a b c d : List ℕ) → (((line ++ a) ++ b) ++ c) ++ d ≡ line ++ (a ++ ((b ++ c) ++ d))
closed line a b c d = simp append_assoc

pub points_made : (line line₁ line₂ line₃ line₄ : List ℕ) (points : List Triple) (first : ℕ) (others : List ℕ)
    → line₁ ≡ line ++ open_bracket ∷ [] → line₂ ≡ line₁ ++ compact (vertex_tree (point_at points first))
    → line₃ ≡ line₂ ++ compact_more_items (trees_of (map (point_at points) others))
    → line₄ ≡ line₃ ++ close_bracket ∷ []
    → line₄ ≡ line ++ compact (vertices_tree (map (point_at points) (first ∷ others)))
points_made line line₁ line₂ line₃ line₄ points first others opened one more ends =
    ends ∙ (ap (λ l. l ++ close_bracket ∷ [])
    (more ∙ ap (λ l. l ++ compact_more_items (trees_of (map (point_at points) others)))
    (one ∙ ap (λ l. l ++ compact (vertex_tree (point_at points first))) opened))
    ∙ closed line (open_bracket ∷ []) (compact (vertex_tree (point_at points first)))
    (compact_more_items (trees_of (map (point_at points) others))) (close_bracket ∷ []))
