-- A text spells one feature at most, and is then refused only where a vertex leaves the range, or memory runs out.
use Rattle.std.proofs.Common.{◌≡◌, ◌⊎◌, inl, inr, ℕ, ℤ, List, [], ◌∷◌, Some, refl, sym, ap, subst, ◌∙◌}
use Rattle.city_json.proofs.Complete.{one_meaning}
use Rattle.city_json.proofs.DepthLaws.{nests_as_value}
use Rattle.city_json.specs.Fits.{IsDistinct}
use Rattle.city_json.specs.Refusals.{RefusesText}
use Rattle.city_json.specs.Tree.{Tree, array, ItemTrees, no_items, item}
use Rattle.byte_streams.specs.declared.fault.Fault.{Fault}
use Rattle.byte_streams.specs.declared.fault.Fault.TheVariants.{NotUtf8, TooDeep, Syntax, DuplicateName, NotAFeature, VertexShape, VertexNotInteger, VertexRange, Memory}
use Rattle.city_grid.specs.Axes.{Each, IsInRange, Texts, Triple, three}
use Rattle.city_grid.specs.Vertex.{IsInteger, IsVertex, RefusesVertex}
use Rattle.city_feature.specs.Feature.{AreVertices, FeatureValue, IsFeature, IsMovable, RefusesFeature, RefusesFirst}
use Rattle.city_feature.specs.FeatureLine.{RefusesFeatureLine, SpellsFeature}

-- ---- a value is one vertex at most
same_integer : (text : List ℕ) (x y : ℤ) → IsInteger text x → IsInteger text y → x ≡ y
same_integer text x y is_x is_y = is_x.3 ∙ sym is_y.3

same_x : (a b : Texts) → three a ≡ three b → a.x ≡ b.x
same_x a b e = cc

same_y : (a b : Texts) → three a ≡ three b → a.y ≡ b.y
same_y a b e = cc

same_z : (a b : Texts) → three a ≡ three b → a.z ≡ b.z
same_z a b e = cc

same_texts : (a b : Texts) → three a ≡ three b → a ≡ b
same_texts a b e =
    let texts : List ℕ → List ℕ → List ℕ → Texts = λ x y z. record { x = x; y = y; z = z } in
    ap (λ x. texts x a.y a.z) (same_x a b e) ∙ ap (λ y. texts b.x y a.z) (same_y a b e)
    ∙ ap (λ z. texts b.x b.y z) (same_z a b e)

same_triple : (p q : Triple) → p.x ≡ q.x → p.y ≡ q.y → p.z ≡ q.z → p ≡ q
same_triple p q x y z =
    let triple : ℤ → ℤ → ℤ → Triple = λ a b c. record { x = a; y = b; z = c } in
    ap (λ a. triple a p.y p.z) x ∙ ap (λ b. triple q.x b p.z) y ∙ ap (λ c. triple q.x q.y c) z

pub same_vertex : (value : Tree) (p q : Triple) → IsVertex value p → IsVertex value q → p ≡ q
same_vertex value p q is_p is_q =
    let texts : is_q.0 ≡ is_p.0 = same_texts is_q.0 is_p.0 (sym is_q.1 ∙ is_p.1) in
    let each : Each IsInteger is_p.0 q = subst (λ t. Each IsInteger t q) texts is_q.2 in
    same_triple p q (same_integer is_p.0.x p.x q.x is_p.2.0 each.0) (same_integer is_p.0.y p.y q.y is_p.2.1 each.1)
    (same_integer is_p.0.z p.z q.z is_p.2.2 each.2)

pub same_vertices : (items : ItemTrees) (ps qs : List Triple) → AreVertices items ps → AreVertices items qs → ps ≡ qs
same_vertices no_items [] [] is_ps is_qs = refl
same_vertices no_items [] (q ∷ qs) is_ps is_qs = absurd is_qs
same_vertices no_items (p ∷ ps) qs is_ps is_qs = absurd is_ps
same_vertices (item value others) [] qs is_ps is_qs = absurd is_ps
same_vertices (item value others) (p ∷ ps) [] is_ps is_qs = absurd is_qs
same_vertices (item value others) (p ∷ ps) (q ∷ qs) is_ps is_qs =
    let first : p ≡ q = same_vertex value p q is_ps.0 is_qs.0 in
    let rest : ps ≡ qs = same_vertices others ps qs is_ps.2 is_qs.2 in
    cc

-- a vertex in range is not refused
pub taken : (fault : Fault) (value : Tree) (p : Triple) → IsVertex value p → IsInRange p → RefusesVertex fault value → ⊥
taken VertexShape value p is range refused = refused is.0 is.1
taken VertexNotInteger value p is range refused =
    let texts : is.0 ≡ refused.0 = same_texts is.0 refused.0 (sym is.1 ∙ refused.1) in
    refused.2 p (subst (λ t. Each IsInteger t p) texts is.2)
taken VertexRange value p is range refused =
    refused.2 (subst IsInRange (same_vertex value p refused.0 is refused.1) range)
taken other value p is range refused = absurd refused

pub none_first : (fault : Fault) (items : ItemTrees) (ps : List Triple) → AreVertices items ps
    → RefusesFirst fault items → ⊥
none_first fault no_items ps are refused = absurd refused
none_first fault (item value others) [] are refused = absurd are
none_first fault (item value others) (p ∷ ps) are (inl here) = taken fault value p are.0 are.1 here
none_first fault (item value others) (p ∷ ps) are (inr later) = none_first fault others ps are.2 later.3

-- ---- a text spells one feature
pub same_array : (xs ys : ItemTrees) → Some (array xs) ≡ Some (array ys) → xs ≡ ys
same_array xs ys e = cc

-- a text spells one feature at most
same_value : (line : List ℕ) (f g : FeatureValue) → SpellsFeature line f → SpellsFeature line g → f.value ≡ g.value
same_value line f g is_f is_g = one_meaning line f.value g.value is_f.0.1 is_g.0.1

pub vertices_of_value : (value : Tree) (ps qs : List Triple) → IsFeature value ps → IsFeature value qs → ps ≡ qs
vertices_of_value value ps qs is_ps is_qs =
    let items : is_qs.1.0 ≡ is_ps.1.0 = same_array is_qs.1.0 is_ps.1.0 (sym is_qs.1.1 ∙ is_ps.1.1) in
    same_vertices is_ps.1.0 ps qs is_ps.1.2 (subst (λ t. AreVertices t qs) items is_qs.1.2)

pub same_feature : (line : List ℕ) (f g : FeatureValue) → SpellsFeature line f → SpellsFeature line g → f ≡ g
same_feature line f g is_f is_g =
    let value : f.value ≡ g.value = same_value line f g is_f is_g in
    let there : IsFeature g.value f.vertices = subst (λ v. IsFeature v f.vertices) value is_f.2 in
    let vertices : f.vertices ≡ g.vertices = vertices_of_value g.value f.vertices g.vertices there is_g.2 in
    let made : Tree → List Triple → FeatureValue = λ v ps. record { value = v; vertices = ps } in
    ap (λ v. made v f.vertices) value ∙ ap (made g.value) vertices

-- a text that spells a feature is not refused as a text, but where memory runs out
text_taken : (line : List ℕ) (f : FeatureValue) → SpellsFeature line f → (fault : Fault) → RefusesText fault line
    → fault ≡ Memory
text_taken line f is NotUtf8 refused = absurd (refused is.0.0)
text_taken line f is TooDeep refused = absurd ((nests_as_value line f.value is.0).1 is.1.0 refused.1)
text_taken line f is Syntax refused = absurd (refused.1 f.value is.0)
text_taken line f is DuplicateName refused =
    let other = refused.1 in
    absurd (other.2 (subst IsDistinct (one_meaning line f.value other.0 is.0.1 other.1.1) is.1.1))
text_taken line f is Memory refused = refl
text_taken line f is other refused = absurd refused

-- nor as a feature
pub feature_taken : (value : Tree) (ps : List Triple) → IsFeature value ps → (fault : Fault) → RefusesFeature fault value
    → fault ≡ Memory
feature_taken value ps is NotAFeature refused = absurd (refused is.0)
feature_taken value ps is VertexShape refused =
    absurd (none_first VertexShape _ ps is.1.2
    (subst (RefusesFirst VertexShape) (same_array refused.0 _ (sym refused.2 ∙ is.1.1)) refused.3))
feature_taken value ps is VertexNotInteger refused =
    absurd (none_first VertexNotInteger _ ps is.1.2
    (subst (RefusesFirst VertexNotInteger) (same_array refused.0 _ (sym refused.2 ∙ is.1.1)) refused.3))
feature_taken value ps is VertexRange refused =
    absurd (none_first VertexRange _ ps is.1.2
    (subst (RefusesFirst VertexRange) (same_array refused.0 _ (sym refused.2 ∙ is.1.1)) refused.3))
feature_taken value ps is Memory refused = refl
feature_taken value ps is other refused = absurd refused

module _ (k : Triple) where
  -- so it can only be that it cannot be moved
  pub not_moved : (line : List ℕ) (f : FeatureValue) → SpellsFeature line f → (fault : Fault)
      → RefusesFeatureLine k fault line → (fault ≡ Memory) ⊎ ((fault ≡ VertexRange) × ¬ IsMovable f k)
  not_moved line f is fault (inl text) = inl (text_taken line f is fault text)
  not_moved line f is fault (inr (inl value)) =
      let same : value.0 ≡ f.value = one_meaning line value.0 f.value value.1.1 is.0.1 in
      inl (feature_taken f.value f.vertices is.2 fault (subst (RefusesFeature fault) same value.3))
  not_moved line f is fault (inr (inr range)) =
      let same : range.1.0 ≡ f = same_feature line range.1.0 f range.1.1 is in
      inr (range.0, subst (λ (g : FeatureValue). ¬ IsMovable g k) same range.1.2)
