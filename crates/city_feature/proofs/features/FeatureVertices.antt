-- The vertices of a feature, item by item.
use Rattle.std.proofs.Common.{◌≡◌, ◌∙◌, ◌⊎◌, ◌++◌, ◌+◌, ◌<◌, ◌≤◌, ℕ, sym, ap, refl, subst, inl, inr, List, [], ◌∷◌, append_assoc, append-nil, length, drop, get_or, Some, codes, IfErr, Result, Ok, Err}
use Rattle.std.proofs.lemmas.List.{drop_all, drop_more}
use Rattle.city_json.specs.Members.{member_of}
use Rattle.city_json.specs.Tree.{Tree, tree, array, ItemTrees, no_items, item, items_tree}
use Rattle.byte_streams.specs.declared.fault.Fault.{Fault}
use Rattle.byte_streams.specs.declared.fault.Fault.TheVariants.{VertexShape, VertexNotInteger, VertexRange, Memory}
use Rattle.city_json.specs.declared.json.Json.{Json}
use Rattle.city_grid.specs.Axes.{Triple, IsInRange}
use Rattle.city_grid.specs.Vertex.{IsVertex, RefusesVertex}
use Rattle.city_feature.specs.Feature.{AreVertices, RefusesFirst, HasFeatureShape, RefusesFeature}

-- from here on the items are further vertices
abbrev pub Continues : List Json → ℕ → List Triple → Type 0
Continues items at read =
    (ps : List Triple) → AreVertices (items_tree (drop at items)) ps → AreVertices (items_tree items) (read ++ ps)

-- the first that is refused from here on is the first of all
abbrev pub RefusesOn : List Json → ℕ → Type 0
RefusesOn items at =
    (fault : Fault) → RefusesFirst fault (items_tree (drop at items)) → RefusesFirst fault (items_tree items)

module _ (items : List Json) (at : ℕ) (x : Json) (within : at < length items) (is : x ≡ get_or items at x) where
  next_item : items_tree (drop at items) ≡ item (tree x) (items_tree (drop (at + 1) items))
  next_item = ap items_tree (drop_more items at x within)
      ∙ ap (λ y. item (tree y) (items_tree (drop (at + 1) items))) (sym is)

  pub continued : (read next : List Triple) (p : Triple) → IsVertex (tree x) p → IsInRange p → next ≡ read ++ p ∷ []
      → Continues items at read → Continues items (at + 1) next
  continued read next p vertex range grown on = λ ps others.
      let here : AreVertices (items_tree (drop at items)) (p ∷ ps) =
      subst (λ t. AreVertices t (p ∷ ps)) (sym next_item) (vertex, range, others) in
      subst (AreVertices (items_tree items)) (sym (ap (λ front. front ++ ps) grown ∙ append_assoc read (p ∷ []) ps))
      (on (p ∷ ps) here)

  pub refused_on : (p : Triple) → IsVertex (tree x) p → IsInRange p → RefusesOn items at → RefusesOn items (at + 1)
  refused_on p vertex range on = λ fault refused.
      on fault (subst (RefusesFirst fault) (sym next_item) (inr (p, vertex, range, refused)))

  pub refused_here : (fault : Fault) → RefusesVertex fault (tree x) → RefusesOn items at
      → RefusesFirst fault (items_tree items)
  refused_here fault refused on = on fault (subst (RefusesFirst fault) (sym next_item) (inl refused))

pub all_read : (items : List Json) (at : ℕ) (read : List Triple) → length items ≤ at → Continues items at read
    → AreVertices (items_tree items) read
all_read items at read past on =
    subst (AreVertices (items_tree items)) (append-nil read)
    (on [] (subst (λ left. AreVertices (items_tree left) []) (sym (drop_all at items past)) tt))

no_first : (fault : Fault) (items : ItemTrees) → RefusesFirst fault items → (VertexShape ≡ fault)
    ⊎ ((VertexNotInteger ≡ fault) ⊎ (VertexRange ≡ fault))
no_first fault no_items refused = absurd refused
no_first fault (item value others) (inl refused) = one_of fault value refused
  where
    one_of : (fault : Fault) (value : Tree) → RefusesVertex fault value → (VertexShape ≡ fault)
        ⊎ ((VertexNotInteger ≡ fault) ⊎ (VertexRange ≡ fault))
    one_of VertexShape value refused = inl refl
    one_of VertexNotInteger value refused = inr (inl refl)
    one_of VertexRange value refused = inr (inr refl)
    one_of other value refused = absurd refused
no_first fault (item value others) (inr later) = no_first fault others later.3

-- of a value with the shape of a feature, whose vertices are these items
pub feature_refused : (value : Tree) (items : ItemTrees) (fault : Fault) → HasFeatureShape value
    → member_of (codes "vertices") value ≡ Some (array items) → (fault ≡ Memory) ⊎ RefusesFirst fault items
    → RefusesFeature fault value
feature_refused value items fault shape are (inl memory) = subst (λ f. RefusesFeature f value) (sym memory) shape
feature_refused value items fault shape are (inr refused) =
    told (no_first fault items refused)
  where
    told : (VertexShape ≡ fault) ⊎ ((VertexNotInteger ≡ fault) ⊎ (VertexRange ≡ fault)) → RefusesFeature fault value
    told (inl e) = subst (λ f. RefusesFeature f value) e (
      items,
      shape,
      are,
      subst (λ f. RefusesFirst f items) (sym e) refused,
    )
    told (inr (inl e)) = subst (λ f. RefusesFeature f value) e (
      items,
      shape,
      are,
      subst (λ f. RefusesFirst f items) (sym e) refused,
    )
    told (inr (inr e)) = subst (λ f. RefusesFeature f value) e (
      items,
      shape,
      are,
      subst (λ f. RefusesFirst f items) (sym e) refused,
    )

pub answer_refused : {T : Type 0} (answer : Result T Fault) (value : Tree) (items : ItemTrees) → HasFeatureShape value
    → member_of (codes "vertices") value ≡ Some (array items)
    → IfErr answer (λ fault. (fault ≡ Memory) ⊎ RefusesFirst fault items)
    → IfErr answer (λ fault. RefusesFeature fault value)
answer_refused (Ok read) value items shape are refused = tt
answer_refused (Err fault) value items shape are refused = feature_refused value items fault shape are refused
