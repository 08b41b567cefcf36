-- The vertices of a document, item by item.
use Rattle.std.proofs.Common.{◌≡◌, ◌⊎◌, sym, refl, subst, inl, inr}
use Rattle.city_json.specs.Tree.{Tree, ItemTrees, no_items, item}
use Rattle.byte_streams.specs.declared.fault.Fault.{Fault}
use Rattle.byte_streams.specs.declared.fault.Fault.TheVariants.{VertexShape, VertexNotInteger, VertexRange}
use Rattle.city_grid.specs.Vertex.{RefusesVertex}
use Rattle.city_feature.specs.Feature.{RefusesFirst}
use Rattle.city_families.specs.CityObjects.{vertices_of}
use Rattle.city_families.specs.Cut.{HasFrame, RefusesCut}

one_of : (fault : Fault) (value : Tree) → RefusesVertex fault value → (VertexShape ≡ fault)
    ⊎ ((VertexNotInteger ≡ fault) ⊎ (VertexRange ≡ fault))
one_of VertexShape value refused = inl refl
one_of VertexNotInteger value refused = inr (inl refl)
one_of VertexRange value refused = inr (inr refl)
one_of other value refused = absurd refused

pub no_first : (fault : Fault) (items : ItemTrees) → RefusesFirst fault items → (VertexShape ≡ fault)
    ⊎ ((VertexNotInteger ≡ fault) ⊎ (VertexRange ≡ fault))
no_first fault no_items refused = absurd refused
no_first fault (item value others) (inl refused) = one_of fault value refused
no_first fault (item value others) (inr later) = no_first fault others later.3

pub vertex_refused : (document : Tree) (fault : Fault) → HasFrame document → RefusesFirst fault (vertices_of document)
    → RefusesCut fault document
vertex_refused document fault frame refused = told (no_first fault (vertices_of document) refused)
  where
    told : (VertexShape ≡ fault) ⊎ ((VertexNotInteger ≡ fault) ⊎ (VertexRange ≡ fault)) → RefusesCut fault document
    told (inl e) = subst (λ f. RefusesCut f document) e
        (frame, subst (λ f. RefusesFirst f (vertices_of document)) (sym e) refused)
    told (inr (inl e)) = subst (λ f. RefusesCut f document) e
        (frame, subst (λ f. RefusesFirst f (vertices_of document)) (sym e) refused)
    told (inr (inr e)) = subst (λ f. RefusesCut f document) e
        (frame, subst (λ f. RefusesFirst f (vertices_of document)) (sym e) refused)
