use Rattle.std.proofs.Common.{◌≡◌, ◌∙◌, inl, inr, map, sym, subst, ap, length}
use Rattle.std.proofs.lemmas.Result.{err_from_is_err_and}
use Rattle.std.specs.List.{AllByRecursion}
use Rattle.std.specs.Prelude.{option_copied, option_map}
use Rattle.city_json.specs.Fits.{IsDistinct}
use Rattle.city_json.specs.Tree.{array, items_tree, members_tree, named_tree, tree}
use Rattle.city_families.specs.Assembled.{IsAssembled}
use Rattle.city_families.specs.Boundaries.{IsBounded}
use Rattle.city_families.specs.Chosen.{chosen_objects, named_tree_at}
use Rattle.city_families.specs.Places.{name_at}
use Rattle.cut_by_value.proofs.Answered.{if_err, if_ok, on_ok}
use Rattle.city_families.proofs.FeatureParts.{chosen_distinct, from_map}
use Rattle.cut_by_value.proofs.FeatureParts.{chosen_all, feature_is, member_places, only_memory}
use Rattle.cut_by_value.proofs.Seeking.{name_here}
use Rattle.cut_by_value.proofs.features.feature_of.Goals as goal

pub objects_at-requires : goal.objects_at-requires
objects_at-requires c = rw c.deref.ensures.value
    (member_places c.args.objects.now c.args.family.now.root c.args.family.now.places.items c.requires.family)

pub assemble-requires-clause-distinct : goal.assemble-requires-clause-distinct
assemble-requires-clause-distinct c =
    let chosen : chosen_objects c.deref-2.result.now
    ≡ map (named_tree_at c.args.objects.now) c.args.family.now.places.items =
    ap chosen_objects c.deref-2.ensures.value
    ∙ (c.in_ok-chosen.ensures.ok ∙ ap (map (named_tree_at c.args.objects.now)) c.deref.ensures.value) in
    subst (AllByRecursion (λ named. IsDistinct named.1)) (sym chosen)
    (chosen_distinct (map named_tree c.args.objects.now) c.args.family.now.root c.args.family.now.places.items
    c.requires.distinct c.requires.family)

pub returns-in_err-assembled-clause-fault : goal.returns-in_err-assembled-clause-fault
returns-in_err-assembled-clause-fault c =
    let p = err_from_is_err_and c.from_residual-in_err-assembled.result c.from_residual-in_err-assembled.ensures.1 in
    let chosen : chosen_objects c.deref-2.result.now
    ≡ map (named_tree_at c.args.objects.now) c.args.family.now.places.items =
    ap chosen_objects c.deref-2.ensures.value
    ∙ (c.in_ok-chosen.ensures.ok ∙ ap (map (named_tree_at c.args.objects.now)) c.deref.ensures.value) in
    rw (p.1, p.2) (λ points all. elim (c.in_err-assembled.ensures.fault points all) [
      | inl memory ↦ inl memory
      | inr wrong ↦ inr (
        wrong.0,
        λ every. wrong.1 (subst (AllByRecursion (λ named. IsBounded (length c.args.vertices.now) named.1))
            (sym chosen) (chosen_all (IsBounded (length c.args.vertices.now)) (map named_tree c.args.objects.now)
            c.args.family.now.root c.args.family.now.places.items c.requires.family every)),
      )
    ])

pub returns-clause-ok : goal.returns-clause-ok
returns-clause-ok c =
    let chosen : chosen_objects c.deref-2.result.now
    ≡ map (named_tree_at c.args.objects.now) c.args.family.now.places.items =
    ap chosen_objects c.deref-2.ensures.value
    ∙ (c.in_ok-chosen.ensures.ok ∙ ap (map (named_tree_at c.args.objects.now)) c.deref.ensures.value) in
    let id : c.name_of-id.result.now ≡ name_at (members_tree c.args.objects.now) c.args.family.now.root =
    c.name_of-id.ensures ∙ sym (name_here c.args.objects.now c.args.family.now.root c.index-objects-family.result
    c.requires.root c.index-objects-family.is) in
    let made = rw id at c.in_ok-json.ensures.ok in
    if_ok c.feature.result (λ f holds. λ points all.
    feature_is c.args.objects.now c.args.family.now.root c.args.family.now.places.items points
    (map named_tree c.in_ok-assembled.assembled.objects.items)
    (array (items_tree c.in_ok-assembled.assembled.vertices.items))
    (option_map tree (option_copied c.args.appearance)) c.in_ok-json.json f c.requires.family
    (subst (λ named. IsAssembled points named (map named_tree c.in_ok-assembled.assembled.objects.items)
    (array (items_tree c.in_ok-assembled.assembled.vertices.items))) chosen
    (c.in_ok-assembled.ensures.ok points all)) made holds.0 holds.1) c.feature.ensures.ok

pub returns-clause-fault : goal.returns-clause-fault
returns-clause-fault c =
    if_err c.feature.result (λ fault refused. λ points all.
    let assembled = c.in_ok-assembled.ensures.ok points all in
    inl (only_memory (tree c.in_ok-json.json) c.name_of-id.result.now
    (map named_tree c.in_ok-assembled.assembled.objects.items)
    (array (items_tree c.in_ok-assembled.assembled.vertices.items))
    (option_map tree (option_copied c.args.appearance)) assembled.own c.in_ok-json.ensures.ok assembled.written
    assembled.again fault refused)) c.feature.ensures.refusal

pub returns-clause-bounded : goal.returns-clause-bounded
returns-clause-bounded c =
    let chosen : chosen_objects c.deref-2.result.now
    ≡ map (named_tree_at c.args.objects.now) c.args.family.now.places.items =
    ap chosen_objects c.deref-2.ensures.value
    ∙ (c.in_ok-chosen.ensures.ok ∙ ap (map (named_tree_at c.args.objects.now)) c.deref.ensures.value) in
    on_ok c.feature.result (λ k in_family. from_map (λ named. IsBounded (length c.args.vertices.now) named.1)
    (named_tree_at c.args.objects.now) c.args.family.now.places.items k
    (subst (AllByRecursion (λ named. IsBounded (length c.args.vertices.now) named.1)) chosen
    c.in_ok-assembled.ensures.bounded) in_family)
