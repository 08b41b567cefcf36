use Rattle.std.proofs.Common.{◌≡◌, Some, length, refl, rules, arith}
use Rattle.std.proofs.lemmas.List.{length-map}
use Rattle.std.proofs.lemmas.Option.{slice_get-map, slice_get_read}
use Rattle.std.specs.List.{slice_get}
use Rattle.city_json.specs.Members.{names}
use Rattle.city_json.specs.Tree.{members_tree, named_tree}
use Rattle.cut_by_value.proofs.Tables.{listed_more, names_map, table_of_listed}
use Rattle.cut_by_value.proofs.objects.table.Goals as goal

pub loop-at-preserved : goal.loop-at-preserved
loop-at-preserved c =
    let objects = c.args.objects.now in
    let here : slice_get objects c.loop-at.at ≡ Some c.index-objects-at.result =
    slice_get_read objects (length objects) c.loop-at.at c.index-objects-at.result refl (omega arith)
    c.index-objects-at.is in
    let name : slice_get (names (members_tree objects)) c.loop-at.at ≡ Some c.as_bytes.result.now =
    rw (names_map objects, slice_get-map, here, c.as_bytes.ensures.value, c.name_of.ensures) refl in (
      search rules,
      search rules,
      listed_more _ _ _ c.as_bytes.result c.loop-at.at c.loop-at.invariant.2 (omega arith)
          (search rules) name,
    )

pub returns-clause-ok : goal.returns-clause-ok
returns-clause-ok c =
    let objects = c.args.objects.now in
    let all : length (names (members_tree objects)) ≡ length objects =
    rw (names_map objects) (length-map objects (λ m. (named_tree m).0)) in
    table_of_listed _ _ _ c.loop-at.invariant.2 (omega (arith, all, c.loop-at.invariant.0))
    c.sort_unstable.ensures.permutation c.sort_unstable.ensures.sorted
