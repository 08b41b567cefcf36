use Rattle.std.proofs.Common.{◌≤◌, ◌<◌, ◌++◌, [], ◌∷◌, Some, None, length, map, rules, arith}
use Rattle.std.specs.Prelude.{option_copied, option_map}
use Rattle.city_json.specs.Tree.{members_tree, named_tree, tree}
use Rattle.city_feature.specs.Values.{feature_value}
use Rattle.city_families.specs.Families.{IsBegun}
use Rattle.city_families.proofs.FeatureList.{bounded_all, bounded_more, bounded_none, bounded_on, family_begun, features_all, features_more, features_on}
use Rattle.city_families.proofs.Kinship.{graph_in_range}
use Rattle.cut_by_value.proofs.Kinship.{names_long}
use Rattle.city_families.proofs.Seeking.{as_many_pairs}
use Rattle.cut_by_value.proofs.Seeking.{parted_long}
use Rattle.cut_by_value.proofs.features.keep_features.Goals as goal

pub family_at-requires-clause-graph : goal.family_at-requires-clause-graph
family_at-requires-clause-graph g c = graph_in_range (members_tree c.args.objects.now)
    c.args.kin.now.children c.requires.related.differ c.requires.related.linked

pub family_at-requires-clause-parents : goal.family_at-requires-clause-parents
family_at-requires-clause-parents g c = parted_long c.args.objects.now c.args.kin.now.parents.items
    c.args.kin.now.children c.requires.related.parted c.requires.related.linked

pub loop-at-init : goal.loop-at-init
loop-at-init g c = record {
  long = search rules;
  marked = c.in_ok-marks.ensures.ok;
  made = ([], c.requires.none, λ points all. tt);
  bounded = bounded_none _ _;
}

pub loop-at-preserved-in_default : goal.loop-at-preserved-in_default
loop-at-preserved-in_default g c =
    let pairs = map named_tree c.args.objects.now in
    let within : c.loop-at.at < length pairs =
    omega (arith, as_many_pairs pairs _ _ c.requires.related, c.loop-at-test.true) in
    let none : IsBegun pairs c.loop-at.at None =
    rw c.in_default.is at (c.in_ok-found.ensures.begun pairs c.requires.related) in
    record {
      long = c.loop-at.invariant.long;
      marked = c.in_ok-found.ensures.marked;
      made = (
        c.loop-at.invariant.made.0,
        c.loop-at.invariant.made.1,
        λ points all. features_on pairs (option_map tree (option_copied c.args.appearance)) points c.loop-at.at
            c.loop-at.invariant.made.0 none within (c.loop-at.invariant.made.2 points all),
      );
      bounded = bounded_on _ pairs c.loop-at.at none within c.loop-at.invariant.bounded;
    }

pub feature_of-requires-clause-family : goal.feature_of-requires-clause-family
feature_of-requires-clause-family g c =
    let pairs = map named_tree c.args.objects.now in
    let begun : IsBegun pairs c.loop-at.at (Some c.in-Some.family) =
    rw c.in-Some.is at (c.in_ok-found.ensures.begun pairs c.requires.related) in
    family_begun pairs c.loop-at.at c.in-Some.family begun

pub feature_of-requires-clause-root : goal.feature_of-requires-clause-root
feature_of-requires-clause-root g c =
    let pairs = map named_tree c.args.objects.now in
    let begun : IsBegun pairs c.loop-at.at (Some c.in-Some.family) =
    rw c.in-Some.is at (c.in_ok-found.ensures.begun pairs c.requires.related) in
    let family = family_begun pairs c.loop-at.at c.in-Some.family begun in
    omega (arith, family.root_inside, names_long c.args.objects.now)

pub loop-at-preserved : goal.loop-at-preserved
loop-at-preserved g c =
    let pairs = map named_tree c.args.objects.now in
    let within : c.loop-at.at < length pairs =
    omega (arith, as_many_pairs pairs _ _ c.requires.related, c.loop-at-test.true) in
    let begun : IsBegun pairs c.loop-at.at (Some c.in-Some.family) =
    rw c.in-Some.is at (c.in_ok-found.ensures.begun pairs c.requires.related) in
    let made = c.loop-at.invariant.made in
    let feature = feature_value c.in_ok-feature.feature in
    record {
      long = search rules;
      marked = c.in_ok-found.ensures.marked;
      made = (
        made.0 ++ feature ∷ [],
        c.in_ok-keep.ensures.ok made.0 made.1,
        λ points all. features_more pairs (option_map tree (option_copied c.args.appearance)) points c.loop-at.at
            c.in-Some.family made.0 feature begun within (made.2 points all) (c.in_ok-feature.ensures.ok points all),
      );
      bounded = bounded_more _ pairs c.loop-at.at c.in-Some.family begun within c.loop-at.invariant.bounded
          c.in_ok-feature.ensures.bounded;
    }

pub returns-clause-ok : goal.returns-clause-ok
returns-clause-ok g c =
    let pairs = map named_tree c.args.objects.now in
    let made = c.loop-at.invariant.made in
    let past : length pairs ≤ c.loop-at.at =
    omega (arith, as_many_pairs pairs _ _ c.requires.related, c.loop-at-test.false) in (
      made.0,
      made.1,
      λ points vertices. features_all pairs (option_map tree (option_copied c.args.appearance)) points c.loop-at.at
          made.0 past (made.2 points vertices),
    )

pub returns-clause-bounded : goal.returns-clause-bounded
returns-clause-bounded g c =
    let pairs = map named_tree c.args.objects.now in
    let past : length pairs ≤ c.loop-at.at =
    omega (arith, as_many_pairs pairs _ _ c.requires.related, c.loop-at-test.false) in
    bounded_all _ pairs c.loop-at.at past c.loop-at.invariant.bounded
