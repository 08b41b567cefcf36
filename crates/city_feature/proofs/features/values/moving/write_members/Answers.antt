use Rattle.std.proofs.Common.{◌∙◌, ◌+◌, ap, refl, sym, subst, length, length-set, take, codes, arith}
use Rattle.std.proofs.lemmas.Bool.{false≢true}
use Rattle.std.proofs.lemmas.List.{set-get_or, with_items_is}
use Rattle.city_json.specs.Members.{first_named}
use Rattle.city_json.specs.Tree.{members_tree, named_tree}
use Rattle.city_feature.specs.Changes.{with_named}
use Rattle.city_feature.specs.Feature.{HasItems, vertices_tree}
use Rattle.city_feature.specs.Shapes.{IsThere}
use Rattle.city_feature.proofs.features.InPlace.{named_here, overwritten, passed_on, on_ok}
use Rattle.city_feature.proofs.features.values.moving.write_members.Goals as goal

pub write_member-requires : goal.write_member-requires
write_member-requires c =
    let name = codes "vertices" in
    let count = length c.args.vertices.now in
    let before = c.loop-member.invariant in
    let found = named_here name c.loop-member.member-items c.loop-member.member-index c.member-item.result
    (omega (arith, c.loop-member-test.true, c.loop-member.auto.member-items)) before.1 c.member-item.is
    (ap (λ m. (named_tree m).0) c.member-item.is ∙ c.if-is_named.ensures.0 refl) in
    let there = subst (λ ms. IsThere (HasItems count) (first_named name (members_tree ms))) (sym before.0) c.requires in
    subst (λ m. HasItems count (named_tree m).1) c.member-item.is (subst (IsThere (HasItems count)) found there)

pub returns-then-is_named-clause-ok : goal.returns-then-is_named-clause-ok
returns-then-is_named-clause-ok c =
    let name = codes "vertices" in
    let value = vertices_tree c.args.vertices.now in
    let before = c.loop-member.invariant in
    let items = c.loop-member.member-items in
    let at = c.loop-member.member-index in
    let written = c.write_member.new.member in
    on_ok c.write_member.result (λ same.
    ap members_tree (with_items_is c.args.members.now _ (length-set items at written ∙ ap length before.0
    ∙ sym c.args.members.now.ok.0))
    ∙ overwritten name items at c.member-item.result written value
    (omega (arith, c.loop-member-test.true, c.loop-member.auto.member-items)) before.1 c.member-item.is
    (ap (λ m. (named_tree m).0) c.member-item.is ∙ c.if-is_named.ensures.0 refl) (same
    ∙ ap (λ m. ((named_tree m).0, value)) (sym c.member-item.is))
    ∙ ap (λ ms. with_named name value (members_tree ms)) before.0) c.write_member.ensures.ok

pub loop-member-preserved : goal.loop-member-preserved
loop-member-preserved c =
    let name = codes "vertices" in
    let before = c.loop-member.invariant in
    let items = c.loop-member.member-items in
    let at = c.loop-member.member-index in
    let kept = set-get_or items at c.member-item.result in (
      kept ∙ before.0,
      ap (λ ms. first_named name (members_tree (take (at + 1) ms))) kept
          ∙ passed_on name items at c.member-item.result
          (omega (arith, c.loop-member-test.true, c.loop-member.auto.member-items)) before.1 c.member-item.is
          (λ same. false≢true (c.if-is_named.ensures.1 (sym (ap (λ m. (named_tree m).0) c.member-item.is) ∙ same))),
    )
