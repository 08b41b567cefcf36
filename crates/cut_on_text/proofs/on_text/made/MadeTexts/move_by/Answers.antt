use Rattle.std.proofs.Common.{◌∙◌, ◌<◌, arith, length, sym, ap, subst}
use Rattle.std.proofs.lemmas.List.{length-map}
use Rattle.std.proofs.lemmas.List.Elements.{recursion_from_All}
use Rattle.std.specs.List.{AllZip}
use Rattle.city_feature.specs.FeatureLine.{SpellsFeature}
use Rattle.cut_on_text.specs.FeatureText.{tail_text}
use Rattle.city_families.specs.HeldTexts.{with_end}
use Rattle.cut_on_text.specs.Moved.{moved_or_same}
use Rattle.cut_on_text.proofs.MovedFeatures.{moved_makings, moved_texts}
use Rattle.cut_on_text.proofs.on_text.made.MadeTexts.move_by.Goals as goal

pub returns-clause-ok : goal.returns-clause-ok
returns-clause-ok c = λ appearance features last spell movable.
    let all = c.self.inside in
    let of = c.self.invariant.document in
    let there = c.in_ok-self-inside.field-0 in
    moved_texts _ of c.args.shift there.text there.starts.items
    (c.in_ok-self-inside.ensures.ok of.points of.stand of.range) appearance last all.roots.items
    (recursion_from_All (λ root. root < length all.graph) all.roots.items c.self.invariant.inside) features
    (subst (λ own. AllZip SpellsFeature (with_end (tail_text appearance) own) features)
    (sym c.self.view_is) spell) movable

pub returns-clause-count : goal.returns-clause-count
returns-clause-count c =
    let all = c.self.inside in
    length-map all.roots.items _ ∙ (sym (length-map all.roots.items _) ∙ ap length c.self.view_is)

pub invariant_of-self : goal.invariant_of-self
invariant_of-self c =
    let all = c.self.inside in
    let of = c.self.invariant.document in
    let there = c.in_ok-self-inside.field-0 in
    let stand = c.in_ok-self-inside.ensures.ok of.points of.stand of.range in
    record {
      places = c.self.invariant.places;
      within = c.self.invariant.within;
      inside = c.self.invariant.inside;
      leaves = c.self.invariant.leaves;
      objects = c.self.invariant.objects;
      vertices = omega (
        arith,
        c.self.invariant.vertices,
        of.stand.long,
        stand.long,
        length-map of.points (moved_or_same c.args.shift),
      );
      document = moved_makings _ of c.args.shift there.text there.starts.items stand;
    }
