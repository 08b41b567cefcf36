use Rattle.std.proofs.Common.{◌∙◌, ◌≤◌, ◌<◌, ◌++◌, [], ◌∷◌, Some, None, ap, map, subst, rules, arith, length}
use Rattle.city_families.specs.Families.{IsBegun}
use Rattle.cut_on_text.specs.FeatureText.{tail_text}
use Rattle.city_families.proofs.FeatureList.{bounded_all, bounded_more, bounded_none, bounded_on, family_begun, features_all, features_more, features_on}
use Rattle.city_families.proofs.Pieces.{ends_noted, with_tail_more}
use Rattle.city_families.proofs.Seeking.{as_many_pairs}
use Rattle.cut_on_text.proofs.on_text.features.feature_texts.Goals as goal

pub loop-at-init : goal.loop-at-init
loop-at-init c = record {
  long = c.in_ok-no_numbers.ensures;
  ends = search rules;
  marked = c.in-Ok.ensures.ok;
  made = λ pairs appearance points stand are rel. ([], search rules, tt, bounded_none _ _);
}

pub loop-at-preserved-in_default-found : goal.loop-at-preserved-in_default-found
loop-at-preserved-in_default-found c = record {
  long = c.loop-at.invariant.long;
  ends = c.loop-at.invariant.ends;
  marked = c.in-Ok-family_at.ensures.marked;
  made = λ pairs appearance points stand are rel.
      let (features, texts, zip, bounded) = c.loop-at.invariant.made pairs appearance points stand are rel in
      let within : c.loop-at.at < length pairs = omega (arith, as_many_pairs pairs _ _ rel, c.loop-at-test.true) in
      let none : IsBegun pairs c.loop-at.at None =
      rw c.in_default-found.is at (c.in-Ok-family_at.ensures.begun pairs rel) in (
        features,
        texts,
        features_on pairs appearance points c.loop-at.at features none within zip,
        bounded_on _ pairs c.loop-at.at none within bounded,
      );
}

pub loop-at-preserved : goal.loop-at-preserved
loop-at-preserved c = record {
  long = c.in_ok-append_feature.ensures.long;
  ends = ends_noted c.loop-at.copier.draft.line c.append_feature.new.copier.draft.line c.loop-at.ends.items
      c.note_end.new.ends.items c.loop-at.invariant.ends
      (subst (λ l. length l ≤ length c.append_feature.new.copier.draft.line) c.items-before.ensures
      c.in_ok-note_end.ensures.onward) c.in_ok-note_end.ensures.noted;
  marked = c.in-Ok-family_at.ensures.marked;
  made = λ pairs appearance points stand are rel.
      let (features, texts, zip, bounded) = c.loop-at.invariant.made pairs appearance points stand are rel in
      let within : c.loop-at.at < length pairs = omega (arith, as_many_pairs pairs _ _ rel, c.loop-at-test.true) in
      let begun : IsBegun pairs c.loop-at.at (Some c.in-Some.family) =
      rw c.in-Some.is at (c.in-Ok-family_at.ensures.begun pairs rel) in
      let (feature, is, grown, inside) = c.in_ok-append_feature.ensures.made pairs appearance points stand are
      (family_begun pairs c.loop-at.at c.in-Some.family begun) in (
        features ++ feature ∷ [],
        with_tail_more c.loop-at.copier.draft.line c.append_feature.new.copier.draft.line (tail_text appearance)
            c.loop-at.ends.items c.note_end.new.ends.items features feature texts c.loop-at.invariant.ends
            c.in_ok-note_end.ensures.noted grown,
        features_more pairs appearance points c.loop-at.at c.in-Some.family features feature begun within zip is,
        bounded_more _ pairs c.loop-at.at c.in-Some.family begun within bounded inside,
      );
}

pub returns : goal.returns
returns c = λ pairs appearance points stand are rel.
    let (features, texts, zip, bounded) = c.loop-at.invariant.made pairs appearance points stand are rel in
    let past : length pairs ≤ c.loop-at.at = omega (arith, as_many_pairs pairs _ _ rel, c.loop-at-test.false) in
    record {
      features = features;
      texts = ap (map (λ own. own ++ tail_text appearance)) c.new.ensures ∙ texts;
      are = features_all pairs appearance points c.loop-at.at features past zip;
      bounded = bounded_all _ pairs c.loop-at.at past bounded;
    }
