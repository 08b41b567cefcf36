use Rattle.std.proofs.Common.{rules, ◌≡◌, ◌<◌, ◌∙◌, length, sym, ap, subst, arith}
use Rattle.std.specs.List.{All}
use Rattle.cut_on_text.specs.Made.{beginners}
use Rattle.cut_on_text.specs.Rosters.{RosterState}
use Rattle.cut_on_text.specs.Skeletons.{SkeletonTexts}
use Rattle.cut_on_text.proofs.Passes.{beginners_within}
use Rattle.cut_on_text.proofs.on_text.made.MadeTexts.new.Goals as goal

pub invariant_of-result : goal.invariant_of-result
invariant_of-result c =
    let parents = c.args.kin.parents.items in
    let roots : c.in_ok-beginners_of.field-0.items ≡ beginners parents =
    c.in_ok-beginners_of.ensures ∙ ap beginners c.deref.ensures.value in
    let objects : c.len.result ≡ length c.args.kin.children = search rules in
    let starts : c.len-2.result ≡ length c.args.vertices.now.starts.items = search rules in
    let count : c.in_ok-order.order.count ≡ c.saturating_sub.result =
    ap (λ (s : RosterState). s.count) c.in_ok-order.ensures in
    record {
      places = ap (λ (s : SkeletonTexts). length s.places) c.skeletons.view_is ∙ c.requires.places;
      within = c.requires.graph;
      inside = subst (All (λ root. root < length c.args.kin.children)) (sym roots)
          (λ k d below. omega (arith, beginners_within parents k d below, c.requires.parents));
      leaves = subst (λ (s : SkeletonTexts). All (λ leaf. leaf.vertex < c.in_ok-order.order.count) s.leaves)
          (sym c.skeletons.view_is)
          (λ k d below. omega (arith, c.requires.leaves k d below, count, starts, c.saturating_sub.ensures));
      objects = ap (λ (s : RosterState). s.count) c.in_ok-family.ensures ∙ objects;
      vertices = omega (arith, count, starts, c.saturating_sub.ensures, ap length c.in_ok-copied.ensures.starts);
      document = rw (c.skeletons.view_is, c.in_ok-copied.ensures.text, c.in_ok-copied.ensures.starts)
          c.requires.document;
    }
