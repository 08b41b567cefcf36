use Rattle.std.proofs.Common.{◌≡◌, ◌<◌, ◌^◌, arith, length, subst}
use Rattle.cut_on_text.specs.Made.{Makings}
use Rattle.cut_on_text.specs.Skeletons.{AreSkeletons}
use Rattle.cut_on_text.proofs.MadeFeatures.{made_own}
use Rattle.cut_on_text.proofs.TextMembers.{if_some_more}
use Rattle.cut_on_text.proofs.on_text.made_texts.Goals as goal

pub new-requires-clause-document : goal.new-requires-clause-document
new-requires-clause-document c =
    let (pairs, are, rel) = c.requires.objects in
    let (points, stand, range) = c.requires.vertices in
    let count : c.saturating_sub-count.result ≡ length points =
    omega (arith, stand.long, c.len.ensures, c.saturating_sub-count.ensures) in
    record {
      pairs = pairs;
      points = points;
      skeletons = subst (λ n. AreSkeletons n c.in_ok-skeletons.skeletons pairs) count
          (c.in_ok-skeletons.ensures.made pairs are);
      stand = stand;
      few = omega (arith, stand.long, c.args.vertices.now.starts.small);
      range = range;
      writable = are.0.writable;
      distinct = are.0.distinct;
      linked = rel.linked;
    }

pub returns : goal.returns
returns c = if_some_more c.new.result (λ own is pairs appearance points stand are rel.
    let makings : Makings = record {
      skeletons = c.in_ok-skeletons.skeletons;
      vertices = c.args.vertices.now.text.now;
      starts = c.args.vertices.now.starts.items;
      graph = c.args.kin.children;
    } in
    let count : c.saturating_sub-count.result ≡ length points =
    omega (arith, stand.long, c.len.ensures, c.saturating_sub-count.ensures) in
    let small : length points < 2 ^ 64 = omega (arith, stand.long, c.args.vertices.now.starts.small) in
    made_own pairs appearance points makings c.args.kin.parents.items
    (subst (λ n. AreSkeletons n c.in_ok-skeletons.skeletons pairs) count (c.in_ok-skeletons.ensures.made pairs are))
    stand rel small own is) c.new.ensures
