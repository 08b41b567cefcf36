use Rattle.std.proofs.Common.{All, subst, sym}
use Rattle.city_grid.specs.Axes.{IsInRange}
use Rattle.city_feature.specs.Feature.{AreVertices}
use Rattle.city_feature.proofs.features.FirstFaults.{are_in_range}
use Rattle.city_feature.proofs.features.faults.told_vertices.Goals as goal

pub returns-clause-spelled : goal.returns-clause-spelled
returns-clause-spelled c =
    let (items, of) = c.requires in
    let (taken, same, are) = c.in_ok-take_vertices.ensures.taken items of in
    (items, of.is, of.writable, subst (AreVertices items) (sym same) are)

pub returns-clause-range : goal.returns-clause-range
returns-clause-range c =
    let (items, of) = c.requires in
    let (taken, same, are) = c.in_ok-take_vertices.ensures.taken items of in
    subst (All IsInRange) (sym same) (are_in_range items taken are)
