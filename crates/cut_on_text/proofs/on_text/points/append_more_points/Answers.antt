use Rattle.std.proofs.Common.{◌≡◌, ◌++◌, subst, take_all, map}
use Rattle.city_json.specs.Compact.{compact_more_items}
use Rattle.city_families.specs.Chosen.{point_at}
use Rattle.cut_on_text.proofs.TextPoints.{points_more, points_none, trees_of}
use Rattle.cut_on_text.proofs.on_text.points.append_more_points.Goals as goal

pub loop-number-init : goal.loop-number-init
loop-number-init c = λ points stand. points_none points c.args.line.now

pub loop-number-preserved : goal.loop-number-preserved
loop-number-preserved c = λ points stand. points_more _ _ _ _ points c.args.numbers.now c.loop-number.number-index
    c.loop-number-test.true (c.loop-number.invariant points stand) c.in_ok-append_text.ensures
    (c.in_ok-append_point.ensures points stand)

pub returns : goal.returns
returns c = λ points stand. subst (λ l. c.loop-number.line ≡ c.args.line.now
    ++ compact_more_items (trees_of (map (point_at points) l)))
    (take_all c.loop-number.number-index c.args.numbers.now c.loop-number-test.false)
    (c.loop-number.invariant points stand)
