use Rattle.std.proofs.Common.{◌∙◌, sym, subst}
use Rattle.city_grid.specs.Axes.{IsInRange}
use Rattle.cut_on_text.proofs.MovedFeatures.{moved_within, same_outside}
use Rattle.cut_on_text.proofs.on_text.moving.move_vertex.Goals as goal

pub returns-in-Ok : goal.returns-in-Ok
returns-in-Ok c =
    c.in-Ok.ensures.ok
    ∙ sym (moved_within c.args.shift c.args.vertex (subst IsInRange c.in-Ok.ensures.ok c.in-Ok.ensures.range))

pub returns-in-Err : goal.returns-in-Err
returns-in-Err c = sym (same_outside c.args.shift c.args.vertex c.in-Err.ensures.refusal.1)
