use Rattle.std.proofs.Common.{subst, sym}
use Rattle.cut_on_text.proofs.CityShapes.{IsListed, all_hold, checked_more, one_is_none, other_holds}
use Rattle.cut_on_text.proofs.on_text.faults.are_city_objects.Goals as goal

pub returns-then-not-is_object : goal.returns-then-not-is_object
returns-then-not-is_object c = other_holds c.args.text.now c.is_object.result c.is_object.ensures
    c.if-not-is_object.true

pub returns-then-not-is_one : goal.returns-then-not-is_one
returns-then-not-is_one c = one_is_none c.args.text.now c.in_ok-value.value.now c.deref-part-items.result.now
    c.loop-part.part-index c.in_ok-is_one.is_one
    (subst (IsListed c.args.text.now) (sym c.deref-part-items.ensures.value) c.in_ok-parts.ensures)
    (record { part = _; within = c.loop-part-test.true; lies = c.in_ok-value.ensures.some }) c.in_ok-is_one.ensures
    c.if-not-is_one.true

pub loop-part-preserved : goal.loop-part-preserved
loop-part-preserved c = checked_more c.args.text.now c.in_ok-value.value.now c.deref-part-items.result.now
    c.loop-part.part-index c.in_ok-is_one.is_one c.loop-part.invariant
    (record { part = _; within = c.loop-part-test.true; lies = c.in_ok-value.ensures.some }) c.in_ok-is_one.ensures
    c.if-not-is_one.false

pub returns : goal.returns
returns c = all_hold c.args.text.now c.deref-part-items.result.now c.loop-part.part-index
    (subst (IsListed c.args.text.now) (sym c.deref-part-items.ensures.value) c.in_ok-parts.ensures)
    c.loop-part.invariant c.loop-part-test.false
