use Rattle.std.specs.Fmt.{decimal}
use Rattle.std.proofs.Common.{arith, map}
use Rattle.cut_on_text.specs.Made.{listed, place_in}
use Rattle.cut_on_text.specs.Skeletons.{skeleton_text_at}
use Rattle.cut_on_text.proofs.Writing.{listed_all, listed_more, none_yet}
use Rattle.cut_on_text.proofs.on_text.made.write_objects.Goals as goal

pub loop-place-init : goal.loop-place-init
loop-place-init g c = none_yet g.W.Sink.taken g.W.Sink.failures c.args.output.now c.args.wrote.now
    (listed (map (skeleton_text_at c.args.skeletons.now (λ vertex. decimal (place_in c.args.order.now.order vertex)))
    c.args.places.now))

pub loop-place-preserved : goal.loop-place-preserved
loop-place-preserved g c = listed_more g.W.Sink.taken g.W.Sink.failures
    (skeleton_text_at c.args.skeletons.now (λ vertex. decimal (place_in c.args.order.now.order vertex))) c.args.places.now
    c.loop-place.place c.args.output.now c.args.wrote.now c.loop-place.output c.loop-place.wrote
    c.loop-place.invariant c.loop-place-test.true c.write_comma.new.output c.write_comma.new.wrote
    c.write_object.new.output c.write_object.new.wrote c.write_comma.ensures c.write_object.ensures

pub returns : goal.returns
returns g c = listed_all g.W.Sink.taken g.W.Sink.failures
    (skeleton_text_at c.args.skeletons.now (λ vertex. decimal (place_in c.args.order.now.order vertex))) c.args.places.now
    c.loop-place.place c.args.output.now c.args.wrote.now c.loop-place.output c.loop-place.wrote
    c.loop-place.invariant (omega (arith, c.loop-place-test.false))
