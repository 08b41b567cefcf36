use Rattle.std.proofs.Common.{◌++◌, ◌+◌, arith, refl, slice_range}
use Rattle.cut_on_text.specs.TripleStarts.{starts_after_closes}
use Rattle.cut_on_text.proofs.TripleStarts.{place_last, place_next}
use Rattle.cut_on_text.proofs.on_text.triples.push_block.Goals as goal

pub closes-preserved : goal.closes-preserved
closes-preserved c =
    let text = c.args.text.now in
    let all = c.args.starts.now.items ++ starts_after_closes c.args.at (slice_range text c.args.at (c.args.at + 64)) in
    let next = place_next text (c.args.at + 64) c.closes.closes c.closes.place c.closes.starts.items all
    c.closes.invariant.place _ c.push_place.new.places.items (omega (arith, c.requires))
    (omega (arith, c.closes.invariant.onward)) c.closes-test.true refl c.in-Ok.ensures in
    record { onward = omega (arith, c.closes.invariant.onward); place = next }

pub returns : goal.returns
returns c =
    let text = c.args.text.now in
    place_last text (c.args.at + 64) c.closes.closes c.closes.place c.closes.starts.items
    (c.args.starts.now.items ++ starts_after_closes c.args.at (slice_range text c.args.at (c.args.at + 64)))
    c.closes.invariant.place c.closes-test.false
