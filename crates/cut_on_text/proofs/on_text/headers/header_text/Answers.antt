use Rattle.std.proofs.Common.{◌∙◌, ap, arith}
use Rattle.city_json.specs.Compact.{compact}
use Rattle.city_json.specs.ObjectTexts.{members_of}
use Rattle.cut_on_text.proofs.TextHeaders.{begun, header_begins, header_ends, header_goes_on, is_header_tree}
use Rattle.cut_on_text.proofs.on_text.headers.header_text.Goals as goal

pub loop-part-init : goal.loop-part-init
loop-part-init c = record {
  some = begun c.new-line.result c.append_text.new.line c.in_ok-append_text.ensures;
  so_far = header_begins c.drops_appearance-drops_appearance.result (members_of c.args.document.now) c.new-line.result
      c.append_text.new.line c.new-line.ensures c.in_ok-append_text.ensures;
}

pub loop-part-preserved : goal.loop-part-preserved
loop-part-preserved c = record {
  some = c.in_ok-append_member.ensures.some;
  so_far = header_goes_on c.text-text.result.now (members_of c.args.document.now) c.parts-part-items.result.now
      c.loop-part.part-index _ c.drops_appearance-drops_appearance.result c.loop-part.line c.append_member.new.line
      c.text-text.ensures.of c.parts-part-items.ensures.are c.loop-part-test.true c.loop-part.invariant.so_far
      c.in_ok-append_member.ensures.written;
}

pub returns : goal.returns
returns c =
    let document = c.args.document.now in
    header_ends c.drops_appearance-drops_appearance.result (members_of document) c.parts-part-items.result.now
    c.loop-part.part-index c.loop-part.line c.append_text-2.new.line c.parts-part-items.ensures.are
    (omega (arith, c.loop-part-test.false)) c.loop-part.invariant.so_far c.in_ok-append_text-2.ensures
    ∙ ap compact (is_header_tree (members_of document) c.drops_appearance-drops_appearance.result
    c.text-text.ensures.of.distinct.0 c.drops_appearance-drops_appearance.ensures)
