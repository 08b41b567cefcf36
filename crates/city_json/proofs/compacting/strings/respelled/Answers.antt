use Rattle.std.proofs.Common.{◌≡◌, ◌∙◌, ◌≤◌, ◌<◌, ◌+◌, length, drop, get_or, arith}
use Rattle.city_json.specs.Bytes.{quotation_mark, backslash}
use Rattle.city_json.specs.Compacting.{shown}
use Rattle.city_json.proofs.PassEscapes.{piece_more, pieces_end, plain_run, run_within}
use Rattle.city_json.proofs.compacting.strings.respelled.Goals as goal

pub returns-then-text-stop-eq34-clause-taken : goal.returns-then-text-stop-eq34-clause-taken
returns-then-text-stop-eq34-clause-taken c =
    let text = c.args.text.now in
    let now = c.pieces.draft in
    let stop = c.pieces.i + c.plain_len.result in
    let inside : stop ≤ length text =
    run_within text c.pieces.i c.plain_len.result c.pieces.invariant.within c.plain_len.ensures.within in
    let further : stop < length text = omega (arith, c.if-stop-text.false, inside) in
    let closes : get_or text stop 0 ≡ quotation_mark = omega (arith, c.if-text-stop-eq34.true) in
    let run = plain_run text c.pieces.i c.plain_len.result c.plain_len.ensures.value in
    pieces_end text c.args.draft.now.line now.line c.args.draft.now.from now.from c.args.at c.pieces.i stop
    c.requires.utf8 c.requires.copied c.requires.within c.requires.opened c.pieces.invariant.copied
    (omega arith) further closes run c.pieces.invariant.taken

pub pieces-preserved : goal.pieces-preserved
pieces-preserved c =
    let text = c.args.text.now in
    let now = c.pieces.draft in
    let stop = c.pieces.i + c.plain_len.result in
    let inside : stop ≤ length text =
    run_within text c.pieces.i c.plain_len.result c.pieces.invariant.within c.plain_len.ensures.within in
    let further : stop < length text = omega (arith, c.if-stop-text.false, inside) in
    let escapes : get_or text stop 0 ≡ backslash = omega (arith, c.if-text-stop-ne92.false) in
    let run = plain_run text c.pieces.i c.plain_len.result c.plain_len.ensures.value in
    let begun : c.args.at < c.pieces.i = c.pieces.invariant.onward in
    let onward : stop < c.in_ok-i.i = c.in_ok-i.ensures.onward in
    record {
      onward = omega (arith, begun, onward);
      within = c.in_ok-i.ensures.within;
      copied = c.in_ok-i.ensures.copied;
      names = c.in_ok-i.ensures.names ∙ c.pieces.invariant.names;
      taken = piece_more (drop (c.args.at + 1) text) text now.line
          (shown c.args.draft.now.line text c.args.draft.now.from (c.args.at + 1)) _ now.from c.pieces.i stop
          c.in_ok-i.i c.pieces.invariant.copied
          (omega arith) further escapes run c.pieces.invariant.taken c.in_ok-i.ensures.taken;
    }
