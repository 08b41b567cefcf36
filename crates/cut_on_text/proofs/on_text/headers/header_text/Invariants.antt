use Rattle.cut_on_text.proofs.on_text.headers.header_text.Given as goal
use Rattle.std.proofs.Common.{◌<◌, length}
use Rattle.city_json.specs.ObjectTexts.{members_of}
use Rattle.cut_on_text.proofs.TextHeaders.{IsHeaderSoFar}

abbrev pub invariant-loop-part : goal.invariant-loop-part
invariant-loop-part l = record {
  some : 0 < length l.line;
  so_far : IsHeaderSoFar l.drops_appearance (members_of l.document) l.part-index l.line;
}
