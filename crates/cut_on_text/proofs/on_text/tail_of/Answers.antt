use Rattle.std.proofs.Common.{refl, codes}
use Rattle.city_json.specs.Members.{first_named}
use Rattle.city_json.specs.ObjectTexts.{members_of}
use Rattle.city_feature.proofs.LineTexts.{utf8}
use Rattle.cut_on_text.proofs.TextDocuments.{tail_none, tail_there}
use Rattle.cut_on_text.proofs.on_text.tail_of.Goals as goal

pub returns-in_default : goal.returns-in_default
returns-in_default c = tail_none _ c.new-tail.result c.append_text.new.line (c.in_default.ensures.none (codes "appearance") refl)
    c.new-tail.ensures c.in_ok-append_text.ensures

pub returns : goal.returns
returns c =
    let (value, is, of) = c.in-Some.ensures.some (codes "appearance") (utf8 (codes "appearance") refl) refl in
    tail_there c.in-Some.appearance.now (first_named (codes "appearance") (members_of c.args.document.now)) value
    c.new-tail.result c.append_text-2.new.line c.append_text-3.new.line c.append_text-4.new.line is of c.new-tail.ensures
    c.in_ok-append_text-2.ensures c.in_ok-append_text-3.ensures c.in_ok-append_text-4.ensures
