use Rattle.std.proofs.Common.{◌∙◌, sym}
use Rattle.city_json.proofs.SpelledWritable.{read_of_compact}
use Rattle.city_json.specs.ObjectTexts.{members_of, object_of}
use Rattle.city_json.specs.Tree.{tree}
use Rattle.city_families.specs.Cut.{header_tree}
use Rattle.cut_on_text.proofs.TextHeaders.{header_writable}
use Rattle.cut_on_text.proofs.on_text.headers.bare_header.Goals as goal

pub returns : goal.returns
returns c =
    let of = c.known.ensures.is.of in
    sym (read_of_compact c.items.result.now (header_tree (object_of c.args.document.now)) (tree c.in-Ok.json)
    (header_writable (members_of c.args.document.now) of.distinct.0 of.writable)
    (c.items.ensures ∙ c.in_ok-text.ensures) c.in-Ok.ensures.value.0)
