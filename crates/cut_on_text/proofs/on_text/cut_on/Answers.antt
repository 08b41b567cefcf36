use Rattle.std.proofs.Common.{◌∙◌, inl, refl, codes}
use Rattle.city_json.specs.Members.{first_named}
use Rattle.city_json.specs.ObjectTexts.{members_of, object_of}
use Rattle.city_json.specs.Tree.{tree}
use Rattle.city_feature.specs.Values.{header_value}
use Rattle.cut_on_text.proofs.MovedFeatures.{last_writable}
use Rattle.cut_on_text.proofs.SpelledFeatures.{own_of}
use Rattle.cut_on_text.proofs.TextDocuments.{whole}
use Rattle.cut_on_text.proofs.on_text.cut_on.Goals as goal

pub texts_on-requires-clause-objects : goal.texts_on-requires-clause-objects
texts_on-requires-clause-objects c = (
  _,
  c.objects_text-objects.ensures,
)

pub texts_on-requires-clause-tail : goal.texts_on-requires-clause-tail
texts_on-requires-clause-tail c =
    let members = members_of c.args.document.now in
    (first_named (codes "appearance") members, last_writable members c.known.ensures.is.of.writable, c.in_ok-tail.ensures)

pub returns : goal.returns
returns c = λ points has stand.
    let document = object_of c.args.document.now in
    let of = c.known.ensures.is.of in
    let there = c.objects_text-objects.ensures in
    let appearance = first_named (codes "appearance") (members_of c.args.document.now) in
    let (objects, is, city, lacks, belong, features, texts, made, bounded) =
    c.in_ok-texts.ensures.texts _ appearance points there stand c.in_ok-tail.ensures in
    let (items, vertices, are_vertices) = has in
    let all = whole document (tree c.in_ok-header.header.json) c.in_ok-header.header.grid objects items points
    appearance features of.distinct c.in_ok-header.ensures is vertices refl city are_vertices lacks belong made
    bounded in
    let own = own_of c.args.document.now.text document of c.known.ensures.short
    (header_value c.in_ok-header.header) features c.in_ok-texts.texts all.1 texts
    (inl (c.in_ok-texts.ensures.common ∙ c.in_ok-tail.ensures)) in
    (all.0, own, features, all.1, texts)
