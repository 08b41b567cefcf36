use Rattle.std.proofs.Common.{◌∙◌, ◌++◌, ◌∷◌, [], ap, codes, refl}
use Rattle.city_json.specs.Bytes.{colon}
use Rattle.city_json.specs.ObjectTexts.{members_of}
use Rattle.city_json.specs.Tree.{null}
use Rattle.city_feature.proofs.NamedTexts.{null_text}
use Rattle.city_feature.proofs.LineTexts.{utf8}
use Rattle.city_feature.proofs.features.TypeTexts.{text_or_there}
use Rattle.city_feature.proofs.features.on_text.types.id_and_colon.Goals as goal

pub returns : goal.returns
returns c = λ id says.
    let there = text_or_there (members_of c.args.line.now) (codes "id") id c.value_or.result.now
    (c.value_or.ensures (codes "id") (utf8 (codes "id") refl) refl null null_text) says in (
      there.0,
      c.in_ok-append-2.ensures.ok ∙ ap (λ l. l ++ colon ∷ []) (c.in_ok-append.ensures.ok
          ∙ ap (λ l. l ++ c.value_or.result.now) c.new-name.ensures ∙ there.1),
    )
