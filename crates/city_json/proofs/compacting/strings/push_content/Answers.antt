use Rattle.std.proofs.Common.{◌∙◌, ◌++◌, [], ◌∷◌, ap, sym}
use Rattle.city_json.specs.ListedNames.{as_decoded}
use Rattle.city_json.proofs.PassEscapes.{plainly_written}
use Rattle.city_json.proofs.Options.{if_some_more}
use Rattle.city_json.proofs.compacting.strings.push_content.Goals as goal

pub returns-then-plain_len-line : goal.returns-then-plain_len-line
returns-then-plain_len-line c = if_some_more c.push_held.result (λ _ pushed content rest read is. pushed
    ∙ ap (λ l. c.args.names.now ++ as_decoded l ∷ []) (sym (plainly_written content c.args.line.now is
    (sym c.plain_len.ensures.value ∙ c.if-plain_len-line.true)))) c.push_held.ensures
