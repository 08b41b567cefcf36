use Rattle.std.proofs.Common.{◌∙◌, ◌++◌, ap, sym, length}
use Rattle.std.proofs.lemmas.List.{take_rest}
use Rattle.city_json.proofs.Scanning.{starts_with-splits}
use Rattle.city_feature.proofs.features.on_text.types.after_front.Goals as goal

pub returns-then-starts_with : goal.returns-then-starts_with
returns-then-starts_with c =
    let text = c.args.text.now in
    let front = c.args.front.now in
    starts_with-splits text front (sym c.starts_with.ensures.value ∙ c.if-starts_with.true)
    ∙ ap (λ l. front ++ l) (sym (take_rest text (length front)))
