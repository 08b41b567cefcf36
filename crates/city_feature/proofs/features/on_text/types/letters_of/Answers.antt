use Rattle.std.proofs.Common.{◌+◌, ◌∙◌, ◌++◌, ap, sym, arith, take, drop}
use Rattle.std.proofs.lemmas.List.{take-append-drop}
use Rattle.city_json.proofs.Places.{drop_one}
use Rattle.city_json.specs.Bytes.{quotation_mark}
use Rattle.city_feature.proofs.features.on_text.types.letters_of.Goals as goal

pub returns : goal.returns
returns c =
    let text = c.args.text.now in
    let end = c.letters_len-end.result in (
      c.letters_len-end.ensures.letters,
      drop (end + 1) text,
      sym (take-append-drop end text)
          ∙ ap (λ l. take end text ++ l)
          (drop_one text end quotation_mark (omega (arith, c.if-end-text.false, c.letters_len-end.ensures.within))
          (omega (arith, c.if-text-end-ne34.false))),
    )
