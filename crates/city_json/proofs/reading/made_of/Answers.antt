use Rattle.std.proofs.Common.{◌∙◌, sym, refl}
use Rattle.std.proofs.lemmas.Bool.{false≢true}
use Rattle.std.proofs.lemmas.Result.{err_from_is_err_and}
use Rattle.city_json.proofs.Texts.{text_refused, text_read, text_repeats}
use Rattle.city_json.proofs.Told.{tells_distinct}
use Rattle.city_json.proofs.reading.made_of.Goals as goal

pub returns-in_err-value-clause-refused : goal.returns-in_err-value-clause-refused
returns-in_err-value-clause-refused g c =
    let p = err_from_is_err_and c.from_residual.result c.from_residual.ensures.1 in
    rw (p.1, p.2) (text_refused c.in_err-value.field-0.0 c.args.bytes.now (c.if-not-is_utf8.ensures.0 refl)
    (λ deep. false≢true (c.if-is_deep.ensures.1 deep)) c.in_err-value.ensures)

pub returns-then-are_distinct-clause-value : goal.returns-then-are_distinct-clause-value
returns-then-are_distinct-clause-value g c =
    let (value, read, is, told) = c.in_ok-value.ensures in
    let taken = text_read c.args.bytes.now value (c.if-not-is_utf8.ensures.0 refl) read
    ((tells_distinct value).0 (sym told ∙ c.if-are_distinct.true)) in
    (value, is, taken.0, taken.1, λ deep. false≢true (c.if-is_deep.ensures.1 deep))

pub returns-else-are_distinct-clause-refused : goal.returns-else-are_distinct-clause-refused
returns-else-are_distinct-clause-refused g c =
    let (value, read, is, told) = c.in_ok-value.ensures in (
      (c.if-not-is_utf8.ensures.0 refl, λ deep. false≢true (c.if-is_deep.ensures.1 deep)),
      text_repeats c.args.bytes.now value (c.if-not-is_utf8.ensures.0 refl) read
          (λ distinct. false≢true (sym c.if-are_distinct.false ∙ told ∙ (tells_distinct value).1 distinct)),
    )
