use Rattle.std.proofs.Common.{◌<◌, ◌^◌, inl, length, rules}
use Rattle.std.proofs.lemmas.Result.{err_from_is_err_and}
use Rattle.city_json.specs.ObjectTexts.{object_of}
use Rattle.city_json.specs.Tree.{tree}
use Rattle.city_families.specs.HeldTexts.{texts_in}
use Rattle.cut_on_text.specs.declared.cuts.CutTexts.{CutTexts}
use Rattle.city_feature.specs.Values.{header_value}
use Rattle.city_cut.proofs.AnsweredCuts.{again_given, again_own, again_refused, known_refused}
use Rattle.city_cut.proofs.answering.cut_text.Goals as goal

pub returns-in-Some-clause-ok : goal.returns-in-Some-clause-ok
returns-in-Some-clause-ok c = c.in-Some.ensures.cut

pub returns-in-Some-clause-refused : goal.returns-in-Some-clause-refused
returns-in-Some-clause-refused c = known_refused (object_of c.args.document.now) c.in-Some.told c.in-Some.ensures.refused

pub read_again-requires : goal.read_again-requires
read_again-requires c = (object_of c.args.document.now, c.text-text.ensures.of)

pub returns-in_err-value-clause-refused : goal.returns-in_err-value-clause-refused
returns-in_err-value-clause-refused c =
    let p = err_from_is_err_and c.from_residual.result c.from_residual.ensures.1 in
    rw (p.1, p.2) (inl c.in_err-value.ensures.fault)

pub returns-clause-ok : goal.returns-clause-ok
returns-clause-ok c =
    let document = object_of c.args.document.now in
    again_given (tree c.in_ok-value.value) document (c.in_ok-value.ensures.value document c.text-text.ensures.of)
    c.cut_texts.result (λ (cut : CutTexts). header_value cut.header) (λ (cut : CutTexts). texts_in cut.texts)
    c.cut_texts.ensures.ok c.cut_texts.ensures.cuttable

pub returns-clause-own : goal.returns-clause-own
returns-clause-own c =
    let short : length c.text-text.result.now < 2 ^ 64 = search rules in
    let document = object_of c.args.document.now in
    again_own (tree c.in_ok-value.value) document (c.in_ok-value.ensures.value document c.text-text.ensures.of)
    c.text-text.result.now c.text-text.ensures.of short c.cut_texts.result
    (λ (cut : CutTexts). header_value cut.header) (λ (cut : CutTexts). cut.texts) c.cut_texts.ensures.ok
    c.cut_texts.ensures.ends

pub returns-clause-refused : goal.returns-clause-refused
returns-clause-refused c =
    let document = object_of c.args.document.now in
    again_refused (tree c.in_ok-value.value) document (c.in_ok-value.ensures.value document c.text-text.ensures.of)
    c.cut_texts.result c.cut_texts.ensures.refusal
