use Rattle.std.proofs.Common.{◌∙◌, refl, sym}
use Rattle.std.proofs.lemmas.List.{take_rest}
use Rattle.city_feature.proofs.features.FirstTypes.{letters_spelled}
use Rattle.city_feature.proofs.features.LineVertices.{not_both}
use Rattle.city_feature.proofs.features.TypeTexts.{no_text, one_of}
use Rattle.city_feature.proofs.features.on_text.types.spells_one_of.Goals as goal

pub returns-then-not-byte_is-clause-ok : goal.returns-then-not-byte_is-clause-ok
returns-then-not-byte_is-clause-ok c = λ value of. (
  λ no. absurd cc,
  λ has. absurd (no_text c.args.text.now value has.0
      (λ inside here. not_both c.byte_is.result c.if-not-byte_is.true (c.byte_is.ensures.1 (inside, here))) of.is has.1),
)

pub returns-in-Some-clause-ok : goal.returns-in-Some-clause-ok
returns-in-Some-clause-ok c = λ value of.
    let name = c.in-Some.name.now in
    let (letters, more, begins) = c.in-Some.ensures in
    let (within, marked) = c.byte_is.ensures.0 c.if-not-byte_is.false in
    one_of c.args.types.now value name name c.is_one_of.result
    (letters_spelled c.args.text.now name more value of.writable of.is within marked letters
    (sym (take_rest c.args.text.now 1) ∙ begins)) refl
    c.is_one_of.ensures
