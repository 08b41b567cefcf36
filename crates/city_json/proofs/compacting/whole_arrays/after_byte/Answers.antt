use Rattle.std.proofs.Common.{◌-◌, ◌+◌, ◌∙◌, ap, sym, arith, get_or, refl}
use Rattle.city_json.specs.Bytes.{comma, open_bracket, close_bracket}
use Rattle.city_json.specs.Whole.{is_place}
use Rattle.city_json.proofs.WholeArrays.{mark_goes, digit_goes, digit_place}
use Rattle.city_json.proofs.compacting.whole_arrays.after_byte.Goals as goal

pub returns-then-is_digit_byte-clause-place : goal.returns-then-is_digit_byte-clause-place
returns-then-is_digit_byte-clause-place c =
    digit_place (get_or c.args.text.now c.args.at 0) (sym c.is_digit_byte.ensures ∙ c.if-is_digit_byte.true)

pub returns-then-is_digit_byte-clause-goes_on : goal.returns-then-is_digit_byte-clause-goes_on
returns-then-is_digit_byte-clause-goes_on c = λ further given.
    let text = c.args.text.now in
    let from = c.args.from in
    digit_goes from.depth from.room (get_or text (c.args.at - 1) 0)
    (get_or text c.args.at 0) from.zeroed c.begins_with_zero.result further (sym c.is_digit_byte.ensures
    ∙ c.if-is_digit_byte.true)
    c.requires.place c.requires.open (sym c.may_not_follow.ensures
    ∙ c.if-may_not_follow.false) c.if-from.false c.begins_with_zero.ensures given

pub returns-then-byte-eq44-clause-place : goal.returns-then-byte-eq44-clause-place
returns-then-byte-eq44-clause-place c = ap is_place c.if-byte-eq44.true

pub returns-then-byte-eq44-clause-goes_on : goal.returns-then-byte-eq44-clause-goes_on
returns-then-byte-eq44-clause-goes_on c = λ further given.
    let text = c.args.text.now in
    let from = c.args.from in
    mark_goes from.depth from.depth from.room from.room (get_or text (c.args.at - 1) 0)
    (get_or text c.args.at 0) comma 0 0 from.zeroed further c.if-byte-eq44.true
    c.requires.place c.requires.open refl (sym c.may_not_follow-then-byte-eq44.ensures
    ∙ c.if-may_not_follow-2.false) refl refl refl refl (omega arith) (omega arith) (omega arith) given

pub returns-then-byte-eq91-clause-place : goal.returns-then-byte-eq91-clause-place
returns-then-byte-eq91-clause-place c = ap is_place c.if-byte-eq91.true

pub returns-then-byte-eq91-clause-goes_on : goal.returns-then-byte-eq91-clause-goes_on
returns-then-byte-eq91-clause-goes_on c = λ further given.
    let text = c.args.text.now in
    let from = c.args.from in
    mark_goes from.depth (from.depth + 1) from.room (from.room - 1) (get_or text (c.args.at - 1) 0)
    (get_or text c.args.at 0) open_bracket 1 0 from.zeroed further c.if-byte-eq91.true
    c.requires.place c.requires.open refl (sym c.may_not_follow-then-byte-eq91.ensures
    ∙ c.if-may_not_follow-3.false) refl refl refl refl (omega (arith, c.if-from-eq0.false)) (omega arith)
    (omega (arith, c.if-from-eq0.false)) given

pub returns-then-byte-eq93-clause-place : goal.returns-then-byte-eq93-clause-place
returns-then-byte-eq93-clause-place c = ap is_place c.if-byte-eq93.true

pub returns-then-byte-eq93-clause-goes_on : goal.returns-then-byte-eq93-clause-goes_on
returns-then-byte-eq93-clause-goes_on c = λ further given.
    let text = c.args.text.now in
    let from = c.args.from in
    mark_goes from.depth (from.depth - 1) from.room (from.room + 1) (get_or text (c.args.at - 1) 0)
    (get_or text c.args.at 0) close_bracket 0 1 from.zeroed further c.if-byte-eq93.true
    c.requires.place c.requires.open refl (sym c.may_not_follow-then-byte-eq93.ensures
    ∙ c.if-may_not_follow-4.false) refl refl refl refl (omega arith) (omega (arith, c.requires.open))
    (omega arith) given
