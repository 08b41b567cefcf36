use Rattle.std.proofs.Common.{subst, sym}
use Rattle.city_json.specs.CompactTexts.{IsCompactOf}
use Rattle.city_feature.specs.Faults.{AreThreeNumbers, BeginsWithNumber}
use Rattle.city_feature.proofs.features.ThreeNumbers.{NoneBegins, are_three, is_or, no_array, not_first, not_more, not_second, not_third}
use Rattle.city_feature.proofs.features.faults.is_three_numbers.Goals as goal

pub returns-in_default-clause-no : goal.returns-in_default-clause-no
returns-in_default-clause-no c = λ value of are. absurd (no_array c.args.text.now c.in_default.ensures.none value of are)

pub returns-then-not-passes_number-clause-no : goal.returns-then-not-passes_number-clause-no
returns-then-not-passes_number-clause-no c = λ value of are.
    let text = c.args.text.now in
    let none : NoneBegins text = subst NoneBegins c.in-Some.ensures.some (c.passes_number.ensures.no c.if-not-passes_number.true) in
    absurd (not_first text none value of are)

pub returns-then-not-passes_number-2-clause-no : goal.returns-then-not-passes_number-2-clause-no
returns-then-not-passes_number-2-clause-no c = λ value of are.
    let text = c.args.text.now in
    let one : BeginsWithNumber text c.passes_number.new.items = subst (λ l. BeginsWithNumber l c.passes_number.new.items)
    c.in-Some.ensures.some (c.passes_number.ensures.yes c.if-not-passes_number.false) in
    absurd (not_second text c.passes_number.new.items one (c.passes_number-2.ensures.no c.if-not-passes_number-2.true)
    value of are)

pub returns-then-not-passes_number-3-clause-no : goal.returns-then-not-passes_number-3-clause-no
returns-then-not-passes_number-3-clause-no c = λ value of are.
    let text = c.args.text.now in
    let one : BeginsWithNumber text c.passes_number.new.items = subst (λ l. BeginsWithNumber l c.passes_number.new.items)
    c.in-Some.ensures.some (c.passes_number.ensures.yes c.if-not-passes_number.false) in
    absurd (not_third text c.passes_number.new.items one c.passes_number-2.new.items
    (c.passes_number-2.ensures.yes c.if-not-passes_number-2.false)
    (c.passes_number-3.ensures.no c.if-not-passes_number-3.true) value of are)

pub returns-clause-yes : goal.returns-clause-yes
returns-clause-yes c = λ over value of.
    let text = c.args.text.now in
    let one : BeginsWithNumber text c.passes_number.new.items = subst (λ l. BeginsWithNumber l c.passes_number.new.items)
    c.in-Some.ensures.some (c.passes_number.ensures.yes c.if-not-passes_number.false) in
    let (items, is) = c.in-Some.ensures.array value of in
    subst AreThreeNumbers (sym is) (are_three text c.passes_number.new.items one c.passes_number-2.new.items
    (c.passes_number-2.ensures.yes c.if-not-passes_number-2.false) c.passes_number-3.new.items
    (c.passes_number-3.ensures.yes c.if-not-passes_number-3.false) (c.is_over.ensures.yes over) items
    (subst (IsCompactOf text) is of))

pub returns-clause-no : goal.returns-clause-no
returns-clause-no c = λ value of are.
    let text = c.args.text.now in
    let one : BeginsWithNumber text c.passes_number.new.items = subst (λ l. BeginsWithNumber l c.passes_number.new.items)
    c.in-Some.ensures.some (c.passes_number.ensures.yes c.if-not-passes_number.false) in
    is_or c.is_over.result (λ not. not_more text c.passes_number.new.items one c.passes_number-2.new.items
    (c.passes_number-2.ensures.yes c.if-not-passes_number-2.false) c.passes_number-3.new.items
    (c.passes_number-3.ensures.yes c.if-not-passes_number-3.false) (c.is_over.ensures.no not) value of are)
