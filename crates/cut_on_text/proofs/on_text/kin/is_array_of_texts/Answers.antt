use Rattle.city_json.proofs.PassedItems.{all_left}
use Rattle.cut_on_text.proofs.ArraysOfTexts.{SameTexts, all_texts, array_texts, no_texts, other_item, same_on}
use Rattle.cut_on_text.proofs.on_text.kin.is_array_of_texts.Goals as goal

pub returns-in_default : goal.returns-in_default
returns-in_default c = no_texts c.args.text.now c.in_default.ensures.none

pub texts-init : goal.texts-init
texts-init c = all_left SameTexts c.args.text.now c.in-Some.items c.in-Some.ensures.some (λ all. (λ t. t, λ t. t))

pub returns-in_default-next : goal.returns-in_default-next
returns-in_default-next c = array_texts c.args.text.now _ c.in-Some.ensures.array
    (all_texts c.args.text.now c.texts.items c.texts.invariant c.in_default-next.ensures.none)

pub returns-then-not-is_text : goal.returns-then-not-is_text
returns-then-not-is_text c = array_texts c.args.text.now _ c.in-Some.ensures.array
    (other_item c.args.text.now c.texts.items c.in-Some-next.one.now c.next.new.self c.is_text.result c.texts.invariant
    c.in-Some-next.ensures.some c.is_text.ensures c.if-not-is_text.true)

pub texts-preserved : goal.texts-preserved
texts-preserved c =
    same_on c.args.text.now c.texts.items c.in-Some-next.one.now c.next.new.self c.is_text.result c.texts.invariant
    c.in-Some-next.ensures.some c.is_text.ensures c.if-not-is_text.false
