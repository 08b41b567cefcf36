use Rattle.cut_on_text.proofs.TextNames.{texts_begin, texts_go_on, texts_stop}
use Rattle.cut_on_text.proofs.on_text.kin.texts_of.Goals as goal

pub texts-init : goal.texts-init
texts-init c = texts_begin c.args.text.now c.in_ok-items.items c.new-found.result.items c.new-found.ensures.items
    c.in_ok-items.ensures.some

pub returns-in_default : goal.returns-in_default
returns-in_default c = texts_stop c.args.text.now c.texts.items c.texts.found.items c.texts.invariant
    c.in_default.ensures.none c.in_ok-items.ensures.array

pub texts-preserved : goal.texts-preserved
texts-preserved c =
    texts_go_on c.args.text.now c.texts.items c.next.new.self c.texts.found.items c.push.new.to.items c.in-Some.one
    c.is_text.result c.texts.invariant c.in-Some.ensures.some c.is_text.ensures c.if-not-is_text.false c.in_ok-push.ensures
