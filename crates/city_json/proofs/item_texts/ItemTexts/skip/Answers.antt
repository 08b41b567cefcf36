use Rattle.std.proofs.Common.{◌+◌}
use Rattle.city_json.proofs.PassedItems.{at_comma, at_end, at_other, goes_further, passed_on}
use Rattle.city_json.proofs.item_texts.ItemTexts.skip.Goals as goal

pub returns-then-end-self-clause-next : goal.returns-then-end-self-clause-next
returns-then-end-self-clause-next c =
    let text = c.self.inside.text.now in
    passed_on text c.args.self.now _ c.self.inside.at c.args.len c.self.view_is c.requires.some c.requires.within
    c.requires.is (at_end text (c.self.inside.at + c.args.len) c.if-end-self.true)

pub returns-then-self-end-eq44-clause-next : goal.returns-then-self-end-eq44-clause-next
returns-then-self-end-eq44-clause-next c =
    let text = c.self.inside.text.now in
    passed_on text c.args.self.now _ c.self.inside.at c.args.len c.self.view_is c.requires.some c.requires.within
    c.requires.is (at_comma text (c.self.inside.at + c.args.len) (goes_further text c.args.self.now c.self.inside.at
    c.args.len c.self.invariant c.self.view_is c.requires.within c.if-end-self.false) c.if-self-end-eq44.true)

pub returns-else-self-end-eq44-clause-next : goal.returns-else-self-end-eq44-clause-next
returns-else-self-end-eq44-clause-next c =
    let text = c.self.inside.text.now in
    passed_on text c.args.self.now _ c.self.inside.at c.args.len c.self.view_is c.requires.some c.requires.within
    c.requires.is (at_other text (c.self.inside.at + c.args.len) (goes_further text c.args.self.now c.self.inside.at
    c.args.len c.self.invariant c.self.view_is c.requires.within c.if-end-self.false) c.if-self-end-eq44.false)
