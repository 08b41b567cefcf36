use Rattle.std.proofs.Common.{drop, subst, sym}
use Rattle.city_json.specs.CompactEnds.{LeavesValue}
use Rattle.city_json.specs.NextItems.{HasNoItem}
use Rattle.city_json.proofs.PassedItems.{no_bytes}
use Rattle.city_json.proofs.item_texts.ItemTexts.next.Goals as goal

pub returns-then-len-eq0-clause-none : goal.returns-then-len-eq0-clause-none
returns-then-len-eq0-clause-none c =
    let rest = c.rest-rest.result.now in
    subst HasNoItem (sym c.rest-rest.ensures)
    (no_bytes rest (subst (λ n. LeavesValue 128 rest (drop n rest)) c.if-len-eq0.true c.value_end-len.ensures.is))
