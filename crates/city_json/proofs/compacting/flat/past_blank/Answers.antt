use Rattle.std.proofs.Common.{◌≡◌, ◌<◌, length, get_or, arith}
use Rattle.city_json.specs.Bytes.{space}
use Rattle.city_json.proofs.PassItems.{blank_more}
use Rattle.city_json.proofs.compacting.flat.past_blank.Goals as goal

pub returns-clause-goes_on : goal.returns-clause-goes_on
returns-clause-goes_on c =
    let text = c.args.text.now in
    let now = c.args.draft.now in
    let draft = c.copy_to.new.draft in
    let inside : c.args.at < length text = omega (arith, c.requires.within, c.if-at-text.false) in
    let blank : get_or text c.args.at 0 ≡ space = omega (arith, c.if-text-at-ne32.false) in
    λ levels rest after from. blank_more levels text now.line draft.line rest after now.from draft.from c.args.at inside
    blank c.in_ok-copy_to.ensures.line c.in_ok-copy_to.ensures.from from
