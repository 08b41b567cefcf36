use Rattle.std.proofs.Common.{◌≡◌, ◌-◌, arith, subst, get_or, false, slice_range}
use Rattle.city_json.specs.Bytes.{comma}
use Rattle.city_json.specs.Whole.{Closes, stage_of}
use Rattle.city_json.proofs.Options.{if_some_more}
use Rattle.city_json.proofs.compacting.whole_arrays.whole_after_comma.Goals as goal

pub returns-clause-closes : goal.returns-clause-closes
returns-clause-closes c =
    let text = c.args.text.now in
    let at = c.args.at in
    let before : get_or text (at - 1) 0 ≡ comma = omega arith in
    if_some_more c.whole_end.result
    (λ end. subst (λ p. Closes 1 c.args.levels (stage_of p false) (slice_range text at end)) before)
    c.whole_end.ensures.closes
