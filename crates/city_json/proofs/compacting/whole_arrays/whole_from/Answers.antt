use Rattle.std.proofs.Common.{◌≡◌, ◌-◌, arith, subst, get_or, false, slice_range}
use Rattle.city_json.specs.Bytes.{open_bracket}
use Rattle.city_json.specs.Whole.{Closes, stage_of}
use Rattle.city_json.proofs.Options.{if_some_more}
use Rattle.city_json.proofs.WholeArrays.{whole_items}
use Rattle.city_json.proofs.compacting.whole_arrays.whole_from.Goals as goal

pub returns-clause-is : goal.returns-clause-is
returns-clause-is c =
    let text = c.args.text.now in
    let at = c.args.at in
    let opened : get_or text (at - 1) 0 ≡ open_bracket = omega arith in
    if_some_more c.whole_end.result
    (λ end closes. whole_items text at end c.args.levels
    (subst (λ p. Closes 1 c.args.levels (stage_of p false) (slice_range text at end)) opened closes))
    c.whole_end.ensures.closes
