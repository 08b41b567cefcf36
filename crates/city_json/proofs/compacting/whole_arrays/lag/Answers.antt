use Rattle.city_json.proofs.WholeMasks.{lag_is, shifted_is}
use Rattle.city_json.proofs.compacting.whole_arrays.lag.Goals as goal

pub returns : goal.returns
returns c = λ marks long is. lag_is c.args.first marks c.args.mask _ long is
    (shifted_is c.args.first c.args.mask c.one_if.result c.one_if.ensures.value)
