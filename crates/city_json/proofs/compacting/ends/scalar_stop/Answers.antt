use Rattle.std.proofs.Common.{◌∙◌, ap}
use Rattle.std.specs.List.{prefix_len}
use Rattle.city_json.specs.CompactEnds.{goes_on}
use Rattle.city_json.proofs.PassScalars.{rest_is}
use Rattle.city_json.proofs.ScalarRuns.{run_left}
use Rattle.city_json.proofs.compacting.ends.scalar_stop.Goals as goal

pub returns-clause-is : goal.returns-clause-is
returns-clause-is c = λ run rest all stopped is.
    run_left c.args.text.now run rest c.args.at c.run_len.result
    (c.run_len.ensures.value ∙ ap (prefix_len goes_on) (rest_is c.args.text.now c.args.at)) all stopped is
