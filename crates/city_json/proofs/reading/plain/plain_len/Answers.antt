use Rattle.std.proofs.Common.{ap, ◌∙◌, sym, arith}
use lib.Count.{count_trailing_zeros}
use Rattle.city_json.specs.ReadString.{is_plain}
use Rattle.city_json.proofs.PlainRuns.{is_stop, twice}
use Rattle.city_json.proofs.Runs.{run_goes_on, run_stops, run_within}
use Rattle.city_json.proofs.reading.plain.plain_len.Goals as goal

pub returns-then-stops-ne0-clause-value : goal.returns-then-stops-ne0-clause-value
returns-then-stops-ne0-clause-value c =
    let found = c.stops-stops.ensures in
    let run = run_stops is_plain is_stop (λ b. twice (is_plain b)) c.args.bytes.now c.loop-at.at (omega arith) (omega (arith, found))
    ∙ ap (count_trailing_zeros 64) (sym found) in
    omega (arith, run, c.loop-at.invariant.1)

pub returns-then-stops-ne0-clause-within : goal.returns-then-stops-ne0-clause-within
returns-then-stops-ne0-clause-within c =
    let found = c.stops-stops.ensures in
    let run = run_stops is_plain is_stop (λ b. twice (is_plain b)) c.args.bytes.now c.loop-at.at (omega arith) (omega (arith, found))
    ∙ ap (count_trailing_zeros 64) (sym found) in
    omega (arith, run, run_within is_plain c.args.bytes.now c.loop-at.at c.loop-at.invariant.0)

pub loop-at-preserved : goal.loop-at-preserved
loop-at-preserved c =
    let run = run_goes_on is_plain is_stop (λ b. twice (is_plain b)) c.args.bytes.now c.loop-at.at (omega arith) (omega (arith, c.stops-stops.ensures)) in
    (omega arith, omega (arith, run, c.loop-at.invariant.1))
