use Rattle.std.proofs.Common.{ap, ◌∙◌, sym, refl, arith}
use lib.Count.{count_trailing_zeros}
use Rattle.city_json.specs.CompactEnds.{goes_on, is_stop}
use Rattle.city_json.proofs.Runs.{run_goes_on, run_stops, run_within}
use Rattle.city_json.proofs.compacting.runs.run_len.Goals as goal

pub returns-then-stops-ne0-clause-value : goal.returns-then-stops-ne0-clause-value
returns-then-stops-ne0-clause-value c =
    let found = c.run_stops-stops.ensures in
    let run = run_stops goes_on is_stop (λ b. refl) c.args.bytes.now c.loop-at.at (omega arith) (omega (arith, found))
    ∙ ap (count_trailing_zeros 64) (sym found) in
    omega (arith, run, c.loop-at.invariant.1)

pub returns-then-stops-ne0-clause-within : goal.returns-then-stops-ne0-clause-within
returns-then-stops-ne0-clause-within c =
    let found = c.run_stops-stops.ensures in
    let run = run_stops goes_on is_stop (λ b. refl) c.args.bytes.now c.loop-at.at (omega arith) (omega (arith, found))
    ∙ ap (count_trailing_zeros 64) (sym found) in
    omega (arith, run, run_within goes_on c.args.bytes.now c.loop-at.at c.loop-at.invariant.0)

pub loop-at-preserved : goal.loop-at-preserved
loop-at-preserved c =
    let run = run_goes_on goes_on is_stop (λ b. refl) c.args.bytes.now c.loop-at.at (omega arith) (omega (arith, c.run_stops-stops.ensures)) in
    (omega arith, omega (arith, run, c.loop-at.invariant.1))
