use Rattle.std.proofs.Common.{◌+◌, ◌*◌, ◌%◌, ◌^◌}
use Rattle.city_json.proofs.TripleSums.{ends_apart, next_are}
use Rattle.city_json.proofs.compacting.triples.ends_after.Goals as goal

pub returns-clause-next : goal.returns-clause-next
returns-clause-next c = next_are c.args.marks c.args.numbers c.ranges.numbers.fits c.requires.apart

pub returns-clause-apart : goal.returns-clause-apart
returns-clause-apart c =
    ends_apart ((c.args.marks * 2 % 2 ^ 64 + c.args.numbers) % 2 ^ 64) c.args.numbers c.ranges.numbers.fits
