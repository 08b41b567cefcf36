use Rattle.std.proofs.Common.{◌*◌, ◌%◌, ◌^◌, bit_and, refl}
use Rattle.city_json.proofs.TripleSums.{runs_end}
use Rattle.city_json.proofs.compacting.triples.long_runs.Goals as goal

pub returns : goal.returns
returns c =
    let digits = c.args.digits in
    let two = bit_and digits (digits * 2 % 2 ^ 64) in
    let four = bit_and two (two * 4 % 2 ^ 64) in
    runs_end digits two four (bit_and four (four * 16 % 2 ^ 64)) refl refl refl
