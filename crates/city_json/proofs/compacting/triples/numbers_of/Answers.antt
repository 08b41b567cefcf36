use Rattle.std.proofs.Common.{◌∙◌, ap, bit_and, max}
use Rattle.std.proofs.lemmas.Nat.Bits.{bit_at_and, bit_at_or}
use Rattle.std.specs.Int.{bit_at}
use Rattle.city_json.proofs.compacting.triples.numbers_of.Goals as goal

pub returns-clause-inner : goal.returns-clause-inner
returns-clause-inner c = λ i.
    let kinds = c.args.kinds in
    bit_at_or kinds.digits (bit_and kinds.minuses c.one_on-starts.result) i
    ∙ ap (max (bit_at kinds.digits i)) (bit_at_and kinds.minuses c.one_on-starts.result i)
