use Rattle.std.proofs.Common.{◌∙◌, ap, arith, w64}
use Rattle.std.proofs.lemmas.Nat.Bits.{bit_at-trailing_zeros, bit_at-zero}
use Rattle.std.specs.Int.{bit_at}
use Rattle.std.specs.Int.Count.{count_trailing_zeros}
use Rattle.city_json.proofs.TripleFronts.{goes_on_to_last}
use Rattle.city_json.proofs.compacting.triples.front_of.Goals as goal

pub returns-then-found-eq0-clause-goes_on : goal.returns-then-found-eq0-clause-goes_on
returns-then-found-eq0-clause-goes_on c = λ _.
    let found = c.found_in-found.result in
    goes_on_to_last c.args.bytes.now found.going found.wrong found.going c.up_to_last.result
    c.up_to_last.ensures.within c.found_in-found.ensures.going
    (λ i has. (has, λ j order. ap (λ w. bit_at w j) c.if-found-eq0.true ∙ bit_at-zero j)) c.up_to_last.ensures.last

pub returns-then-closing-ne0-clause-closed : goal.returns-then-closing-ne0-clause-closed
returns-then-closing-ne0-clause-closed c = λ _.
    let closing = c.before_wrong-closing.result in
    let lowest = bit_at-trailing_zeros w64 closing (omega (arith, c.if-closing-ne0.true))
    c.before_wrong-closing.type_inv in
    let sound = c.before_wrong-closing.ensures (count_trailing_zeros 64 closing) lowest.1 in
    c.found_in-found.ensures.closing (count_trailing_zeros 64 closing) lowest.0 sound.0 sound.1

pub returns-clause-goes_on : goal.returns-clause-goes_on
returns-clause-goes_on c = λ _.
    let found = c.found_in-found.result in
    goes_on_to_last c.args.bytes.now found.going found.wrong c.before_wrong.result c.up_to_last-2.result
    c.up_to_last-2.ensures.within c.found_in-found.ensures.going c.before_wrong.ensures c.up_to_last-2.ensures.last
