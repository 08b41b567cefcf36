use Rattle.city_json.proofs.TripleFronts.{opens_apart, up_to_close, up_to_comma}
use Rattle.city_json.proofs.compacting.triples.found_in.Goals as goal

pub ends_of-ends-requires : goal.ends_of-ends-requires
ends_of-ends-requires c =
    let kinds = c.kinds_in-kinds.result in
    let numbers = c.numbers_of-numbers.result in
    record {
      apart = opens_apart c.args.bytes.now c.requires.long kinds.digits kinds.zeros kinds.minuses kinds.commas
          kinds.opens kinds.closes numbers.inner numbers.starts c.kinds_in-kinds.ensures
          c.numbers_of-numbers.ensures.inner c.numbers_of-numbers.ensures.starts;
    }

pub returns-clause-going : goal.returns-clause-going
returns-clause-going c = λ at within has sound.
    let kinds = c.kinds_in-kinds.result in
    let numbers = c.numbers_of-numbers.result in
    let ends = c.ends_of-ends.result in
    up_to_comma c.args.bytes.now c.requires.long kinds.digits kinds.zeros kinds.minuses kinds.commas kinds.opens
    kinds.closes numbers.inner numbers.starts c.kinds_in-kinds.ensures c.numbers_of-numbers.ensures.inner
    c.numbers_of-numbers.ensures.starts ends.first ends.second ends.third c.one_on-after.result c.wrong_ends.result
    c.wrong_numbers.result c.one_on-after.ensures c.ends_of-ends.ensures.first c.ends_of-ends.ensures.second
    c.ends_of-ends.ensures.third c.wrong_ends.ensures c.wrong_numbers.ensures at within sound has

pub returns-clause-closing : goal.returns-clause-closing
returns-clause-closing c = λ at within has sound.
    let kinds = c.kinds_in-kinds.result in
    let numbers = c.numbers_of-numbers.result in
    let ends = c.ends_of-ends.result in
    up_to_close c.args.bytes.now c.requires.long kinds.digits kinds.zeros kinds.minuses kinds.commas kinds.opens
    kinds.closes numbers.inner numbers.starts c.kinds_in-kinds.ensures c.numbers_of-numbers.ensures.inner
    c.numbers_of-numbers.ensures.starts ends.first ends.second ends.third c.one_on-after.result c.wrong_ends.result
    c.wrong_numbers.result c.one_on-after.ensures c.ends_of-ends.ensures.first c.ends_of-ends.ensures.second
    c.ends_of-ends.ensures.third c.wrong_ends.ensures c.wrong_numbers.ensures at within sound has
