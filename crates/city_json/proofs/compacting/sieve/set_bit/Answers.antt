use Rattle.std.proofs.Common.{◌==◌, ◌/◌, ◌%◌, ap, get_or, length}
use Rattle.std.proofs.lemmas.Nat.Bits.{shr_and_one}
use Rattle.city_json.specs.Sieve.{bit_of}
use Rattle.city_json.proofs.Sieving.{bit_is_set, bits_are_kept}
use Rattle.city_json.proofs.compacting.sieve.set_bit.Goals as goal

pub returns-clause-clear : goal.returns-clause-clear
unfolding bit_of
returns-clause-clear c =
    let words = c.args.words.now in
    ap (λ n. n == 0) (shr_and_one (get_or words (c.args.place / 64 % length words) 0) (c.args.place % 64))

pub returns-clause-set : goal.returns-clause-set
returns-clause-set c = bit_is_set c.args.words.now c.args.place c.requires

pub returns-clause-kept : goal.returns-clause-kept
returns-clause-kept c = λ other was. bits_are_kept c.args.words.now c.args.place other c.requires was
