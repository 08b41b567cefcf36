use Rattle.std.proofs.Common.{◌≡◌, ◌-◌, ◌∙◌, ap, arith, inl, inr}
use Rattle.std.proofs.lemmas.Bool.{cases_lt}
use Rattle.std.specs.Int.{bit_at}
use Rattle.std.specs.Int.Count.{count_leading_zeros, leading_of_zero}
use Rattle.city_json.proofs.TripleSums.{highest}
use Rattle.city_json.proofs.compacting.triples.up_to_last.Goals as goal

pub returns-clause-last : goal.returns-clause-last
returns-clause-last c = λ some. elim (cases_lt 0 c.args.marks) [
  | inl more ↦
      let top = highest c.args.marks more c.ranges.marks.fits in
      let place : (64 - count_leading_zeros 64 c.args.marks) - 1 ≡ top.0 = omega (arith, top.2) in
      ap (bit_at c.args.marks) place ∙ top.3
  | inr none ↦
      let nothing : c.args.marks ≡ 0 = omega arith in
      absurd (omega (arith, some, ap (count_leading_zeros 64) nothing, leading_of_zero 64))
]
