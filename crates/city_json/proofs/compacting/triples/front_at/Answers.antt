use Rattle.std.proofs.Common.{◌≡◌, ◌-◌, ◌+◌, ◌∙◌, ap, subst, arith, take, drop, slice_range}
use Rattle.city_json.proofs.Triples.{front_of_text}
use Rattle.std.proofs.lemmas.List.{take-take}
use Rattle.city_json.specs.TriplesFound.{ClosesTriples, PassesTriples}
use Rattle.city_json.proofs.compacting.triples.front_at.Goals as goal

pub returns-clause-goes_on : goal.returns-clause-goes_on
returns-clause-goes_on c = λ on.
    let text = c.args.text.now in
    let at = c.args.at in
    let count : (at + 64) - at ≡ 64 = omega arith in
    let block = slice_range text at (at + 64) in
    subst PassesTriples
    (front_of_text text block at c.front_of.result.len 64 c.front_of.ensures.within
    (ap (λ n. take 64 (take n (drop at text))) count ∙ take-take 64 64 (drop at text) (omega arith)))
    (c.front_of.ensures.goes_on on)

pub returns-clause-closed : goal.returns-clause-closed
returns-clause-closed c = λ closed.
    let text = c.args.text.now in
    let at = c.args.at in
    let count : (at + 64) - at ≡ 64 = omega arith in
    let block = slice_range text at (at + 64) in
    subst ClosesTriples
    (front_of_text text block at c.front_of.result.len 64 c.front_of.ensures.within
    (ap (λ n. take 64 (take n (drop at text))) count ∙ take-take 64 64 (drop at text) (omega arith)))
    (c.front_of.ensures.closed closed)
