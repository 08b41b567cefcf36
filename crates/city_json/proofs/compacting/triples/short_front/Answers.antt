use Rattle.std.proofs.Common.{◌≡◌, ◌+◌, ◌-◌, slice_range, ◌∙◌, sym, subst, arith, length, length-drop, take, drop, take_all}
use Rattle.city_json.proofs.Triples.{front_of_text, no_front}
use Rattle.city_json.specs.TriplesFound.{ClosesTriples, PassesTriples}
use Rattle.city_json.proofs.compacting.triples.short_front.Goals as goal

pub returns-then-front-text-clause-goes_on : goal.returns-then-front-text-clause-goes_on
returns-then-front-text-clause-goes_on c = λ _.
    let at = c.args.at in
    let here : at ≡ at + 0 = omega arith in
    subst (λ k. PassesTriples (slice_range c.args.text.now at k)) here (no_front c.args.text.now at)

pub returns-clause-goes_on : goal.returns-clause-goes_on
returns-clause-goes_on c = λ on.
    let text = c.args.text.now in
    let at = c.args.at in
    let count = length text - at in
    let all : take count (drop at text) ≡ drop at text = take_all count (drop at text) (omega (arith, length-drop at text)) in
    subst PassesTriples
    (front_of_text text c.block_at-block.result at c.front_of-front.result.len count c.if-front-text.false
    (c.block_at-block.ensures ∙ sym all)) (c.front_of-front.ensures.goes_on on)

pub returns-clause-closed : goal.returns-clause-closed
returns-clause-closed c = λ closed.
    let text = c.args.text.now in
    let at = c.args.at in
    let count = length text - at in
    let all : take count (drop at text) ≡ drop at text = take_all count (drop at text) (omega (arith, length-drop at text)) in
    subst ClosesTriples
    (front_of_text text c.block_at-block.result at c.front_of-front.result.len count c.if-front-text.false
    (c.block_at-block.ensures ∙ sym all)) (c.front_of-front.ensures.closed closed)
