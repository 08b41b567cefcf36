use Rattle.city_json.proofs.ItemsGoOn.{triples_and_more}
use Rattle.city_json.proofs.TriplesTaken.{triples_taken}
use Rattle.city_json.proofs.compacting.parts.top_value.Goals as goal

pub returns-then-look-clause-taken : goal.returns-then-look-clause-taken
returns-then-look-clause-taken c =
    triples_taken c.args.levels c.args.draft.now.line c.args.text.now c.args.draft.now.from c.args.at
    c.look_at_triples-look.result.at c.if-levels-gt1.true c.requires.copied c.look_at_triples-look.ensures.onward
    (c.look_at_triples-look.ensures.is c.if-look.true)

pub returns-then-look-at-clause-taken : goal.returns-then-look-at-clause-taken
returns-then-look-at-clause-taken c =
    triples_and_more c.args.levels c.args.draft.now.line c.args.text.now _ _ c.args.draft.now.from c.args.at
    c.look_at_triples-look.result.at c.if-levels-gt1.true c.requires.copied c.look_at_triples-look.ensures.onward
    (c.may_begin_triples.ensures.within c.if-may_begin_triples.true)
    (c.may_begin_triples.ensures.opened c.if-may_begin_triples.true)
    (c.look_at_triples-look.ensures.passed c.if-look.false) c.in_ok-end.ensures.taken
