use Rattle.cut_on_text.proofs.on_text.cut_known.Goals as goal

pub returns-in-Some-clause-cut : goal.returns-in-Some-clause-cut
returns-in-Some-clause-cut c =
    let (cuttable, own, features, cut, texts) = c.in-Some.ensures in
    (cuttable, features, cut, texts)

pub returns-in-Some-clause-own : goal.returns-in-Some-clause-own
returns-in-Some-clause-own c = c.in-Some.ensures.1
