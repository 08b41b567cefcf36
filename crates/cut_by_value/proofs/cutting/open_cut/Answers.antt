use Rattle.cut_by_value.proofs.cutting.open_cut.Goals as goal

pub returns-clause-ok : goal.returns-clause-ok
returns-clause-ok c =
    let (features, kept, has) = c.in_ok-keep_document.ensures.ok in
    (features, (has, c.in_ok-header.ensures.ok.0, c.in_ok-header.ensures.ok.1), kept.0, kept.1)
