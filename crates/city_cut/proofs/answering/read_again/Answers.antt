use Rattle.city_cut.proofs.AnsweredCuts.{read_fault, read_value}
use Rattle.city_cut.proofs.answering.read_again.Goals as goal

pub returns-clause-value : goal.returns-clause-value
returns-clause-value c = read_value c.args.text.now c.read.result
    (λ document of. c.read.ensures.printed document of.writable (of.within, of.distinct) of.is)

pub returns-clause-fault : goal.returns-clause-fault
returns-clause-fault c =
    let (document, of) = c.requires in
    read_fault document c.read.result (c.read.ensures.printed document of.writable (of.within, of.distinct) of.is)
