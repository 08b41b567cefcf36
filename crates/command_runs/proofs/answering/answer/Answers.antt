use Rattle.command_runs.proofs.answering.answer.Goals as goal

pub returns-in-Memory-clause-said : goal.returns-in-Memory-clause-said
returns-in-Memory-clause-said g c = rw c.in-Memory.is (rw c.of_no_line.ensures at c.report_fault.ensures.line)
