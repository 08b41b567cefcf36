use Rattle.std.proofs.Common.{map-id}
use Rattle.command_line.proofs.Answering.{err_answered, is_named, ok_answered, ok_asked}
use Rattle.command_line.proofs.parsing.answer.Goals as goal

pub answer_matches-requires : goal.answer_matches-requires
answer_matches-requires c =
    is_named c.in_ok-command.command c.args.words.now _ c.in_ok-command.ensures.app
    (map-id _) c.in-Ok.matches c.in-Ok.ensures.matches c.in-Ok.ensures.kinds

pub returns-in-Ok-clause-asked : goal.returns-in-Ok-clause-asked
returns-in-Ok-clause-asked c =
    ok_asked c.in_ok-command.command c.args.words.now _ c.in_ok-command.ensures.app
    (map-id _) c.in-Ok.matches c.in-Ok.ensures.matches c.in-Ok.ensures.kinds
    c.answer_matches.result c.answer_matches.ensures.asked

pub returns-in-Ok-clause-answered : goal.returns-in-Ok-clause-answered
returns-in-Ok-clause-answered c =
    ok_answered c.in_ok-command.command c.args.words.now _ c.in_ok-command.ensures.app
    (map-id _) c.in-Ok.matches c.in-Ok.ensures.matches c.in-Ok.ensures.kinds
    c.answer_matches.result c.answer_matches.ensures.answered

pub returns-in-Err-clause-answered : goal.returns-in-Err-clause-answered
returns-in-Err-clause-answered c =
    err_answered c.in_ok-command.command c.args.words.now _ c.in_ok-command.ensures.app
    (map-id _) _ c.in-Err.error c.answer_error.result
    c.in-Err.ensures.kinds c.answer_error.ensures.kind
