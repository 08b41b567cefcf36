use Rattle.std.proofs.Common.{arith}
use Rattle.std.proofs.lemmas.Slice.Zip.{AllZip-long}
use Rattle.command_runs.proofs.answering.answer_merge.Goals as goal

pub run_merge-requires-after_bounds : goal.run_merge-requires-after_bounds
run_merge-requires-after_bounds g c κs within =
    let long = AllZip-long (g.O.Opener.may_give c.args.opener.now) c.args.args.now.paths c.in-Ok.readers.items
    c.in-Ok.ensures.all in
    omega (arith, long, c.requires)

pub returns-in-Ok-clause-done : goal.returns-in-Ok-clause-done
returns-in-Ok-clause-done g c = λ is.
    let run = c.run_merge.ensures in
    let merged = run.done is in
    (c.in-Ok.readers.items, merged.0, c.in-Ok.ensures.all, merged.1, run.done_flushed is, run.done_failures is)
