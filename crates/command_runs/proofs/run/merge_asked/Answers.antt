use Rattle.city_feature.specs.Choice.{IsChosen}
use Rattle.command_runs.proofs.Asking.{asked_in_turn, asked_with_threads, passed_on_in_turn, passed_on_with_threads}
use Rattle.command_runs.proofs.run.merge_asked.Goals as goal

pub returns-then-args-clause-refused : goal.returns-then-args-clause-refused
returns-then-args-clause-refused g c =
    asked_in_turn g.R.Source.gives c.args.readers.items c.args.args.now.in_turn c.base_of-base.result _
    c.base_of-base.ensures c.merge_in_turn.result (IsChosen c.args.args.now.choice)
    (g.W.Sink.taken c.args.output.now) (g.W.Sink.taken c.merge_in_turn.new.output) c.if-args.true
    c.merge_in_turn.ensures.refused

pub returns-clause-refused : goal.returns-clause-refused
returns-clause-refused g c =
    asked_with_threads g.R.Source.gives c.args.readers.items c.args.args.now.in_turn c.base_of-base.result _
    c.base_of-base.ensures c.merge.result (IsChosen c.args.args.now.choice) (g.W.Sink.taken c.args.output.now)
    (g.W.Sink.taken c.merge.new.output) c.if-args.false c.merge.ensures.refused

pub returns-then-args-clause-passed_on : goal.returns-then-args-clause-passed_on
returns-then-args-clause-passed_on g c =
    passed_on_in_turn g.R.Source.gives c.args.readers.items c.args.args.now.in_turn c.base_of-base.result _
    c.base_of-base.ensures c.merge_in_turn.result (g.W.Sink.is_flushed c.merge_in_turn.new.output) c.if-args.true
    c.merge_in_turn.ensures.passed_on

pub returns-clause-passed_on : goal.returns-clause-passed_on
returns-clause-passed_on g c =
    passed_on_with_threads g.R.Source.gives c.args.readers.items c.args.args.now.in_turn c.base_of-base.result _
    c.base_of-base.ensures c.merge.result (g.W.Sink.is_flushed c.merge.new.output) c.if-args.false
    c.merge.ensures.passed_on
