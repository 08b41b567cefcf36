use Rattle.std.proofs.Common.{[], get_or}
use Rattle.cut_on_text.proofs.Writing.{wrote_ok, wrote_since, wrote_some}
use Rattle.cut_on_text.proofs.on_text.made.MadeTexts.write_own.Goals as goal

pub returns-clause-ok : goal.returns-clause-ok
returns-clause-ok g c = wrote_ok _ _ _ _ (wrote_since g.W.Sink.taken g.W.Sink.failures c.args.output.now
    c.write_at.new.output c.write_at.new.wrote (get_or c.args.self.now c.args.at []) c.write_at.ensures.written).written

pub returns-clause-some : goal.returns-clause-some
returns-clause-some g c = wrote_some _ _ _ _ (wrote_since g.W.Sink.taken g.W.Sink.failures c.args.output.now
    c.write_at.new.output c.write_at.new.wrote (get_or c.args.self.now c.args.at []) c.write_at.ensures.written).written

pub returns-clause-failures : goal.returns-clause-failures
returns-clause-failures g c = (wrote_since g.W.Sink.taken g.W.Sink.failures c.args.output.now
    c.write_at.new.output c.write_at.new.wrote (get_or c.args.self.now c.args.at []) c.write_at.ensures.written).failed

pub returns-clause-fault : goal.returns-clause-fault
returns-clause-fault g c = (wrote_since g.W.Sink.taken g.W.Sink.failures c.args.output.now
    c.write_at.new.output c.write_at.new.wrote (get_or c.args.self.now c.args.at []) c.write_at.ensures.written).fault
