use Rattle.cut_on_text.specs.declared.cuts.CutTexts.{CutTexts}
use Rattle.city_families.specs.HeldTexts.{texts_in}
use Rattle.city_feature.specs.Values.{header_value}
use Rattle.document_stream.proofs.InputTaken.{cuts_given, cut_refused, too_long}
use Rattle.document_stream.proofs.taking.take_cut.Goals as goal

pub returns-in-End-clause-ok : goal.returns-in-End-clause-ok
returns-in-End-clause-ok g c =
    let stopped = rw c.in-End.is at c.read_all-intake.ensures.stopped in
    let cut = c.cut_read.ensures.ok in
    cuts_given (g.R.Source.gives c.args.source.now) c.read_all-intake.result.bytes.items stopped.0 stopped.1
    c.cut_read.result (λ (cut : CutTexts). header_value cut.header) (λ (cut : CutTexts). texts_in cut.texts) cut

pub returns-in-End-clause-refused : goal.returns-in-End-clause-refused
returns-in-End-clause-refused g c =
    let stopped = rw c.in-End.is at c.read_all-intake.ensures.stopped in
    let refused = c.cut_read.ensures.refused in
    cut_refused (g.R.Source.gives c.args.source.now) c.read_all-intake.result.bytes.items stopped.0 stopped.1
    c.cut_read.result refused

pub returns-in-Limit-clause-refused : goal.returns-in-Limit-clause-refused
returns-in-Limit-clause-refused g c =
    let stopped = rw c.in-Limit.is at c.read_all-intake.ensures.stopped in
    too_long (g.R.Source.gives c.args.source.now) (g.R.Source.gives c.read_all-intake.new.source)
    c.read_all-intake.result.bytes.items stopped.0 stopped.1
    (g.met.R.Source.gives_something c.read_all-intake.new.source)
