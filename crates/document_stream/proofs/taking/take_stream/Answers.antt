use Rattle.city_feature.specs.Values.{header_value}
use Rattle.document_stream.proofs.InputTaken.{stream_given}
use Rattle.document_stream.proofs.taking.take_stream.Goals as goal

pub returns-clause-ok : goal.returns-clause-ok
returns-clause-ok g c = stream_given (g.R.Source.gives c.args.source.now) (header_value c.in_ok-cut.cut.header)
    c.in_ok-header.header c.in_ok-cut.cut.texts c.in_ok-cut.ensures.ok c.in_ok-header.ensures.ok
