use Rattle.city_feature.specs.Values.{header_value}
use Rattle.tile_stream.specs.Unread.{Leaves}
use Rattle.tile_stream.proofs.Heads.{line_given, line_refused}
use Rattle.tile_stream.proofs.filter.take_header_line.Goals as goal

pub returns-clause-ok : goal.returns-clause-ok
returns-clause-ok g c =
    let header = header_value c.in-Ok.head.header in
    line_given (Leaves g.R.Source.gives c.args.tile.now.lines) (Leaves g.R.Source.gives c.take_head.new.self.lines)
    header c.take_head.new.self.held c.in-Ok.ensures.head c.header_line.result c.header_line.ensures.ok

pub returns-clause-refused : goal.returns-clause-refused
returns-clause-refused g c =
    let header = header_value c.in-Ok.head.header in
    let some = c.take_head.ensures.some in
    line_refused (Leaves g.R.Source.gives c.args.tile.now.lines) (Leaves g.R.Source.gives c.take_head.new.self.lines)
    header c.take_head.new.self.held c.in-Ok.ensures.head c.in-Ok.head.line c.in-Ok.ensures.line
    c.in-Ok.ensures.counted some.0 some.1.0 c.header_line.result c.header_line.ensures.err
