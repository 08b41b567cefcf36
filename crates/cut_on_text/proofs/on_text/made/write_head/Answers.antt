use Rattle.std.proofs.Common.{◌++◌, codes}
use Rattle.cut_on_text.proofs.Writing.{writes_both}
use Rattle.cut_on_text.proofs.on_text.made.write_head.Goals as goal

pub returns : goal.returns
returns g c = writes_both g.W.Sink.taken g.W.Sink.failures _ _ _ _ _ _ (codes "{\"type\":\"CityJSONFeature\",\"id\":")
    (c.args.id.now ++ codes ",\"CityObjects\":{") c.write_piece.ensures
    (writes_both g.W.Sink.taken g.W.Sink.failures _ _ _ _ _ _ c.args.id.now (codes ",\"CityObjects\":{")
    c.write_piece-2.ensures c.write_piece-3.ensures)
