use Rattle.std.proofs.Common.{◌++◌, ◌∷◌, [], map}
use Rattle.city_json.specs.Bytes.{close_bracket}
use Rattle.cut_on_text.specs.Made.{listed, vertex_in}
use Rattle.cut_on_text.proofs.Writing.{writes_both}
use Rattle.cut_on_text.proofs.on_text.made.write_rest.Goals as goal

pub returns : goal.returns
returns g c =
    let own = listed (map (vertex_in c.args.vertices.now.text c.args.vertices.now.starts.items) c.args.order.now) in
    writes_both g.W.Sink.taken g.W.Sink.failures _ _ _ _ _ _ _ (own ++ close_bracket ∷ []) c.write_piece.ensures
    (writes_both g.W.Sink.taken g.W.Sink.failures _ _ _ _ _ _ own (close_bracket ∷ []) c.write_vertices.ensures
    c.write_piece-2.ensures)
