use Rattle.std.proofs.Common.{◌∙◌, ◌++◌, ◌∷◌, ◌+◌, [], ap, length}
use Rattle.cut_on_text.proofs.MovedVertices.{grown_more}
use Rattle.cut_on_text.proofs.on_text.points.GrownVertices.push.Goals as goal

pub returns : goal.returns
returns c = λ points grown.
    let starts = c.args.self.now.starts.items in
    grown_more c.args.self.now.text c.append_vertex.new.to starts c.push_place.new.places.items points c.args.vertex.now
    grown c.in_ok-append_vertex.ensures
    (c.in_ok-push_place.ensures ∙ ap (λ l. starts ++ (length l + 1) ∷ []) c.items.ensures)
