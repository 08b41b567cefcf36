use Rattle.std.proofs.Common.{◌++◌, ◌∷◌, [], ℕ, List, codes, map, refl, subst}
use Rattle.std.specs.Fmt.{decimal}
use Rattle.city_json.specs.Bytes.{close_bracket, open_bracket}
use Rattle.cut_on_text.specs.FeatureText.{middle_text}
use Rattle.cut_on_text.specs.Made.{Makings, listed, place_in, vertex_in}
use Rattle.cut_on_text.specs.Skeletons.{id_at, skeleton_text_at}
use Rattle.cut_on_text.specs.Written.{Writes}
use Rattle.cut_on_text.proofs.Writing.{made_there, writes_feature}
use Rattle.cut_on_text.proofs.on_text.made.MadeTexts.write_at.Goals as goal

pub returns-clause-written : goal.returns-clause-written
returns-clause-written g c =
    let all = c.self.inside in
    let makings : Makings = record {
      skeletons = all.skeletons;
      vertices = all.vertices.text;
      starts = all.vertices.starts.items;
      graph = all.graph;
    } in
    let root = c.index-root.result.now in
    let places = c.order-places.result.now in
    let order = c.number_uses.new.order in
    let rest : List ℕ → List ℕ = λ numbers. middle_text ++ (open_bracket
    ∷ (listed (map (vertex_in all.vertices.text all.vertices.starts.items) numbers) ++ close_bracket ∷ [])) in
    let head = c.write_head.new in
    let objects = c.write_objects.new in
    let last = c.write_rest.new in
    subst (Writes g.W.Sink.taken g.W.Sink.failures c.args.output.now c.args.wrote.now last.output last.wrote)
    (made_there makings all.roots.items c.args.self.now c.args.at root all.graph places places c.gather.new.found order
    all.order.count c.self.view_is c.requires c.index-root.ensures refl c.gather.ensures c.order-places.ensures.order
    c.order-places.ensures.order c.number_uses.ensures)
    (writes_feature g.W.Sink.taken g.W.Sink.failures c.args.output.now c.args.wrote.now head.output head.wrote
    objects.output objects.wrote last.output last.wrote (codes "{\"type\":\"CityJSONFeature\",\"id\":")
    (id_at all.skeletons root) (codes ",\"CityObjects\":{")
    (listed (map (skeleton_text_at all.skeletons (λ vertex. decimal (place_in order.order vertex))) places)) (rest order.order)
    (subst (λ id. Writes g.W.Sink.taken g.W.Sink.failures c.args.output.now c.args.wrote.now head.output head.wrote
    (codes "{\"type\":\"CityJSONFeature\",\"id\":" ++ (id ++ codes ",\"CityObjects\":{"))) c.id.ensures
    c.write_head.ensures) c.write_objects.ensures
    (subst (λ numbers. Writes g.W.Sink.taken g.W.Sink.failures objects.output objects.wrote last.output last.wrote
    (rest numbers)) c.order.ensures.order c.write_rest.ensures))
