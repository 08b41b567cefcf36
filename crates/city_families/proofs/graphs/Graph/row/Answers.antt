use Rattle.std.proofs.Common.{◌≡◌, ◌∙◌, ◌<◌, [], Some, sym, length, ap, get_or, subst}
use Rattle.std.proofs.lemmas.Option.{slice_get-get_or}
use Rattle.city_families.proofs.Pieces.{long_pieces}
use Rattle.city_families.specs.HeldTexts.{pieces}
use Rattle.city_families.proofs.graphs.Graph.row.Goals as goal

pub row-requires-clause-within : goal.row-requires-clause-within
row-requires-clause-within c =
    let long = long_pieces c.self.inside.places.items 0 c.self.inside.ends.items in
    subst (λ n. c.args.at < n) (ap length (sym c.self.view_is) ∙ (long ∙ sym (ap length c.deref-2.ensures.value)))
    c.requires

pub returns : goal.returns
returns c =
    let places = c.self.inside.places.items in
    let ends = c.self.inside.ends.items in
    let same : pieces c.deref.result.now 0 c.deref-2.result.now ≡ c.args.self.now =
    ap (λ l. pieces l 0 c.deref-2.result.now) c.deref.ensures.value ∙ (ap (pieces places 0) c.deref-2.ensures.value
    ∙ c.self.view_is) in
    slice_get-get_or c.args.self.now c.args.at [] c.requires
    ∙ ap Some (sym (c.row.ensures ∙ ap (λ l. get_or l c.args.at []) same))
