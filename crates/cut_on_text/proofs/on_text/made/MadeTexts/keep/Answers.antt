use Rattle.std.proofs.Common.{◌∙◌, ◌<◌, length, map, sym, ap, subst}
use Rattle.std.specs.List.{All}
use Rattle.cut_on_text.specs.Moved.{chosen_of}
use Rattle.cut_on_text.proofs.KeptPlaces.{all_chosen, chosen_map}
use Rattle.cut_on_text.proofs.on_text.made.MadeTexts.keep.Goals as goal

pub returns : goal.returns
returns c =
    let all = c.self.inside in
    ap (map _) c.keep_chosen.ensures
    ∙ (sym (chosen_map _ c.args.chosen.now all.roots.items)
    ∙ ap (chosen_of c.args.chosen.now) c.self.view_is)

pub invariant_of-self : goal.invariant_of-self
invariant_of-self c =
    let count = length c.self.inside.graph in
    record {
      places = c.self.invariant.places;
      within = c.self.invariant.within;
      inside = subst (All (λ root. root < count)) (sym c.keep_chosen.ensures)
          (all_chosen (λ root. root < count) c.args.chosen.now c.self.inside.roots.items c.self.invariant.inside);
      leaves = c.self.invariant.leaves;
      objects = c.self.invariant.objects;
      vertices = c.self.invariant.vertices;
      document = c.self.invariant.document;
    }
