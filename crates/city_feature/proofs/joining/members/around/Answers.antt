use Rattle.std.proofs.Common.{◌∙◌, ◌++◌, ◌∷◌, ◌+◌, ap, map, sym, take, append-nil}
use Rattle.std.proofs.lemmas.List.{take_rest}
use Rattle.city_json.specs.Tree.{member_trees, named_tree}
use Rattle.city_feature.proofs.NamedMembers.{dropped_around, set_around, with_absent, without_absent}
use Rattle.city_feature.proofs.joining.members.around.Goals as goal

pub returns-in-Some-clause-dropped : goal.returns-in-Some-clause-dropped
returns-in-Some-clause-dropped c =
    let ms = c.args.members.now in
    let place = c.in-Some.place in
    dropped_around c.args.name.now ms place (sym c.place_of.ensures ∙ c.in-Some.is)
    ∙ ap (λ after. member_trees (map named_tree (take place ms) ++ map named_tree after)) (sym (take_rest ms (place + 1)))

pub returns-in-Some-clause-set : goal.returns-in-Some-clause-set
returns-in-Some-clause-set c value =
    let ms = c.args.members.now in
    let place = c.in-Some.place in
    set_around c.args.name.now ms value place (sym c.place_of.ensures ∙ c.in-Some.is)
    ∙ ap (λ after. member_trees (map named_tree (take place ms) ++ (c.args.name.now, value) ∷ map named_tree after))
    (sym (take_rest ms (place + 1)))

pub returns-clause-dropped : goal.returns-clause-dropped
returns-clause-dropped c =
    let ms = c.args.members.now in
    sym (without_absent c.args.name.now ms (sym c.place_of.ensures ∙ c.in_default.is))
    ∙ ap member_trees (sym (append-nil (map named_tree ms)))

pub returns-clause-set : goal.returns-clause-set
returns-clause-set c value =
    sym (with_absent c.args.name.now value c.args.members.now (sym c.place_of.ensures ∙ c.in_default.is))
