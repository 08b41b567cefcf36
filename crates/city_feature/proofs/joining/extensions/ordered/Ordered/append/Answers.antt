use Rattle.std.proofs.Common.{◌∙◌, ◌++◌, ◌∷◌, [], ap, bytes_eq, cond, sym, Some}
use Rattle.std.proofs.lemmas.Map.Text.{btree_map_updates_str}
use Rattle.std.specs.Map.{lookup}
use Rattle.city_feature.proofs.LentMembers.{value_of_push}
use Rattle.city_feature.proofs.joining.extensions.ordered.Ordered.append.Goals as goal

pub invariant_of-self-2 : goal.invariant_of-self-2
invariant_of-self-2 c name =
    let pairs = c.self.inside.pairs.items in
    let added = c.args.name in
    let value = c.args.value in
    btree_map_updates_str added.now c.self.inside.values c.insert.new.self
    (Some value) c.in_ok-insert.ensures.updates name
    ∙ (ap (cond (bytes_eq added.now name) (Some value)) (c.self.invariant name)
    ∙ (value_of_push pairs added value name (ap (lookup (λ key. bytes_eq added.now key.now)) c.self.view_is
    ∙ c.requires)
    ∙ ap (lookup (λ key. bytes_eq name key.now))
    (sym (c.push_reserved.ensures.items ∙ ap (λ kept. kept ++ (added, value) ∷ []) c.in_ok-reserve.ensures.items))))
