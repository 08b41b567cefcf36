use Rattle.std.proofs.Common.{ap, ◌∙◌, bytes_eq}
use Rattle.std.specs.Map.{lookup}
use Rattle.std.specs.Option.{option_or}
use Rattle.city_json.specs.Members.{first_named}
use Rattle.city_feature.specs.Values.{lent_members}
use Rattle.city_feature.proofs.LentMembers.{found_in_both}
use Rattle.city_feature.proofs.joining.extensions.Extensions.value_of.Goals as goal

pub returns-in-Some : goal.returns-in-Some
returns-in-Some c =
    let name = c.args.name.now in
    let first = c.self.inside.first.entries in
    let later = c.self.inside.later in
    found_in_both name first later _
    (ap (λ found. option_or found (lookup (λ key. bytes_eq name key.now) later)) c.in-Some.ensures.value)
    ∙ ap (λ pairs. first_named name (lent_members pairs)) c.self.view_is

pub returns : goal.returns
returns c =
    let name = c.args.name.now in
    let first = c.self.inside.first.entries in
    let later = c.self.inside.later in
    found_in_both name first later _ (c.value_of.ensures
    ∙ ap (λ found. option_or found (lookup (λ key. bytes_eq name key.now) later)) c.in_default.ensures.value)
    ∙ ap (λ pairs. first_named name (lent_members pairs)) c.self.view_is
