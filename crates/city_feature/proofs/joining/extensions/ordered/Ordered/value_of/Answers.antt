use Rattle.std.proofs.Common.{◌∙◌, ap, bytes_eq}
use Rattle.std.specs.Map.{lookup}
use Rattle.city_feature.proofs.joining.extensions.ordered.Ordered.value_of.Goals as goal

pub returns : goal.returns
returns c =
    let name = c.args.name.now in
    c.copied.ensures ∙ (c.get.ensures.value
    ∙ (c.self.invariant name ∙ ap (lookup (λ key. bytes_eq name key.now)) c.self.view_is))
