use Rattle.std.proofs.Common.{◌∙◌, ◌<◌, sym, length, ap, subst}
use Rattle.city_families.proofs.Pieces.{long_pieces}
use Rattle.cut_on_text.proofs.held.Pieces.text.Goals as goal

pub piece-requires-clause-within : goal.piece-requires-clause-within
piece-requires-clause-within c =
    let long = long_pieces c.self.inside.bytes 0 c.self.inside.ends.items in
    subst (λ n. c.args.at < n) (ap length (sym c.self.view_is) ∙ (long ∙ sym (ap length c.deref.ensures.value)))
    c.requires
