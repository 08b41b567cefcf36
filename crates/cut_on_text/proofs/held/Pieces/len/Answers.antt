use Rattle.std.proofs.Common.{◌∙◌, sym, length, ap, arith}
use Rattle.std.proofs.lemmas.Grind.{common_steps}
use Rattle.city_families.proofs.Pieces.{long_pieces}
use Rattle.cut_on_text.proofs.held.Pieces.len.Goals as goal

pub returns : goal.returns
returns c =
    let long = sym (ap length (sym c.self.view_is) ∙ long_pieces c.self.inside.bytes 0 c.self.inside.ends.items) in
    grind (arith, common_steps, long)
