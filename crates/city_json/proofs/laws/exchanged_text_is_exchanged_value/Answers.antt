use Rattle.std.proofs.Common.{[], ◌∷◌}
use Rattle.city_json.specs.Bytes.{open_brace, close_brace}
use Rattle.city_json.proofs.Replacing.{replaced_text}
use Rattle.city_json.proofs.laws.exchanged_text_is_exchanged_value.Goals as goal

pub returns : goal.returns
returns c = λ members parts k part value are within.
    replaced_text members (open_brace ∷ []) (close_brace ∷ []) parts k part value are within
