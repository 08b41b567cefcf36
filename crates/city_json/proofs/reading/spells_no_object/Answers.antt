use Rattle.std.proofs.Common.{◌≡◌, false, is_some, rules}
use Rattle.city_json.proofs.Opened.{no_brace}
use Rattle.city_json.proofs.reading.spells_no_object.Goals as goal

pub returns : goal.returns
returns c = λ none.
    let absent : is_some c.after_byte.result ≡ false = search rules in
    no_brace c.args.bytes.now _ c.after_byte.result c.after_white.result.now c.after_white.ensures c.after_byte.ensures
    absent
