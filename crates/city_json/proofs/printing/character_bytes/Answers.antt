use Rattle.std.proofs.Common.{◌≡◌, ◌∙◌, false, nat_lt, sym}
use Rattle.city_json.proofs.CompactText.{written_high}
use Rattle.city_json.proofs.printing.character_bytes.Goals as goal

pub returns : goal.returns
returns c =
    let high : nat_lt c.args.character 128 ≡ false = sym c.is_ascii.ensures ∙ c.if-is_ascii.false in
    c.as_bytes.ensures.value ∙ (c.encode_utf8.ensures.value ∙ sym (written_high c.args.character high))
