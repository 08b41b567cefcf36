use Rattle.std.proofs.Common.{◌∙◌, ◌==◌, ap, arith, map, take_all}
use Rattle.std.specs.Char.{is_ascii_digit}
use Rattle.std.specs.Simd.Lanes.{mask_l}
use Rattle.city_json.specs.Bytes.{digit_zero, minus, comma, open_bracket, close_bracket}
use Rattle.city_json.proofs.compacting.triples.kinds_in.Goals as goal

pub returns : goal.returns
returns c =
    let same = take_all 64 c.args.bytes.now (omega (arith, c.requires.long)) in
    record {
      digit = c.digit_marks.ensures ∙ ap (λ bytes. mask_l (map is_ascii_digit bytes)) same;
      zero_digit = c.marks_of.ensures ∙ ap (λ bytes. mask_l (map (λ b. b == digit_zero) bytes)) same;
      minus_sign = c.marks_of-2.ensures ∙ ap (λ bytes. mask_l (map (λ b. b == minus) bytes)) same;
      comma_mark = c.marks_of-3.ensures ∙ ap (λ bytes. mask_l (map (λ b. b == comma) bytes)) same;
      opened = c.marks_of-4.ensures ∙ ap (λ bytes. mask_l (map (λ b. b == open_bracket) bytes)) same;
      closed = c.marks_of-5.ensures ∙ ap (λ bytes. mask_l (map (λ b. b == close_bracket) bytes)) same;
    }
