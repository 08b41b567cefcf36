-- A string hides what it holds from the count of brackets.
use Rattle.std.proofs.Common.{◌≡◌, ◌++◌, ◌<◌, ◌==◌, ℕ, true, List, [], ◌∷◌, refl, ap, ◌∙◌, inl, inr, append_assoc, arith}
use Rattle.std.specs.Char.{digit_value, encode_utf8}
use Rattle.std.specs.List.{list_all}
use Rattle.std.specs.Str.Parse.{AllDigits}
use Rattle.std.proofs.lemmas.Bool.Decides.{nat_tests}
use Rattle.std.proofs.lemmas.Bool.{and_parts, and_from, cond-false}
use Rattle.city_json.specs.Bytes.{quotation_mark, backslash, small_u}
use Rattle.city_json.specs.Depth.{outside, inside, escaped, unquoted}
use Rattle.city_json.specs.Strings.{StandsFor, SpellsCharacters, SpellsString}
use Rattle.city_json.specs.ReadString.{is_plain}
use Rattle.city_json.proofs.ReadString.{plain_apart}
use Rattle.city_json.proofs.SpelledString.{plain_encode}

plain_digit : (d : ℕ) → digit_value d < 16 → is_plain d ≡ true
plain_digit d h = grind (arith, nat_tests)

plain_digits : (digits : List ℕ) → AllDigits 16 digits → list_all is_plain digits ≡ true
plain_digits [] h = refl
plain_digits (d ∷ digits) h = and_from _ _ (plain_digit d h.0) (plain_digits digits h.1)

hidden_run : (run rest : List ℕ) → list_all is_plain run ≡ true → unquoted inside (run ++ rest) ≡ unquoted inside rest
hidden_run [] rest h = refl
hidden_run (b ∷ run) rest h =
    let both = and_parts (is_plain b) (list_all is_plain run) h in
    let apart = plain_apart b both.0 in
    ap (λ p. unquoted p (run ++ rest)) (cond-false (b == quotation_mark) outside _ apart.0
    ∙ cond-false (b == backslash) escaped inside apart.1) ∙ hidden_run run rest both.1

hidden_unit : (digits rest : List ℕ) → AllDigits 16 digits
    → unquoted inside (backslash ∷ small_u ∷ (digits ++ rest)) ≡ unquoted inside rest
hidden_unit digits rest h = hidden_run digits rest (plain_digits digits h)

hidden_piece : (piece rest : List ℕ) (c : ℕ) → StandsFor piece c
    → unquoted inside (piece ++ rest) ≡ unquoted inside rest
hidden_piece piece rest c (inl itself) =
    ap (λ p. unquoted inside (p ++ rest)) itself.1 ∙ hidden_run (encode_utf8 c) rest (plain_encode c itself.0)
hidden_piece piece rest c (inr (inl letter)) = ap (λ p. unquoted inside (p ++ rest)) letter.1
hidden_piece piece rest c (inr (inr (inl unit))) =
    ap (λ p. unquoted inside (p ++ rest)) unit.1 ∙ hidden_unit unit.0 rest unit.2.1
hidden_piece piece rest c (inr (inr (inr pair))) =
    let first = pair.0 in
    let second = backslash ∷ small_u ∷ pair.1 in
    ap (λ p. unquoted inside (p ++ rest)) pair.4
    ∙ ap (λ r. unquoted inside (backslash ∷ small_u ∷ r)) (append_assoc first second rest)
    ∙ hidden_unit first (second ++ rest) pair.5.1 ∙ hidden_unit pair.1 rest pair.7.1

hidden_body : (characters body rest : List ℕ) → SpellsCharacters characters body
    → unquoted inside (body ++ rest) ≡ unquoted inside rest
hidden_body [] body rest h = ap (λ b. unquoted inside (b ++ rest)) h
hidden_body (c ∷ cs) body rest h =
    ap (λ b. unquoted inside (b ++ rest)) h.2 ∙ ap (unquoted inside) (append_assoc h.0 h.1 rest)
    ∙ hidden_piece h.0 (h.1 ++ rest) c h.3 ∙ hidden_body cs h.1 rest h.4

-- of a string only the opening quotation mark stands outside
pub unquoted-string : (text s rest : List ℕ) → SpellsString text s
    → unquoted outside (s ++ rest) ≡ quotation_mark ∷ unquoted outside rest
unquoted-string text s rest h =
    ap (λ b. unquoted outside (b ++ rest)) h.4
    ∙ ap (λ r. quotation_mark ∷ unquoted inside r) (append_assoc h.1 (quotation_mark ∷ []) rest)
    ∙ ap (λ r. quotation_mark ∷ r) (hidden_body h.0 h.1 (quotation_mark ∷ rest) h.3)
