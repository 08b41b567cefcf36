-- Texts cut at their first comma, and the numbers of an area, in which there is none.
use Rattle.std.proofs.Common.{◌≡◌, ◌+◌, ◌≤◌, ◌<◌, ◌==◌, ◌∙◌, ◌↔◌, ℕ, sym, ap, refl, subst, inl, inr, Bool, true, false, cond, List, [], ◌∷◌, ◌++◌, length, take, drop, get_or, ℤ, unsigned_abs, IsTrue, arith}
use Rattle.std.proofs.Math.Seq.{take-append_seam}
use Rattle.std.proofs.lemmas.Bool.{ne_eqb, eqb-true}
use Rattle.std.proofs.lemmas.List.{length-append}
use Rattle.std.proofs.lemmas.List.Folds.{Any-from_list_any, list_any-from_Any}
use Rattle.std.proofs.lemmas.List.Sums.{split_at_first, passes_at_first}
use Rattle.std.proofs.lemmas.Str.Parse.{digit_from_value}
use Rattle.std.specs.List.{Any, list_any, position_or_len, before_first, after_first}
use Rattle.std.specs.Str.Parse.{AllDigits, IsNumeral, signed_digits_value, without_leading_sign}
use Rattle.city_json.specs.Bytes.{comma, minus}
use Rattle.city_json.specs.Number.{AreDigits, IsMinus}
use Rattle.byte_streams.specs.Limits.{max_steps}
use Rattle.city_feature.specs.Area.{IsStepsText}

-- ---- cuts ----

abbrev pub LacksComma : List ℕ → Type 0
LacksComma [] = Unit {0}
LacksComma (byte ∷ bytes) = (byte ≡ comma → ⊥) × LacksComma bytes

-- a text is cut at its first comma in one way
pub one_cut : (a b rest others : List ℕ) → LacksComma a → LacksComma b → a ++ comma ∷ rest ≡ b ++ comma ∷ others
    → (a ≡ b) × (rest ≡ others)
one_cut [] [] rest others lacks other same = (refl, cc)
one_cut [] (y ∷ b) rest others lacks other same = let first : y ≡ comma = cc in absurd (other.0 first)
one_cut (x ∷ a) [] rest others lacks other same = let first : x ≡ comma = cc in absurd (lacks.0 first)
one_cut (x ∷ a) (y ∷ b) rest others lacks other same =
    let after : a ++ comma ∷ rest ≡ b ++ comma ∷ others = cc in
    let cut = one_cut a b rest others lacks.1 other.1 after in
    let first : x ≡ y = cc in
    (ap (λ byte. byte ∷ a) first ∙ ap (λ bytes. y ∷ bytes) cut.0, cut.1)

comma_after : (front rest : List ℕ) → LacksComma front
    → position_or_len (λ byte. byte == comma) (front ++ comma ∷ rest) ≡ length front
comma_after [] rest lacks = refl
comma_after (x ∷ front) rest lacks =
    let other : (x == comma) ≡ false = ne_eqb x comma lacks.0 in
    let more = comma_after front rest lacks.1 in
    rw other (omega (arith, more))

-- a text without a comma has no cut
pub no_cut : (text front rest : List ℕ) → position_or_len (λ byte. byte == comma) text ≡ length text → LacksComma front
    → text ≡ front ++ comma ∷ rest → ⊥
no_cut text front rest none lacks cut =
    let at : position_or_len (λ byte. byte == comma) text ≡ length front =
    ap (position_or_len (λ byte. byte == comma)) cut ∙ comma_after front rest lacks in
    let long : length text ≡ length front + length (comma ∷ rest) = ap length cut
    ∙ length-append front (comma ∷ rest) in
    omega (arith, none, at, long)

-- what stands before the first comma, where the text is cut there
pub front_of_cut : (text front rest : List ℕ) → LacksComma front → text ≡ front ++ comma ∷ rest
    → before_first (λ byte. byte == comma) text ≡ front
front_of_cut text front rest lacks cut =
    ap (before_first (λ byte. byte == comma)) cut
    ∙ ap (λ n. take n (front ++ comma ∷ rest)) (comma_after front rest lacks)
    ∙ take-append_seam front (comma ∷ rest)

pub cut_so : (text front rest : List ℕ) → position_or_len (λ byte. byte == comma) text < length text
    → front ≡ before_first (λ byte. byte == comma) text → rest ≡ after_first (λ byte. byte == comma) text
    → text ≡ front ++ comma ∷ rest
cut_so text front rest some before after =
    let p : ℕ → Bool = λ byte. byte == comma in
    let is : get_or text (position_or_len p text) 0 ≡ comma = eqb-true _ _ (passes_at_first p text 0 some) in
    split_at_first p text 0 some
    ∙ ap (λ byte. before_first p text ++ byte ∷ after_first p text) is
    ∙ ap (λ bytes. bytes ++ comma ∷ after_first p text) (sym before)
    ∙ ap (λ bytes. front ++ comma ∷ bytes) (sym after)

-- ---- numbers of an area ----

digits_lack_comma : (digits : List ℕ) → AllDigits 10 digits → LacksComma digits
digits_lack_comma [] all = tt
digits_lack_comma (d ∷ ds) all =
    ((λ is. absurd (omega (arith, is, (digit_from_value d all.0).0))), digits_lack_comma ds all.1)

after_minus : (sign digits : List ℕ) → IsMinus sign → LacksComma digits → LacksComma (sign ++ digits)
after_minus sign digits (inl none) lacks = subst (λ s. LacksComma (s ++ digits)) (sym none) lacks
after_minus sign digits (inr one) lacks =
    subst (λ s. LacksComma (s ++ digits)) (sym one) ((λ is. absurd (omega (arith, is))), lacks)

pub steps_lack_comma : (text : List ℕ) (steps : ℤ) → IsStepsText text steps → LacksComma text
steps_lack_comma text steps reads =
    subst LacksComma (sym reads.spelled)
    (after_minus reads.minus_sign reads.digits reads.is_minus (digits_lack_comma reads.digits reads.are_digits.1))

-- a text that `parse` reads has its sign, which is no plus
by_sign : (first : ℕ) (bytes : List ℕ) (has_minus has_plus : Bool) → (first == minus) ≡ has_minus → has_plus ≡ false
    → IsNumeral 10 (cond has_minus bytes (drop (cond has_plus 1 0) (first ∷ bytes))) → (sign digits : List ℕ)
    × ((first ∷ bytes ≡ sign ++ digits) × IsMinus sign × AreDigits digits)
by_sign first bytes true has_plus is unsigned numeral =
    (minus ∷ [], bytes, (ap (λ byte. byte ∷ bytes) (eqb-true _ _ is), inr refl, numeral))
by_sign first bytes false false is unsigned numeral = ([], first ∷ bytes, (refl, inl refl, numeral))
by_sign first bytes false true is unsigned numeral = let never : true ≡ false = unsigned in absurd cc

signed_text : (text : List ℕ) → (get_or text 0 0 == 43) ≡ false → IsNumeral 10 (without_leading_sign text)
    → (sign digits : List ℕ) × ((text ≡ sign ++ digits) × IsMinus sign × AreDigits digits)
signed_text [] unsigned numeral = absurd (omega (arith, numeral.0))
signed_text (first ∷ bytes) unsigned numeral = by_sign first bytes (first == minus) (first == 43) refl unsigned numeral

pub steps_text : (text : List ℕ) (steps : ℤ) → false ≡ (get_or text 0 0 == 43)
    → IsNumeral 10 (without_leading_sign text) → steps ≡ signed_digits_value 10 text → unsigned_abs steps ≤ max_steps
    → IsStepsText text steps
steps_text text steps no_plus numeral writes small =
    let (sign, digits, parts) = signed_text text (sym no_plus) numeral in
    record {
      minus_sign = sign;
      digits = digits;
      spelled = parts.0;
      is_minus = parts.1;
      are_digits = parts.2;
      writes = writes;
      in_range = small;
    }

-- ---- areas ----

-- the number before the first comma, and what follows it
pub next_steps : (text front rest other others : List ℕ) (steps number : ℤ) → text ≡ front ++ comma ∷ rest
    → IsStepsText front steps → text ≡ other ++ comma ∷ others → IsStepsText other number → (steps ≡ number)
    × (rest ≡ others)
next_steps text front rest other others steps number cut reads again reads_again =
    let same = one_cut front other rest others (steps_lack_comma front steps reads)
    (steps_lack_comma other number reads_again) (sym cut ∙ again) in
    (reads.writes ∙ ap (signed_digits_value 10) same.0 ∙ sym reads_again.writes, same.1)

pub last_steps : (text other : List ℕ) (steps number : ℤ) → IsStepsText text steps → text ≡ other
    → IsStepsText other number → steps ≡ number
last_steps text other steps number reads same reads_again = reads.writes ∙ ap (signed_digits_value 10) same
    ∙ sym reads_again.writes

-- ---- names ----

empty_name : (name : List ℕ) → (length name == 0) ≡ true → name ≡ []
empty_name [] is = refl
empty_name (byte ∷ bytes) is = absurd (omega (arith, eqb-true _ _ is))

pub some_is_empty : (names : List (List ℕ)) (answer : Bool) → answer ≡ list_any (λ name. length name == 0) names
    → IsTrue answer ↔ Any (λ name. name ≡ []) names
some_is_empty names answer is = (
  λ yes. let (k, name, within, at, empty) = Any-from_list_any (λ name. length name == 0) names (sym is ∙ yes) in
      (k, name, within, at, empty_name name empty),
  λ some. is ∙ list_any-from_Any (λ name. length name == 0) names (
    some.0,
    some.1,
    some.2,
    some.3,
    ap (λ name. length name == 0) some.4,
  ),
)
