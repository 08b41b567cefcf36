-- The reader of strings reads the strings that spell a text, each as its text.
use Rattle.std.proofs.Common.{◌≡◌, ◌⊎◌, ◌++◌, ◌+◌, ◌*◌, ◌<◌, ◌≤◌, ◌==◌, ◌%◌, ◌/◌, ℕ, Bool, true, false, cond, List, [], ◌∷◌, Option, Some, None, refl, sym, ap, ◌∙◌, subst, inl, inr, append_assoc, arith, encode_utf8_all, length, IsUtf8}
use Rattle.std.specs.Char.{IsScalar, encode_utf8}
use Rattle.std.specs.List.{list_all, AllByRecursion}
use Rattle.std.specs.Str.{is_utf8, all_scalars}
use Rattle.std.proofs.lemmas.Bool.Decides.{nat_tests}
use Rattle.std.proofs.lemmas.Bool.{cases_Bool, cases_lt, and_parts, and_from, cond-true, cond-false, lt-ltb, le-ltb, eqb-true}
use Rattle.std.proofs.lemmas.Option.{same_Some, cond_some}
use Rattle.std.proofs.lemmas.Str.{encode_same, IsUtf8-from_is_utf8}
use Rattle.city_json.specs.Bytes.{quotation_mark, backslash, slash, small_b, small_f, small_n, small_r, small_t, backspace, form_feed, newline, carriage_return, tab}
use Rattle.city_json.specs.Strings.{letter_meaning, IsUnescaped, StandsFor, SpellsCharacters, SpellsString}
use Rattle.city_json.specs.ReadString.{is_plain, escape_at, prepend, decoded, checked, string_at}
use Rattle.city_json.proofs.ReadString.{checked-some, string_at-some, then_some, IsEscape, escape_tail, and_then_cases, map_cases, escape_at-sound, escape_at-complete, decoded-cons, decoded-nil, decoded-quote, decoded-escape, decoded-run}

-- a byte of a character after its first
abbrev IsContinuation : ℕ → Type 0
IsContinuation b = (128 ≤ b) × (b < 192)

-- a character past ASCII, by its bytes
abbrev IsLong : ℕ → Type 0
IsLong c = (first : ℕ) × (more : List ℕ) × (192 ≤ first) × (encode_utf8 c ≡ first ∷ more)
    × AllByRecursion IsContinuation more

continues : (bits : ℕ) → IsContinuation (128 + bits % 64)
continues bits = (omega arith, omega arith)

encode_cases : (c : ℕ) → ((c < 128) × (encode_utf8 c ≡ c ∷ [])) ⊎ ((128 ≤ c) × IsLong c)
unfolding encode_utf8
encode_cases c =
    elim (cases_lt c 128) [
      | inl one ↦ inl (one, cond-true _ _ _ (lt-ltb c 128 one))
      | inr past1 ↦ (let not1 = le-ltb c 128 past1 in
          elim (cases_lt c 2048) [
            | inl two ↦ inr (
              past1,
              (
                192 + c / 64,
                (128 + c % 64) ∷ [],
                omega arith,
                cond-false _ _ _ not1
                    ∙ cond-true _ _ _ (lt-ltb c 2048 two),
                (continues c, tt),
              ),
            )
            | inr past2 ↦ (let not2 = le-ltb c 2048 past2 in
                elim (cases_lt c 65536) [
                  | inl three ↦ inr (
                    past1,
                    (
                      224 + c / 4096,
                      (128 + c / 64 % 64) ∷ (128 + c % 64) ∷ [],
                      omega arith,
                      cond-false _ _ _ not1 ∙ cond-false _ _ _ not2 ∙ cond-true _ _ _ (lt-ltb c 65536 three),
                      (continues (c / 64), (continues c, tt)),
                    ),
                  )
                  | inr four ↦ inr (
                    past1,
                    (
                      240 + c / 262144,
                      (128 + c / 4096 % 64) ∷ (128 + c / 64 % 64) ∷ (128 + c % 64) ∷ [],
                      omega arith,
                      cond-false _ _ _ not1 ∙ cond-false _ _ _ not2 ∙ cond-false _ _ _ (le-ltb c 65536 four),
                      (continues (c / 4096), (continues (c / 64), (continues c, tt))),
                    ),
                  )
                ])
          ])
    ]

-- each character has a byte
pub some_encoded : (c : ℕ) → 0 < length (encode_utf8 c)
some_encoded c =
    elim (encode_cases c) [
      | inl short ↦ omega (arith, ap length short.1)
      | inr long ↦ (let parts = long.1 in omega (arith, ap length parts.3))
    ]

plain_long : (b : ℕ) → 128 ≤ b → is_plain b ≡ true
plain_long b h = grind (arith, nat_tests)

plain_more : (more : List ℕ) → AllByRecursion IsContinuation more → list_all is_plain more ≡ true
plain_more [] h = refl
plain_more (b ∷ more) h = and_from _ _ (plain_long b h.0.0) (plain_more more h.1)

plain_unescaped : (c : ℕ) → IsUnescaped c → is_plain c ≡ true
plain_unescaped c h = grind (arith, nat_tests)

-- each byte of a character that stands for itself does
pub plain_encode : (c : ℕ) → IsUnescaped c → list_all is_plain (encode_utf8 c) ≡ true
plain_encode c h =
    elim (encode_cases c) [
      | inl short ↦ ap (list_all is_plain) short.1 ∙ and_from _ _ (plain_unescaped c h) refl
      | inr long ↦ (let parts = long.1 in ap (list_all is_plain) parts.3
          ∙ and_from _ _ (plain_long parts.0 (omega (arith, parts.2))) (plain_more parts.1 parts.4))
    ]

decoded-piece : (piece rest : List ℕ) (c : ℕ) → StandsFor piece c
    → decoded (piece ++ rest) ≡ prepend (encode_utf8 c) (decoded rest)
decoded-piece piece rest c (inl itself) = ap (λ p. decoded (p ++ rest)) itself.1
    ∙ decoded-run (encode_utf8 c) rest (plain_encode c itself.0)
decoded-piece piece rest c (inr escape) =
    let beyond = escape_tail piece c escape in
    ap (λ p. decoded (p ++ rest)) beyond.1
    ∙ decoded-escape (beyond.0 ++ rest) (
      c,
      rest,
    ) (escape_at-complete beyond.0 rest c (subst (λ p. IsEscape p c) beyond.1 escape))

one_meaning : (t : Bool) (x c : ℕ) (others : Option ℕ) → IsScalar x → (others ≡ Some c → IsScalar c)
    → cond t (Some x) others ≡ Some c → IsScalar c
one_meaning true x c others scalar h e = subst IsScalar (same_Some x c e) scalar
one_meaning false x c others scalar h e = h e

scalar_letter : (letter c : ℕ) → letter_meaning letter ≡ Some c → IsScalar c
scalar_letter letter c =
    one_meaning (letter == quotation_mark) quotation_mark c _ refl
    (one_meaning (letter == backslash) backslash c _ refl
    (one_meaning (letter == slash) slash c _ refl
    (one_meaning (letter == small_b) backspace c _ refl
    (one_meaning (letter == small_f) form_feed c _ refl
    (one_meaning (letter == small_n) newline c _ refl
    (one_meaning (letter == small_r) carriage_return c _ refl
    (one_meaning (letter == small_t) tab c None refl (λ (e : None ≡ Some c). cc))))))))

scalar_pair : (c high low : ℕ) → high < 0x400 → low < 0x400 → c ≡ 0x10000 + high * 0x400 + low → IsScalar c
scalar_pair c high low h l e = grind (arith, nat_tests)

pub scalar_piece : (piece : List ℕ) (c : ℕ) → StandsFor piece c → IsScalar c
scalar_piece piece c (inl itself) = itself.0.0
scalar_piece piece c (inr (inl letter)) = scalar_letter letter.0 c letter.2
scalar_piece piece c (inr (inr (inl unit))) = unit.3
scalar_piece piece c (inr (inr (inr pair))) = scalar_pair c pair.2 pair.3 pair.6 pair.8 pair.9

decoded-complete : (characters body rest : List ℕ) → SpellsCharacters characters body
    → decoded (body ++ quotation_mark ∷ rest) ≡ Some (encode_utf8_all characters, rest)
decoded-complete [] body rest h = ap (λ b. decoded (b ++ quotation_mark ∷ rest)) h ∙ decoded-quote rest
decoded-complete (c ∷ cs) body rest h =
    ap (λ b. decoded (b ++ quotation_mark ∷ rest)) h.2 ∙ ap decoded (append_assoc h.0 h.1 (quotation_mark ∷ rest))
    ∙ decoded-piece h.0 (h.1 ++ quotation_mark ∷ rest) c h.3
    ∙ ap (prepend (encode_utf8 c)) (decoded-complete cs h.1 rest h.4)

scalars_spelled : (characters body : List ℕ) → SpellsCharacters characters body → all_scalars characters ≡ true
scalars_spelled [] body h = refl
scalars_spelled (c ∷ cs) body h = and_from _ _ (scalar_piece h.0 c h.3) (scalars_spelled cs h.1 h.4)

-- what a string spells is UTF-8
pub IsUtf8-spelled : (text b : List ℕ) → SpellsString text b → IsUtf8 text
IsUtf8-spelled text b h = (h.0, (scalars_spelled h.0 h.1 h.3, sym h.2))

-- a string that spells a text is read as that text, up to its closing quotation mark
pub string_at-complete : (text s rest : List ℕ) → SpellsString text (quotation_mark ∷ s)
    → string_at (s ++ rest) ≡ Some (text, rest)
string_at-complete text s rest h =
    let body = h.1 in
    let inside : s ≡ body ++ quotation_mark ∷ [] = cc in
    ap (λ b. string_at (b ++ rest)) inside ∙ ap string_at (append_assoc body (quotation_mark ∷ []) rest)
    ∙ string_at-some (body ++ quotation_mark ∷ rest) text rest (decoded-complete h.0 body rest h.3
    ∙ ap (λ t. Some (t, rest)) (sym h.2))
    ∙ checked-some text rest (IsUtf8-spelled text (quotation_mark ∷ s) h)

-- what the reader may meet first: the closing quotation mark, a byte that stands for itself, or an escape
abbrev Closes : List ℕ → List ℕ × List ℕ → Type 0
Closes bytes read = (bytes ≡ quotation_mark ∷ read.1) × (read.0 ≡ [])

abbrev TakesByte : List ℕ → List ℕ × List ℕ → Type 0
TakesByte bytes read =
    (b : ℕ) × (after text : List ℕ) × (bytes ≡ b ∷ after) × (is_plain b ≡ true) × (read.0 ≡ b ∷ text)
    × (decoded after ≡ Some (text, read.1))

abbrev TakesEscape : List ℕ → List ℕ × List ℕ → Type 0
TakesEscape bytes read =
    (c : ℕ) × (piece after text : List ℕ) × (bytes ≡ piece ++ after) × IsEscape piece c
    × (read.0 ≡ encode_utf8 c ++ text) × (decoded after ≡ Some (text, read.1))

decoded_cases : (bytes : List ℕ) (read : List ℕ × List ℕ) → decoded bytes ≡ Some read → Closes bytes read
    ⊎ TakesByte bytes read ⊎ TakesEscape bytes read
decoded_cases [] read h = (let none : None ≡ Some read = sym decoded-nil ∙ h in cc)
decoded_cases (b ∷ after) read h =
    let step = sym (decoded-cons b after) ∙ h in
    elim (cases_Bool (b == quotation_mark)) [
      | inl closing ↦ (let e = same_Some ([], after) read (sym (cond-true (b == quotation_mark) _ _ closing) ∙ step) in
          let is : b ≡ quotation_mark = eqb-true b quotation_mark closing in
          let left : after ≡ read.1 = ap (λ (p : List ℕ × List ℕ). p.1) e in
          inl (cc, sym (ap (λ (p : List ℕ × List ℕ). p.0) e)))
      | inr not_closing ↦ (let more = sym (cond-false (b == quotation_mark) _ _ not_closing) ∙ step in
          elim (cases_Bool (b == backslash)) [
            | inl escaped ↦ (let found = and_then_cases (λ (e : ℕ × List ℕ). prepend (encode_utf8 e.0) (decoded e.1))
                (escape_at after) read (sym (cond-true (b == backslash) _ _ escaped) ∙ more) in
                let c = found.0.0 in
                let rest = map_cases (λ (r : List ℕ × List ℕ). (encode_utf8 c ++ r.0, r.1))
                (decoded found.0.1) read found.2 in
                let piece = escape_at-sound after found.0 found.1 in
                let is : b ≡ backslash = eqb-true b backslash escaped in
                let whole : b ∷ after ≡ (backslash ∷ piece.0) ++ found.0.1 = ap (λ (x : ℕ). x ∷ after) is
                ∙ ap (λ (xs : List ℕ). backslash ∷ xs) piece.1 in
                inr (inr (
                  c,
                  backslash ∷ piece.0,
                  found.0.1,
                  rest.0.0,
                  whole,
                  piece.2,
                  sym (ap (λ (p : List ℕ × List ℕ). p.0) rest.2),
                  rest.1
                      ∙ ap (λ (p : List ℕ × List ℕ). Some (rest.0.0, p.1)) rest.2,
                )))
            | inr not_escaped ↦ (let taken =
                then_some (is_plain b) (prepend (b ∷ []) (decoded after)) read
                (sym (cond-false (b == backslash) _ _ not_escaped) ∙ more) in
                let rest = map_cases (λ (r : List ℕ × List ℕ). (b ∷ r.0, r.1)) (decoded after) read taken.1 in
                inr (inl (
                  b,
                  after,
                  rest.0.0,
                  refl,
                  taken.0,
                  sym (ap (λ (p : List ℕ × List ℕ). p.0) rest.2),
                  rest.1
                      ∙ ap (λ (p : List ℕ × List ℕ). Some (rest.0.0, p.1)) rest.2,
                )))
          ])
    ]

-- no character begins with a byte that continues one
not_first : (c b : ℕ) (rest text : List ℕ) → IsContinuation b → encode_utf8 c ++ rest ≡ b ∷ text → ⊥
not_first c b rest text h e =
    elim (encode_cases c) [
      | inl short ↦ (let is : c ∷ rest ≡ b ∷ text = sym (ap (λ x. x ++ rest) short.1) ∙ e in
          let same : c ≡ b = cc in
          omega arith)
      | inr long ↦ (let parts = long.1 in
          let is : parts.0 ∷ (parts.1 ++ rest) ≡ b ∷ text = sym (ap (λ x. x ++ rest) parts.3) ∙ e in
          let same : parts.0 ≡ b = cc in
          omega (arith, parts.2))
    ]

no_character : (c : ℕ) (rest : List ℕ) → encode_utf8 c ++ rest ≡ [] → ⊥
no_character c rest e =
    elim (encode_cases c) [
      | inl short ↦ (let is : c ∷ rest ≡ [] = sym (ap (λ x. x ++ rest) short.1) ∙ e in cc)
      | inr long ↦ (let parts = long.1 in
          let is : parts.0 ∷ (parts.1 ++ rest) ≡ [] = sym (ap (λ x. x ++ rest) parts.3) ∙ e in cc)
    ]

-- the bytes that continue a character stand for themselves
continued : (more text bytes rest : List ℕ) → AllByRecursion IsContinuation more
    → decoded bytes ≡ Some (more ++ text, rest) → (after : List ℕ) × (bytes ≡ more ++ after)
    × (decoded after ≡ Some (text, rest))
continued [] text bytes rest h is = (bytes, refl, is)
continued (b ∷ more) text bytes rest h is =
    elim (decoded_cases bytes (b ∷ more ++ text, rest) is) [
      | inl closes ↦ (let no = closes.1 in cc)
      | inr (inl byte) ↦ (let head : b ≡ byte.0 = cc in
          let tail : byte.2 ≡ more ++ text = cc in
          let found = continued more text byte.1 rest h.1 (byte.6 ∙ ap (λ t. Some (t, rest)) tail) in
          (found.0, byte.3 ∙ ap (λ x. x ∷ byte.1) (sym head) ∙ ap (λ xs. b ∷ xs) found.1, found.2))
      | inr (inr escape) ↦ absurd (not_first escape.0 b escape.3 (more ++ text) h.0 (sym escape.6))
    ]

unescaped_short : (c : ℕ) → IsScalar c → is_plain c ≡ true → IsUnescaped c
unescaped_short c scalar h = (scalar, grind (arith, nat_tests), grind (arith, nat_tests), grind (arith, nat_tests))

unescaped_long : (c : ℕ) → IsScalar c → 128 ≤ c → IsUnescaped c
unescaped_long c scalar h = (scalar, omega arith, omega arith, omega arith)

-- a character whose first byte stands for itself does
character-sound : (c : ℕ) (text bytes rest : List ℕ) → IsScalar c → TakesByte bytes (encode_utf8 c ++ text, rest)
    → IsUnescaped c × ((after : List ℕ) × (bytes ≡ encode_utf8 c ++ after) × (decoded after ≡ Some (text, rest)))
character-sound c text bytes rest scalar byte =
    elim (encode_cases c) [
      | inl short ↦ (let is : c ∷ text ≡ byte.0 ∷ byte.2 = sym (ap (λ x. x ++ text) short.1) ∙ byte.5 in
          let head : c ≡ byte.0 = cc in
          let tail : byte.2 ≡ text = cc in (
            unescaped_short c scalar (ap is_plain head ∙ byte.4),
            (
              byte.1,
              byte.3 ∙ ap (λ x. x ∷ byte.1) (sym head) ∙ ap (λ xs. xs ++ byte.1) (sym short.1),
              byte.6
                  ∙ ap (λ t. Some (t, rest)) tail,
            ),
          ))
      | inr long ↦ (let parts = long.1 in
          let is : parts.0 ∷ (parts.1 ++ text) ≡ byte.0 ∷ byte.2 = sym (ap (λ x. x ++ text) parts.3) ∙ byte.5 in
          let head : parts.0 ≡ byte.0 = cc in
          let tail : byte.2 ≡ parts.1 ++ text = cc in
          let found = continued parts.1 text byte.1 rest parts.4 (byte.6 ∙ ap (λ t. Some (t, rest)) tail) in (
            unescaped_long c scalar long.0,
            (
              found.0,
              byte.3 ∙ ap (λ x. x ∷ byte.1) (sym head) ∙ ap (λ xs. parts.0 ∷ xs) found.1
                  ∙ ap (λ xs. xs ++ found.0) (sym parts.3),
              found.2,
            ),
          ))
    ]

decoded-sound : (characters bytes rest : List ℕ) → all_scalars characters ≡ true
    → decoded bytes ≡ Some (encode_utf8_all characters, rest)
    → (body : List ℕ) × (bytes ≡ body ++ quotation_mark ∷ rest) × SpellsCharacters characters body
decoded-sound [] bytes rest scalars h =
    elim (decoded_cases bytes ([], rest) h) [
      | inl closes ↦ ([], closes.0, refl)
      | inr (inl byte) ↦ (let no = byte.5 in cc)
      | inr (inr escape) ↦ absurd (no_character escape.0 escape.3 (sym escape.6))
    ]
decoded-sound (c ∷ cs) bytes rest scalars h =
    let both = and_parts _ (all_scalars cs) scalars in
    elim (decoded_cases bytes (encode_utf8 c ++ encode_utf8_all cs, rest) h) [
      | inl closes ↦ absurd (no_character c _ closes.1)
      | inr (inl byte) ↦ (let found = character-sound c (encode_utf8_all cs) bytes rest both.0 byte in
          let more = decoded-sound cs found.1.0 rest both.1 found.1.2 in (
            encode_utf8 c ++ more.0,
            found.1.1 ∙ ap (λ xs. encode_utf8 c ++ xs) more.1
                ∙ sym (append_assoc (encode_utf8 c) more.0 (quotation_mark ∷ rest)),
            (encode_utf8 c, more.0, refl, inl (found.0, refl), more.2),
          ))
      | inr (inr escape) ↦ (let same = encode_same c escape.0 (encode_utf8_all cs) escape.3 escape.6 in
          let more = decoded-sound cs escape.2 rest both.1 (escape.7 ∙ ap (λ t. Some (t, rest)) (sym same.1)) in (
            escape.1 ++ more.0,
            escape.4 ∙ ap (λ xs. escape.1 ++ xs) more.1 ∙ sym (append_assoc escape.1 more.0 (quotation_mark ∷ rest)),
            (escape.1, more.0, refl, inr (subst (IsEscape escape.1) (sym same.0) escape.5), more.2),
          ))
    ]

string_at-parts : (bytes text rest : List ℕ) → string_at bytes ≡ Some (text, rest) → (is_utf8 text ≡ true)
    × (decoded bytes ≡ Some (text, rest))
string_at-parts bytes text rest h =
    let found = and_then_cases (λ (read : List ℕ × List ℕ). checked read.0 read.1) (decoded bytes) (text, rest) h in
    let fits = cond_some (is_utf8 found.0.0) found.0 (text, rest) found.2 in (
      ap (λ (r : List ℕ × List ℕ). is_utf8 r.0) (sym fits.1) ∙ fits.0,
      found.1
          ∙ ap (λ (r : List ℕ × List ℕ). Some r) fits.1,
    )

-- what was read as a text is a string that spells it, and what was left stands after that
pub string_at-sound : (bytes text rest : List ℕ) → string_at bytes ≡ Some (text, rest)
    → (consumed : List ℕ) × (bytes ≡ consumed ++ rest) × SpellsString text (quotation_mark ∷ consumed)
string_at-sound bytes text rest h =
    let parts = string_at-parts bytes text rest h in
    let spelled = IsUtf8-from_is_utf8 text parts.0 in
    let inner = decoded-sound spelled.0 bytes rest spelled.1.0 (parts.1 ∙ ap (λ t. Some (t, rest)) (sym spelled.1.1)) in (
      inner.0 ++ quotation_mark ∷ [],
      inner.1 ∙ sym (append_assoc inner.0 (quotation_mark ∷ []) rest),
      (spelled.0, inner.0, sym spelled.1.1, inner.2, refl),
    )
