-- What the goals of the code want.
use Rattle.std.proofs.Common.{◌≡◌, ◌≢◌, ◌+◌, ◌<◌, ◌++◌, ℕ, suc, List, ◌∷◌, Some, None, length, take, drop, get_or, sym, ap, ◌∙◌, arith, drop-cons, append-nil, le_refl, encode_utf8, ◌-◌, false, subst, take_all, length-drop}
use Rattle.std.specs.List.{prefix_len}
use Rattle.std.proofs.lemmas.List.Sums.{prefix_len_stops}
use Rattle.std.proofs.lemmas.List.{drop_all}
use Rattle.city_json.specs.Bytes.{quotation_mark, backslash}
use Rattle.city_json.specs.ReadString.{is_plain, decoded, prepend, escape_at}
use Rattle.city_json.proofs.ReadString.{checked-some, checked-none, decoded-front, decoded-quote, decoded-escape, decoded-bad_escape, decoded-broken, decoded-nil, prepend-prepend, escape_at-shorter}

pub ruleset checking = (checked-some, checked-none)

-- at the end of a run
at_end : (bytes : List ℕ) (at : ℕ) → at ≡ prefix_len is_plain bytes → at < length bytes
    → decoded bytes ≡ prepend (take at bytes) (decoded (get_or bytes at 0 ∷ drop (at + 1) bytes))
at_end bytes at e h =
    let next : suc at ≡ at + 1 = omega arith in
    decoded-front bytes ∙ ap (λ n. prepend (take n bytes) (decoded (drop n bytes))) (sym e)
    ∙ ap (λ r. prepend (take at bytes) (decoded r)) (drop-cons bytes at 0 h
    ∙ ap (λ k. get_or bytes at 0 ∷ drop k bytes) next)

-- `&bytes[at + 1..]`
abbrev beyond : List ℕ → ℕ → List ℕ
beyond bytes at = take (length bytes - (at + 1)) (drop (at + 1) bytes)

after-drop : (bytes : List ℕ) (at : ℕ) → beyond bytes at ≡ drop (at + 1) bytes
after-drop bytes at = take_all (length bytes - (at + 1)) (drop (at + 1) bytes)
    (omega (arith, length-drop (at + 1) bytes))

pub run_closes : (bytes : List ℕ) (at : ℕ) → at ≡ prefix_len is_plain bytes → at < length bytes
    → get_or bytes at 0 ≡ quotation_mark
    → decoded bytes ≡ Some (take at bytes, take (length bytes - (at + 1)) (drop (at + 1) bytes))
run_closes bytes at e h is =
    at_end bytes at e h ∙ ap (λ b. prepend (take at bytes) (decoded (b ∷ drop (at + 1) bytes))) is
    ∙ ap (prepend (take at bytes)) (decoded-quote (drop (at + 1) bytes))
    ∙ ap (λ t. Some (t, drop (at + 1) bytes)) (append-nil (take at bytes))
    ∙ ap (λ r. Some (take at bytes, r)) (sym (after-drop bytes at))

pub run_escapes : (bytes : List ℕ) (at : ℕ) → at ≡ prefix_len is_plain bytes → at < length bytes
    → get_or bytes at 0 ≡ backslash
    → (decoded bytes ≡ prepend (take at bytes)
    (decoded (backslash ∷ take (length bytes - (at + 1)) (drop (at + 1) bytes))))
    × (length (take (length bytes - (at + 1)) (drop (at + 1) bytes)) < length bytes)
run_escapes bytes at e h is = (
  at_end bytes at e h ∙ ap (λ b. prepend (take at bytes) (decoded (b ∷ drop (at + 1) bytes))) is
      ∙ ap (λ r. prepend (take at bytes) (decoded (backslash ∷ r))) (sym (after-drop bytes at)),
  omega (arith, ap length (after-drop bytes at), length-drop (at + 1) bytes),
)

pub run_breaks : (bytes : List ℕ) (at : ℕ) → at ≡ prefix_len is_plain bytes → at < length bytes
    → get_or bytes at 0 ≢ quotation_mark → get_or bytes at 0 ≢ backslash → decoded bytes ≡ None
run_breaks bytes at e h q b =
    let not_plain = subst (λ n. n < length bytes → is_plain (get_or bytes n 0) ≡ false) (sym e)
    (prefix_len_stops is_plain bytes 0) h in
    at_end bytes at e h ∙ ap (prepend (take at bytes))
    (decoded-broken (get_or bytes at 0) (drop (at + 1) bytes) not_plain q b)

pub run_ends : (bytes : List ℕ) → prefix_len is_plain bytes ≡ length bytes → decoded bytes ≡ None
run_ends bytes e =
    decoded-front bytes ∙ ap (λ n. prepend (take n bytes) (decoded (drop n bytes))) e
    ∙ ap (λ r. prepend (take (length bytes) bytes) (decoded r)) (drop_all (length bytes) bytes (le_refl _))
    ∙ ap (prepend (take (length bytes) bytes)) decoded-nil

pub ruleset runs = (run_closes, run_escapes, run_breaks, run_ends)

-- one escape more
pub escape_more : (bytes text rest run beyond after shown text₁ text₂ : List ℕ) (c : ℕ)
    → decoded bytes ≡ prepend text (decoded rest) → decoded rest ≡ prepend run (decoded (backslash ∷ beyond))
    → escape_at beyond ≡ Some (c, after) → text₁ ≡ text ++ run → shown ≡ encode_utf8 c → text₂ ≡ text₁ ++ shown
    → decoded bytes ≡ prepend text₂ (decoded after)
escape_more bytes text rest run beyond after shown text₁ text₂ c so_far found escape is₁ is is₂ =
    so_far ∙ ap (prepend text) (found ∙ ap (prepend run) (decoded-escape beyond (c, after) escape))
    ∙ prepend-prepend text run _ ∙ prepend-prepend (text ++ run) (encode_utf8 c) _
    ∙ ap (λ t. prepend t (decoded after)) (ap (λ t. (text ++ run) ++ t) (sym is) ∙ ap (λ t. t ++ shown) (sym is₁)
    ∙ sym is₂)

pub escape_shortens : (rest beyond after : List ℕ) (c : ℕ) → length beyond < length rest
    → escape_at beyond ≡ Some (c, after) → length after < length rest
escape_shortens rest beyond after c h escape = let le = escape_at-shorter beyond (c, after) escape in omega arith

pub ruleset escapes = (decoded-bad_escape, escape_shortens, escape_more)
