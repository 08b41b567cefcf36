-- Pieces of bytes, and the texts that are held so.
use Rattle.std.proofs.Common.{◌≡◌, ◌∙◌, ◌++◌, ◌<◌, ◌≤◌, ◌-◌, ℕ, zero, suc, List, [], ◌∷◌, map, length, take, drop, take_all, get_or, slice_range, refl, sym, ap, arith}
use Rattle.std.proofs.lemmas.List.{drop-append-le, length-append, length-drop, map-append, take-append-le}
use Rattle.std.proofs.Math.Seq.{drop-append_seam}
use Rattle.city_json.specs.Bytes.{close_brace}
use Rattle.city_json.specs.Compact.{compact}
use Rattle.city_json.specs.OpenNames.{AreEnds}
use Rattle.city_json.proofs.EndedNames.{ends_more, ends_onward}
use Rattle.city_feature.specs.Feature.{FeatureValue}
use Rattle.city_families.specs.HeldTexts.{HasGrown, pieces, with_end}
use Rattle.city_families.specs.Lines.{texts_of}

pub long_pieces : (bytes : List ℕ) (from : ℕ) (ends : List ℕ) → length (pieces bytes from ends) ≡ length ends
long_pieces bytes from [] = refl
long_pieces bytes from (end ∷ ends) = let more = long_pieces bytes end ends in omega (arith, more)

-- where the piece at a place begins, and where it ends
pub inside : (from : ℕ) (ends : List ℕ) (last at : ℕ) → AreEnds from ends last → at < length ends
    → (get_or (from ∷ ends) at 0 ≤ get_or ends at 0) × (get_or ends at 0 ≤ last)
inside from [] last at are within = absurd (omega (arith, within))
inside from (end ∷ ends) last zero are within = (are.0, ends_onward end ends last are.1)
inside from (end ∷ ends) last (suc at) are within = inside end ends last at are.1 (omega (arith, within))

pub piece_at : (bytes : List ℕ) (from : ℕ) (ends : List ℕ) (at : ℕ) → at < length ends
    → get_or (pieces bytes from ends) at [] ≡ slice_range bytes (get_or (from ∷ ends) at 0) (get_or ends at 0)
piece_at bytes from [] at within = absurd (omega (arith, within))
piece_at bytes from (end ∷ ends) zero within = refl
piece_at bytes from (end ∷ ends) (suc at) within = piece_at bytes end ends at (omega (arith, within))

-- ---- one more
slice_kept : (bytes more : List ℕ) (from end : ℕ) → from ≤ end → end ≤ length bytes
    → slice_range (bytes ++ more) from end ≡ slice_range bytes from end
slice_kept bytes more from end onward within =
    ap (take (end - from)) (drop-append-le from bytes more (omega (arith, onward, within)))
    ∙ take-append-le (end - from) (drop from bytes) more (omega (arith, length-drop from bytes, onward, within))

slice_new : (bytes more : List ℕ) → slice_range (bytes ++ more) (length bytes) (length (bytes ++ more)) ≡ more
slice_new bytes more =
    ap (take (length (bytes ++ more) - length bytes)) (drop-append_seam bytes more)
    ∙ take_all (length (bytes ++ more) - length bytes) more (omega (arith, length-append bytes more))

pieces_push : (bytes more : List ℕ) (from : ℕ) (ends : List ℕ) → AreEnds from ends (length bytes)
    → pieces (bytes ++ more) from (ends ++ length (bytes ++ more) ∷ []) ≡ pieces bytes from ends ++ more ∷ []
pieces_push bytes more from [] are = ap (λ l. l ∷ [])
    (ap (λ n. slice_range (bytes ++ more) n (length (bytes ++ more))) are ∙ slice_new bytes more)
pieces_push bytes more from (end ∷ ends) are =
    ap (λ l. l ∷ pieces (bytes ++ more) end (ends ++ length (bytes ++ more) ∷ []))
    (slice_kept bytes more from end are.0 (ends_onward end ends (length bytes) are.1))
    ∙ ap (λ l. slice_range bytes from end ∷ l) (pieces_push bytes more end ends are.1)

pub pieces_more : (bytes bytes' more : List ℕ) (ends ends' : List ℕ) → bytes' ≡ bytes ++ more
    → ends' ≡ ends ++ length bytes' ∷ [] → AreEnds 0 ends (length bytes)
    → pieces bytes' 0 ends' ≡ pieces bytes 0 ends ++ more ∷ []
pieces_more bytes bytes' more ends ends' grown noted are = rw (noted, grown) (pieces_push bytes more 0 ends are)

pub next_ends : (bytes bytes' more : List ℕ) (ends ends' : List ℕ) → bytes' ≡ bytes ++ more
    → ends' ≡ ends ++ length bytes' ∷ [] → AreEnds 0 ends (length bytes) → AreEnds 0 ends' (length bytes')
next_ends bytes bytes' more ends ends' grown noted are =
    rw noted (ends_more 0 ends (length bytes) (length bytes') are
    (omega (arith, ap length grown, length-append bytes more)))

pub ends_noted : (line line' : List ℕ) (ends ends' : List ℕ) → AreEnds 0 ends (length line) → length line ≤ length line'
    → ends' ≡ ends ++ length line' ∷ [] → AreEnds 0 ends' (length line')
ends_noted line line' ends ends' are onward noted = rw noted (ends_more 0 ends (length line) (length line') are onward)

-- ---- the texts of features
pub texts_push : (features : List FeatureValue) (feature : FeatureValue)
    → texts_of (features ++ feature ∷ []) ≡ texts_of features ++ compact feature.value ∷ []
texts_push features feature = map-append (λ (f : FeatureValue). compact f.value) features (feature ∷ [])

pub with_tail_more : (line line' tail : List ℕ) (ends ends' : List ℕ) (features : List FeatureValue)
    (feature : FeatureValue) → map (λ own. own ++ tail) (pieces line 0 ends) ≡ texts_of features
    → AreEnds 0 ends (length line) → ends' ≡ ends ++ length line' ∷ []
    → HasGrown line line' tail (compact feature.value)
    → map (λ own. own ++ tail) (pieces line' 0 ends') ≡ texts_of (features ++ feature ∷ [])
with_tail_more line line' tail ends ends' features feature so_far are noted grown =
    ap (map (λ own. own ++ tail)) (pieces_more line line' grown.0 ends ends' grown.1 noted are)
    ∙ (map-append (λ own. own ++ tail) (pieces line 0 ends) (grown.0 ∷ [])
    ∙ (ap (λ l. l ++ (grown.0 ++ tail) ∷ []) so_far
    ∙ (ap (λ t. texts_of features ++ t ∷ []) grown.2
    ∙ sym (texts_push features feature))))

pub kept_more : (line line' : List ℕ) (ends ends' : List ℕ) (features : List FeatureValue) (feature : FeatureValue)
    → HasGrown line line' (close_brace ∷ []) (compact feature.value) → ends' ≡ ends ++ length line' ∷ []
    → AreEnds 0 ends (length line) × (with_end (close_brace ∷ []) (pieces line 0 ends) ≡ texts_of features)
    → AreEnds 0 ends' (length line') × (with_end (close_brace ∷ []) (pieces line' 0 ends') ≡ texts_of (features ++ feature ∷ []))
kept_more line line' ends ends' features feature grown noted kept = (
  next_ends line line' grown.0 ends ends' grown.1 noted kept.0,
  with_tail_more line line' (close_brace ∷ []) ends ends' features feature kept.1 kept.0 noted grown,
)
