-- Names that lie one after another in the same bytes.
use Rattle.std.proofs.Common.{◌≡◌, ◌≤◌, ◌<◌, ◌+◌, ◌-◌, ◌++◌, ◌∙◌, ℕ, zero, suc, List, [], ◌∷◌, length, take, drop, get_or, refl, ap, sym, subst, arith, length-append}
use Rattle.std.proofs.Math.Seq.{drop-append_seam, take-append_seam, take-length}
use Rattle.std.proofs.lemmas.List.{length-take-le}
use Rattle.std.specs.List.{slice_range}
use Rattle.city_json.specs.OpenNames.{AreEnds, names_between, begin_of}

pub as_many : (start : ℕ) (ends bytes : List ℕ) → length (names_between start ends bytes) ≡ length ends
as_many start [] bytes = refl
as_many start (end ∷ ends) bytes = ap suc (as_many end ends bytes)

-- ---- where a name lies
pub ends_onward : (start : ℕ) (ends : List ℕ) (size : ℕ) → AreEnds start ends size → start ≤ size
ends_onward start [] size are = omega (arith, are)
ends_onward start (end ∷ ends) size are = omega (arith, are.0, ends_onward end ends size are.1)

pub begins_within : (start place : ℕ) (ends : List ℕ) (size : ℕ) → AreEnds start ends size
    → begin_of start place ends ≤ size
begins_within start zero ends size are = ends_onward start ends size are
begins_within start (suc place) [] size are = omega (arith, are)
begins_within start (suc place) (end ∷ ends) size are = begins_within end place ends size are.1

pub begins_after : (start place : ℕ) (ends : List ℕ) → place < length ends
    → get_or ends place 0 ≡ begin_of start (suc place) ends
begins_after start place [] inside = absurd (omega arith)
begins_after start zero (end ∷ ends) inside = refl
begins_after start (suc place) (end ∷ ends) inside = begins_after end place ends (omega arith)

pub ends_after : (start place : ℕ) (ends : List ℕ) (size : ℕ) → AreEnds start ends size → place < length ends
    → begin_of start place ends ≤ get_or ends place 0
ends_after start place [] size are inside = absurd (omega arith)
ends_after start zero (end ∷ ends) size are inside = are.0
ends_after start (suc place) (end ∷ ends) size are inside = ends_after end place ends size are.1 (omega arith)

pub ends_within : (start place : ℕ) (ends : List ℕ) (size : ℕ) → AreEnds start ends size → place < length ends
    → get_or ends place 0 ≤ size
ends_within start place [] size are inside = absurd (omega arith)
ends_within start zero (end ∷ ends) size are inside = ends_onward end ends size are.1
ends_within start (suc place) (end ∷ ends) size are inside = ends_within end place ends size are.1 (omega arith)

name_there : (start place : ℕ) (ends bytes : List ℕ) → place < length ends
    → drop place (names_between start ends bytes)
    ≡ slice_range bytes (begin_of start place ends) (get_or ends place 0)
    ∷ drop (suc place) (names_between start ends bytes)
name_there start place [] bytes inside = absurd (omega arith)
name_there start zero (end ∷ ends) bytes inside = refl
name_there start (suc place) (end ∷ ends) bytes inside = name_there end place ends bytes (omega arith)

pub name_at : (start place : ℕ) (ends bytes : List ℕ) → place < length ends
    → drop place (names_between start ends bytes)
    ≡ slice_range bytes (begin_of start place ends) (get_or ends place 0)
    ∷ drop (place + 1) (names_between start ends bytes)
name_at start place ends bytes inside =
    let next : suc place ≡ place + 1 = omega arith in
    name_there start place ends bytes inside
    ∙ ap (λ n. slice_range bytes (begin_of start place ends) (get_or ends place 0)
    ∷ drop n (names_between start ends bytes)) next

-- ---- a front of the bytes
front_of_front : (bytes : List ℕ) (k n : ℕ) → k ≤ n → take k (take n bytes) ≡ take k bytes
front_of_front bytes zero n order = refl
front_of_front bytes (suc k) zero order = absurd (omega arith)
front_of_front [] (suc k) (suc n) order = refl
front_of_front (b ∷ bytes) (suc k) (suc n) order = ap (λ l. b ∷ l) (front_of_front bytes k n (omega arith))

part_of_front : (bytes : List ℕ) (start k n : ℕ) → start + k ≤ n
    → take k (drop start (take n bytes)) ≡ take k (drop start bytes)
part_of_front bytes zero k n order = front_of_front bytes k n (omega arith)
part_of_front bytes (suc start) k zero order = absurd (omega arith)
part_of_front [] (suc start) k (suc n) order = refl
part_of_front (b ∷ bytes) (suc start) k (suc n) order = part_of_front bytes start k n (omega arith)

range_of_front : (bytes : List ℕ) (start end n : ℕ) → start ≤ end → end ≤ n
    → slice_range (take n bytes) start end ≡ slice_range bytes start end
range_of_front bytes start end n order inside = part_of_front bytes start (end - start) n (omega arith)

names_of_front : (start : ℕ) (ends bytes : List ℕ) (size n : ℕ) → AreEnds start ends size → size ≤ n
    → names_between start ends (take n bytes) ≡ names_between start ends bytes
names_of_front start [] bytes size n are inside = refl
names_of_front start (end ∷ ends) bytes size n are inside =
    let low : end ≤ n = omega (arith, ends_onward end ends size are.1) in
    ap (λ name. name ∷ names_between end ends (take n bytes)) (range_of_front bytes start end n are.0 low)
    ∙ ap (λ names. slice_range bytes start end ∷ names) (names_of_front end ends bytes size n are.1 inside)

-- ---- one more
pub ends_more : (start : ℕ) (ends : List ℕ) (size end : ℕ) → AreEnds start ends size → size ≤ end
    → AreEnds start (ends ++ end ∷ []) end
ends_more start [] size end are order = (omega (arith, are), refl)
ends_more start (first ∷ ends) size end are order = (are.0, ends_more first ends size end are.1 order)

last_name : (start : ℕ) (ends bytes : List ℕ) (size end : ℕ) → AreEnds start ends size
    → names_between start (ends ++ end ∷ []) bytes
    ≡ names_between start ends bytes ++ slice_range bytes size end ∷ []
last_name start [] bytes size end are = ap (λ n. slice_range bytes n end ∷ []) are
last_name start (first ∷ ends) bytes size end are =
    ap (λ names. slice_range bytes start first ∷ names) (last_name first ends bytes size end are.1)

appended : (bytes name : List ℕ) → slice_range (bytes ++ name) (length bytes) (length bytes + length name) ≡ name
appended bytes name =
    let count : length bytes + length name - length bytes ≡ length name = omega arith in
    ap (take (length bytes + length name - length bytes)) (drop-append_seam bytes name)
    ∙ ap (λ n. take n name) count ∙ take-length name

pub names_more : (ends ends₂ bytes bytes₂ name : List ℕ) (end : ℕ) → AreEnds 0 ends (length bytes)
    → ends₂ ≡ ends ++ end ∷ [] → bytes₂ ≡ bytes ++ name → end ≡ length bytes₂
    → names_between 0 ends₂ bytes₂ ≡ names_between 0 ends bytes ++ name ∷ []
names_more ends ends₂ bytes bytes₂ name end are listed put is =
    let count : end ≡ length bytes + length name = is ∙ ap length put ∙ length-append bytes name in
    let front : names_between 0 ends (bytes ++ name) ≡ names_between 0 ends bytes =
    sym (names_of_front 0 ends (bytes ++ name) (length bytes) (length bytes) are (omega arith))
    ∙ ap (names_between 0 ends) (take-append_seam bytes name) in
    ap (names_between 0 ends₂) put
    ∙ ap (λ l. names_between 0 l (bytes ++ name)) (listed ∙ ap (λ n. ends ++ n ∷ []) count)
    ∙ last_name 0 ends (bytes ++ name) (length bytes) (length bytes + length name) are
    ∙ ap (λ names. names ++ slice_range (bytes ++ name) (length bytes) (length bytes + length name) ∷ []) front
    ∙ ap (λ last. names_between 0 ends bytes ++ last ∷ []) (appended bytes name)

pub are_more : (ends ends₂ bytes bytes₂ name : List ℕ) (end : ℕ) → AreEnds 0 ends (length bytes)
    → ends₂ ≡ ends ++ end ∷ [] → bytes₂ ≡ bytes ++ name → end ≡ length bytes₂ → AreEnds 0 ends₂ (length bytes₂)
are_more ends ends₂ bytes bytes₂ name end are listed put is =
    let count : length bytes₂ ≡ length bytes + length name = ap length put ∙ length-append bytes name in
    let more : AreEnds 0 (ends ++ end ∷ []) end = ends_more 0 ends (length bytes) end are (omega (arith, count, is)) in
    subst (λ n. AreEnds 0 ends₂ n) is (subst (λ l. AreEnds 0 l end) (sym listed) more)

-- ---- fewer
ends_fewer : (start base : ℕ) (ends : List ℕ) (size : ℕ) → AreEnds start ends size → base ≤ length ends
    → AreEnds start (take base ends) (begin_of start base ends)
ends_fewer start zero ends size are order = refl
ends_fewer start (suc base) [] size are order = absurd (omega arith)
ends_fewer start (suc base) (end ∷ ends) size are order = (are.0, ends_fewer end base ends size are.1 (omega arith))

names_at_front : (start base : ℕ) (ends bytes : List ℕ)
    → names_between start (take base ends) bytes ≡ take base (names_between start ends bytes)
names_at_front start zero ends bytes = refl
names_at_front start (suc base) [] bytes = refl
names_at_front start (suc base) (end ∷ ends) bytes =
    ap (λ names. slice_range bytes start end ∷ names) (names_at_front end base ends bytes)

pub names_fewer : (base end : ℕ) (ends ends₂ bytes bytes₂ : List ℕ) → AreEnds 0 ends (length bytes)
    → base ≤ length ends → end ≡ begin_of 0 base ends → bytes₂ ≡ take end bytes → ends₂ ≡ take base ends
    → names_between 0 ends₂ bytes₂ ≡ take base (names_between 0 ends bytes)
names_fewer base end ends ends₂ bytes bytes₂ are order is cut stay =
    ap (names_between 0 ends₂) (cut ∙ ap (λ n. take n bytes) is)
    ∙ ap (λ l. names_between 0 l (take (begin_of 0 base ends) bytes)) stay
    ∙ names_of_front 0 (take base ends) bytes (begin_of 0 base ends) (begin_of 0 base ends)
    (ends_fewer 0 base ends (length bytes) are order) (omega arith)
    ∙ names_at_front 0 base ends bytes

pub are_fewer : (base end : ℕ) (ends ends₂ bytes bytes₂ : List ℕ) → AreEnds 0 ends (length bytes)
    → base ≤ length ends → end ≡ begin_of 0 base ends → bytes₂ ≡ take end bytes → ends₂ ≡ take base ends
    → AreEnds 0 ends₂ (length bytes₂)
are_fewer base end ends ends₂ bytes bytes₂ are order is cut stay =
    let low : end ≤ length bytes = omega (arith, is, begins_within 0 base ends (length bytes) are) in
    let size : length bytes₂ ≡ end = ap length cut ∙ length-take-le end bytes low in
    subst (λ n. AreEnds 0 ends₂ n) (sym is ∙ sym size)
    (subst (λ l. AreEnds 0 l (begin_of 0 base ends)) (sym stay) (ends_fewer 0 base ends (length bytes) are order))
