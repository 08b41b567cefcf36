-- Nested arrays of whole numbers: open arrays through a block, part by part.
use Rattle.std.proofs.Common.{◌≡◌, ◌∙◌, ◌++◌, ◌+◌, ◌-◌, ◌/◌, ◌%◌, ◌^◌, ◌<◌, ◌≤◌, ◌==◌, ℕ, List, [], ◌∷◌, length, map, take, drop, sym, subst, arith, length-take, length-drop}
use Rattle.std.proofs.lemmas.List.{take-append-drop}
use Rattle.std.proofs.lemmas.Nat.{shr-shr}
use Rattle.std.specs.Int.Count.{ones}
use Rattle.std.specs.Simd.Lanes.{mask_l}
use Rattle.city_json.proofs.ArrayEnds.{marks_in_front}
use Rattle.city_json.proofs.WholeArrays.{opens_of, closes_of, marks_after}
use Rattle.city_json.proofs.WholeMasks.{is_open, is_close_bracket, one_at_most}
use Rattle.city_json.specs.Bytes.{close_bracket}
use Rattle.city_json.specs.Whole.{StaysOpen, up, down, ups, downs}

-- fewer brackets close than arrays are open
pub stays_above : (d : ℕ) (bs : List ℕ) → downs bs < d → StaysOpen d bs
stays_above d [] few = omega (arith, few)
stays_above d (c ∷ cs) few = (omega (arith, few), stays_above (d + up c - down c) cs (omega (arith, few)))

-- what is open after the brackets, by their masks
pub masks_open : (d : ℕ) (bs : List ℕ) (opens closes : ℕ) → opens ≡ mask_l (map is_open bs)
    → closes ≡ mask_l (map is_close_bracket bs) → d + ones opens - ones closes ≡ d + ups bs - downs bs
masks_open d bs opens closes is_up is_down = omega (arith, opens_of bs opens is_up, closes_of bs closes is_down)

stays_joined : (d : ℕ) (cs bs : List ℕ) → StaysOpen d cs → StaysOpen (d + ups cs - downs cs) bs → StaysOpen d (cs ++ bs)
stays_joined d [] bs deep given = subst (λ x. StaysOpen x bs) (omega arith) given
stays_joined d (c ∷ cs) bs deep given =
    let same : d + (up c + ups cs) - (down c + downs cs) ≡ (d + up c - down c) + ups cs - downs cs =
    omega (arith, deep.0, one_at_most (c == close_bracket)) in
    (deep.0, stays_joined (d + up c - down c) cs bs deep.1 (subst (λ x. StaysOpen x bs) same given))

-- one round: the first 16 bytes, and what is left after them
pub part_goes : (d next left up_bits down_bits : ℕ) (rest : List ℕ) → length rest ≤ 16 + left → 16 + left ≤ 64
    → up_bits ≡ mask_l (map is_open rest) → down_bits ≡ mask_l (map is_close_bracket rest)
    → ((bytes : List ℕ) → length bytes ≤ 64 → up_bits % 2 ^ 16 ≡ mask_l (map is_open bytes)
    → down_bits % 2 ^ 16 ≡ mask_l (map is_close_bracket bytes)
    → StaysOpen d bytes × (next ≡ d + ups bytes - downs bytes))
    → (after : List ℕ) × (length after ≤ left) × (up_bits / 2 ^ 16 ≡ mask_l (map is_open after))
    × (down_bits / 2 ^ 16 ≡ mask_l (map is_close_bracket after)) × (StaysOpen next after → StaysOpen d rest)
part_goes d next left up_bits down_bits rest short fits is_up is_down front =
    let first = front (take 16 rest) (omega (arith, length-take 16 rest))
    (marks_in_front is_open rest 16 up_bits (omega arith) is_up)
    (marks_in_front is_close_bracket rest 16 down_bits (omega arith) is_down) in (
      drop 16 rest,
      omega (arith, length-drop 16 rest, short),
      sym (shr-shr up_bits 15 1) ∙ marks_after is_open 15 rest up_bits is_up,
      sym (shr-shr down_bits 15 1) ∙ marks_after is_close_bracket 15 rest down_bits is_down,
      λ given. subst (λ l. StaysOpen d l) (take-append-drop 16 rest)
          (stays_joined d (take 16 rest) (drop 16 rest) first.0 (subst (λ x. StaysOpen x (drop 16 rest)) first.1 given)),
    )
