-- Where the members of an object lie in its compact text.
use Rattle.std.proofs.Common.{◌≡◌, ◌++◌, ◌∙◌, ◌≤◌, ◌<◌, ◌+◌, ℕ, List, [], ◌∷◌, length, drop, get_or, refl, ap, sym, arith, append_assoc, length-append, length-drop}
use Rattle.byte_streams.specs.Limits.{max_depth}
use Rattle.city_json.specs.Bytes.{colon, quotation_mark}
use Rattle.city_json.specs.Compact.{quoted, compact, written}
use Rattle.city_json.specs.CompactEnds.{IsStopped, LeavesString, LeavesValue}
use Rattle.city_json.specs.CompactMembers.{HasNoMember, HasNoString, HasNoValue}
use Rattle.city_json.specs.Fits.{depth}
use Rattle.city_json.specs.Tree.{Tree}
use Rattle.city_json.specs.Writable.{IsWritable}
use Rattle.city_json.proofs.StringEnds.{others_same}
use Rattle.city_json.proofs.Places.{drop_one}
use Rattle.std.specs.List.{flat_map}

split_name : (name value rest : List ℕ) → (quoted name ++ colon ∷ value) ++ rest
    ≡ quotation_mark ∷ (flat_map written name ++ quotation_mark ∷ (colon ∷ (value ++ rest)))
split_name name value rest = simp append_assoc

places : (text named value rest : List ℕ) (at colon_at end c : ℕ) → at < length text → colon_at < length text
    → end ≤ length text
    → drop at text ≡ (named ++ c ∷ value) ++ rest → drop colon_at text ≡ c ∷ (value ++ rest) → drop end text ≡ rest
    → (colon_at + 1 ≡ at + length (named ++ c ∷ [])) × (end ≡ colon_at + 1 + length value)
places text named value rest at colon_at end c inside inside₂ within is one two =
    let long₁ = ap length is in
    let long₂ = ap length one in
    let long₃ = ap length two in
    let from₁ = length-drop at text in
    let from₂ = length-drop colon_at text in
    let from₃ = length-drop end text in
    let a = length-append (named ++ c ∷ value) rest in
    let b = length-append named (c ∷ value) in
    let d = length-append named (c ∷ []) in
    let e = length-append value rest in (
      omega (arith, long₁, long₂, long₃, from₁, from₂, from₃, a, b, d, e, inside, inside₂, within),
      omega (arith, long₁, long₂, long₃, from₁, from₂, from₃, a, b, d, e, inside, inside₂, within),
    )

-- its name ends at a colon, and its value after it
pub member_leaves : (text : List ℕ) (at colon_at end : ℕ) → at < length text → colon_at < length text
    → end ≤ length text
    → LeavesString (drop (at + 1) text) (drop colon_at text)
    → LeavesValue 128 (drop (colon_at + 1) text) (drop end text)
    → (name : List ℕ) (value : Tree) (rest : List ℕ) → IsWritable value → depth value ≤ max_depth → IsStopped rest
    → drop at text ≡ (quoted name ++ colon ∷ compact value) ++ rest
    → ((at ≡ at) × (colon_at + 1 ≡ at + length (quoted name ++ colon ∷ []))
    × (end ≡ colon_at + 1 + length (compact value))) × (drop end text ≡ rest)
member_leaves text at colon_at end inside inside₂ within named_so leaves name value rest w shallow stopped is =
    let named : drop colon_at text ≡ colon ∷ (compact value ++ rest) =
    named_so name (colon ∷ (compact value ++ rest))
    (others_same _ _ _ _ (sym (drop_one text at (get_or text at 0) inside refl)
    ∙ (is ∙ split_name name (compact value) rest))) in
    let valued : drop end text ≡ rest = leaves value rest w shallow stopped
    (others_same _ _ _ _ (sym (drop_one text colon_at (get_or text colon_at 0) inside₂ refl) ∙ named)) in
    let lie = places text (quoted name) (compact value) rest at colon_at end colon inside inside₂ within is named
    valued in
    ((refl, lie.0, lie.1), valued)

-- nothing is left at the end of the text
nothing_left : (text rest : List ℕ) (end : ℕ) → length text ≤ end → drop end text ≡ rest → 0 < length rest → ⊥
nothing_left text rest end all is some = omega (arith, all, ap length is, length-drop end text, some)

pub no_string : (text b : List ℕ) (end : ℕ) → length text ≤ end → LeavesString b (drop end text) → HasNoString b
no_string text b end all leaves content rest some is = nothing_left text rest end all (leaves content rest is) some

pub no_value : (text b : List ℕ) (end : ℕ) → length text ≤ end → LeavesValue 128 b (drop end text) → HasNoValue b
no_value text b end all leaves value rest w shallow stopped some is =
    nothing_left text rest end all (leaves value rest w shallow stopped is) some

module _ (text : List ℕ) (at : ℕ) where
  some_member : (name value rest : List ℕ) → drop at text ≡ (quoted name ++ colon ∷ value) ++ rest → at < length text
  some_member name value rest is = omega (arith, ap length is, length-drop at text)

  after_mark : (name value rest : List ℕ) → drop at text ≡ (quoted name ++ colon ∷ value) ++ rest
      → drop (at + 1) text ≡ flat_map written name ++ quotation_mark ∷ (colon ∷ (value ++ rest))
  after_mark name value rest is =
      others_same _ _ _ _ (sym (drop_one text at (get_or text at 0) (some_member name value rest is) refl)
      ∙ (is ∙ split_name name value rest))

  pub no_name : (at < length text → HasNoString (drop (at + 1) text)) → HasNoMember (drop at text)
  no_name none name value rest w shallow stopped some is =
      none (some_member name (compact value) rest is) name (colon ∷ (compact value ++ rest)) (omega arith)
      (after_mark name (compact value) rest is)

  pub no_named_value : (colon_at : ℕ) → colon_at < length text
      → LeavesString (drop (at + 1) text) (drop colon_at text) → HasNoValue (drop (colon_at + 1) text)
      → HasNoMember (drop at text)
  no_named_value colon_at inside named_so none name value rest w shallow stopped some is =
      none value rest w shallow stopped some
      (others_same _ _ _ _ (sym (drop_one text colon_at (get_or text colon_at 0) inside refl)
      ∙ named_so name (colon ∷ (compact value ++ rest)) (after_mark name (compact value) rest is)))
