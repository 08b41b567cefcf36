-- What lies in the parts of an object's compact text.
use Rattle.std.proofs.Common.{◌≡◌, ◌++◌, ◌∙◌, ◌<◌, ◌+◌, ◌-◌, ℕ, zero, suc, List, [], ◌∷◌, length, take, drop, get_or, slice_range, refl, ap, sym, subst, arith, append_assoc, length-append}
use Rattle.std.proofs.lemmas.List.{take_at, drop_at, length_push}
use Rattle.city_json.specs.Bytes.{comma, colon}
use Rattle.city_json.specs.Compact.{quoted, compact, compact_members, compact_more_members}
use Rattle.city_json.specs.Parts.{AreParts, IsMemberText}
use Rattle.city_json.specs.Tree.{MemberTrees, no_members, member}
use Rattle.city_json.specs.declared.compacting.places.MemberPlace.{MemberPlace}

slice_here : (front middle back text : List ℕ) (from to : ℕ) → text ≡ front ++ (middle ++ back) → from ≡ length front
    → to ≡ from + length middle → slice_range text from to ≡ middle
slice_here front middle back text from to is begins ends =
    ap (λ l. take (to - from) (drop from l)) is
    ∙ (ap (take (to - from)) (drop_at front (middle ++ back) from (sym begins))
    ∙ take_at middle back (to - from) (omega arith))

pub split_next : (front one others back : List ℕ)
    → front ++ ((one ++ comma ∷ others) ++ back) ≡ (front ++ (one ++ comma ∷ [])) ++ (others ++ back)
split_next front one others back = simp append_assoc

split_name : (front name value others back : List ℕ)
    → front ++ (((name ++ colon ∷ value) ++ others) ++ back) ≡ front
    ++ ((name ++ colon ∷ []) ++ (value ++ (others ++ back)))
split_name front name value others back = simp append_assoc

pub split_value : (front name value others back : List ℕ)
    → front ++ (((name ++ colon ∷ value) ++ others) ++ back) ≡ (front ++ (name ++ colon ∷ []))
    ++ (value ++ (others ++ back))
split_value front name value others back = simp append_assoc

pub split_member : (name value : List ℕ) → name ++ colon ∷ value ≡ (name ++ colon ∷ []) ++ value
split_member name value = simp append_assoc

pub member_in_part : (members : MemberTrees) (front back : List ℕ) (parts : List MemberPlace) (k : ℕ) (d : MemberPlace)
    → AreParts (length front) parts members → k < length parts
    → IsMemberText (front ++ (compact_members members ++ back)) (get_or parts k d) k members
member_in_part no_members front back [] k d are within = absurd (omega arith)
member_in_part no_members front back (p ∷ ps) k d are within = absurd are
member_in_part (member n v o) front back [] k d are within = absurd are
member_in_part (member n v o) front back (p ∷ ps) zero d are within =
    let text : List ℕ = front ++ (compact_members (member n v o) ++ back) in
    let begins : p.value ≡ length (front ++ (quoted n ++ colon ∷ [])) = are.0.1
    ∙ sym (length-append front (quoted n ++ colon ∷ [])) in
    let colon_at : p.value ≡ p.at + length (quoted n ++ colon ∷ []) = are.0.1
    ∙ ap (λ m. m + length (quoted n ++ colon ∷ [])) (sym are.0.0) in
    record {
      name = n;
      value = v;
      has = (refl, refl);
      named = slice_here front (quoted n ++ colon ∷ [])
          (compact v ++ (compact_more_members o ++ back)) text p.at p.value
          (split_name front (quoted n) (compact v) (compact_more_members o) back) are.0.0 colon_at;
      valued = slice_here (front ++ (quoted n ++ colon ∷ [])) (compact v)
          (compact_more_members o ++ back) text p.value p.end
          (split_value front (quoted n) (compact v) (compact_more_members o) back) begins are.0.2;
    }
member_in_part (member n v no_members) front back (p ∷ []) (suc k) d are within = absurd (omega arith)
member_in_part (member n v no_members) front back (p ∷ (q ∷ ps)) (suc k) d are within = absurd are.1
member_in_part (member n v (member n' v' o)) front back (p ∷ ps) (suc k) d are within =
    let others : List ℕ = compact_members (member n' v' o) in
    let begins : p.value ≡ length front + length (quoted n ++ colon ∷ []) = are.0.1 in
    let ends : p.end ≡ p.value + length (compact v) = are.0.2 in
    let one : length (front ++ ((quoted n ++ colon ∷ compact v) ++ comma ∷ [])) ≡ length front
    + length ((quoted n ++ colon ∷ compact v) ++ comma ∷ []) =
    length-append front ((quoted n ++ colon ∷ compact v) ++ comma ∷ []) in
    let two : length ((quoted n ++ colon ∷ compact v) ++ comma ∷ []) ≡ length (quoted n ++ colon ∷ compact v) + 1 =
    length_push (quoted n ++ colon ∷ compact v) comma in
    let three : length (quoted n ++ colon ∷ compact v) ≡ length (quoted n ++ colon ∷ []) + length (compact v) =
    ap length (split_member (quoted n) (compact v)) ∙ length-append (quoted n ++ colon ∷ []) (compact v) in
    let count : p.end + 1 ≡ length (front ++ ((quoted n ++ colon ∷ compact v) ++ comma ∷ [])) =
    omega (arith, begins, ends, one, two, three) in
    let rest = member_in_part (member n' v' o) (front ++ ((quoted n ++ colon ∷ compact v) ++ comma ∷ [])) back ps k d
    (subst (λ m. AreParts m ps (member n' v' o)) count are.1) (omega arith) in
    let split = split_next front (quoted n ++ colon ∷ compact v) others back in
    record {
      name = rest.name;
      value = rest.value;
      has = rest.has;
      named = ap (λ l. slice_range l (get_or ps k d).at (get_or ps k d).value) split ∙ rest.named;
      valued = ap (λ l. slice_range l (get_or ps k d).value (get_or ps k d).end) split ∙ rest.valued;
    }
