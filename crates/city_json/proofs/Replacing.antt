-- The compact text of an object in which one member's value was exchanged.
use Rattle.std.proofs.Common.{◌≡◌, ◌++◌, ◌∙◌, ◌<◌, ◌+◌, ℕ, zero, suc, List, [], ◌∷◌, length, take, drop, get_or, refl, ap, sym, subst, arith, append_assoc, length-append}
use Rattle.city_json.proofs.MemberPlaces.{split_next, split_value, split_member}
use Rattle.std.proofs.lemmas.List.{take_at, drop_at, length_push}
use Rattle.city_json.specs.Bytes.{comma, colon}
use Rattle.city_json.specs.Compact.{quoted, compact, compact_members, compact_more_members}
use Rattle.city_json.specs.Parts.{AreParts, with_value, replaced}
use Rattle.city_json.specs.Tree.{Tree, MemberTrees, no_members, member}
use Rattle.city_json.specs.declared.compacting.places.MemberPlace.{MemberPlace}

replace_here : (front middle back new : List ℕ) (part : MemberPlace) (text : List ℕ) → text ≡ front ++ (middle ++ back)
    → part.value ≡ length front → part.end ≡ part.value + length middle
    → with_value text part new ≡ front ++ (new ++ back)
replace_here front middle back new part text is begins ends =
    let regrouped : text ≡ (front ++ middle) ++ back = is ∙ sym (append_assoc front middle back) in
    let long : length (front ++ middle) ≡ part.end = length-append front middle
    ∙ (ap (λ n. n + length middle) (sym begins) ∙ sym ends) in
    ap (λ l. take part.value l ++ (new ++ drop part.end text)) is
    ∙ (ap (λ l. l ++ (new ++ drop part.end text)) (take_at front (middle ++ back) part.value (sym begins))
    ∙ ap (λ l. front ++ (new ++ l)) (ap (drop part.end) regrouped ∙ drop_at (front ++ middle) back part.end long))

more_of : (k : ℕ) (w : Tree) (n : List ℕ) (v : Tree) (o : MemberTrees)
    → compact_more_members (replaced k w (member n v o)) ≡ comma ∷ compact_members (replaced k w (member n v o))
more_of zero w n v o = refl
more_of (suc k) w n v o = refl

pub replaced_text : (members : MemberTrees) (front back : List ℕ) (parts : List MemberPlace) (k : ℕ) (d : MemberPlace) (w : Tree)
    → AreParts (length front) parts members → k < length parts
    → with_value (front ++ (compact_members members ++ back)) (get_or parts k d) (compact w) ≡ front
    ++ (compact_members (replaced k w members) ++ back)
replaced_text no_members front back [] k d w are within = absurd (omega arith)
replaced_text no_members front back (p ∷ ps) k d w are within = absurd are
replaced_text (member n v o) front back [] k d w are within = absurd are
replaced_text (member n v o) front back (p ∷ ps) zero d w are within =
    let begin : List ℕ = front ++ (quoted n ++ colon ∷ []) in
    let text : List ℕ = front ++ (compact_members (member n v o) ++ back) in
    let split : front ++ (((quoted n ++ colon ∷ compact v) ++ compact_more_members o) ++ back)
    ≡ (front ++ (quoted n ++ colon ∷ [])) ++ (compact v ++ (compact_more_members o ++ back)) =
    split_value front (quoted n) (compact v) (compact_more_members o) back in
    let joined : (front ++ (quoted n ++ colon ∷ [])) ++ (compact w ++ (compact_more_members o ++ back)) ≡ front
    ++ (((quoted n ++ colon ∷ compact w) ++ compact_more_members o) ++ back) =
    sym (split_value front (quoted n) (compact w) (compact_more_members o) back) in
    let begins : p.value ≡ length (front ++ (quoted n ++ colon ∷ [])) = are.0.1
    ∙ sym (length-append front (quoted n ++ colon ∷ [])) in
    replace_here (front ++ (quoted n ++ colon ∷ [])) (compact v) (compact_more_members o ++ back)
    (compact w) p text split begins are.0.2 ∙ joined
replaced_text (member n v no_members) front back (p ∷ []) (suc k) d w are within = absurd (omega arith)
replaced_text (member n v no_members) front back (p ∷ (q ∷ ps)) (suc k) d w are within = absurd are.1
replaced_text (member n v (member n' v' o)) front back (p ∷ ps) (suc k) d w are within =
    let middle : List ℕ = (quoted n ++ colon ∷ compact v) ++ comma ∷ [] in
    let others : List ℕ = compact_members (member n' v' o) in
    let new : List ℕ = compact_members (replaced k w (member n' v' o)) in
    let begins : p.value ≡ length front + length (quoted n ++ colon ∷ []) = are.0.1 in
    let ends : p.end ≡ p.value + length (compact v) = are.0.2 in
    let one : length (front ++ ((quoted n ++ colon ∷ compact v) ++ comma ∷ [])) ≡ length front
    + length ((quoted n ++ colon ∷ compact v) ++ comma ∷ []) =
    length-append front ((quoted n ++ colon ∷ compact v) ++ comma ∷ []) in
    let two : length ((quoted n ++ colon ∷ compact v) ++ comma ∷ []) ≡ length (quoted n ++ colon ∷ compact v) + 1 =
    length_push (quoted n ++ colon ∷ compact v) comma in
    let regroup : quoted n ++ colon ∷ compact v ≡ (quoted n ++ colon ∷ []) ++ compact v =
    split_member (quoted n) (compact v) in
    let three : length (quoted n ++ colon ∷ compact v) ≡ length (quoted n ++ colon ∷ []) + length (compact v) =
    ap length regroup ∙ length-append (quoted n ++ colon ∷ []) (compact v) in
    let count : p.end + 1 ≡ length (front ++ ((quoted n ++ colon ∷ compact v) ++ comma ∷ [])) =
    omega (arith, begins, ends, one, two, three) in
    let split : front ++ (((quoted n ++ colon ∷ compact v) ++ comma ∷ others) ++ back)
    ≡ (front ++ ((quoted n ++ colon ∷ compact v) ++ comma ∷ [])) ++ (others ++ back) =
    split_next front (quoted n ++ colon ∷ compact v) others back in
    let joined : (front ++ ((quoted n ++ colon ∷ compact v) ++ comma ∷ [])) ++ (new ++ back) ≡ front
    ++ (((quoted n ++ colon ∷ compact v) ++ comma ∷ new) ++ back) =
    sym (split_next front (quoted n ++ colon ∷ compact v) new back) in
    let rest = replaced_text (member n' v' o) (front ++ ((quoted n ++ colon ∷ compact v) ++ comma ∷ [])) back ps k d w
    (subst (λ m. AreParts m ps (member n' v' o)) count are.1) (omega arith) in
    ap (λ l. with_value l (get_or ps k d) (compact w)) split
    ∙ (rest ∙ (joined ∙ ap (λ l. front ++ (((quoted n ++ colon ∷ compact v) ++ l) ++ back))
    (sym (more_of k w n' v' o))))
