-- Texts that are woven of pieces and the labels of the leaves between them.
use Rattle.std.proofs.Common.{◌≡◌, ◌∙◌, ◌++◌, ◌≤◌, ◌+◌, ◌-◌, ℕ, List, [], ◌∷◌, length, take, drop, slice_range, sym, ap, arith, append_assoc, length-drop}
use Rattle.std.proofs.Math.Seq.{drop-append_seam}
use Rattle.std.proofs.lemmas.List.{drop-append-le, take-append-le, take_all, take_at}
use Rattle.city_json.proofs.Places.{slice_more}
use Rattle.cut_on_text.specs.Skeletons.{LeafPlace, woven}
use Rattle.cut_on_text.specs.Sketches.{ArePlaced}

-- ---- slices

pub slice_front : {A : Type 0} (x y : List A) (from to : ℕ) → from ≤ to → to ≤ length x
    → slice_range (x ++ y) from to ≡ slice_range x from to
slice_front x y from to order within =
    ap (take (to - from)) (drop-append-le from x y (omega (arith, order, within)))
    ∙ take-append-le (to - from) (drop from x) y (omega (arith, length-drop from x, order, within))

pub slice_middle : {A : Type 0} (x y z : List A) (to : ℕ) → to ≡ length x + length y
    → slice_range ((x ++ y) ++ z) (length x) to ≡ y
slice_middle x y z to is =
    ap (λ l. take (to - length x) (drop (length x) l)) (append_assoc x y z)
    ∙ (ap (take (to - length x)) (drop-append_seam x (y ++ z))
    ∙ take_at y z (to - length x) (omega (arith, is)))

pub slice_end : {A : Type 0} (x y : List A) (to : ℕ) → to ≡ length x + length y → slice_range (x ++ y) (length x) to ≡ y
slice_end x y to is =
    ap (take (to - length x)) (drop-append_seam x y) ∙ take_all (to - length x) y (omega (arith, is))

pub slice_none : (text : List ℕ) (from to : ℕ) → to ≤ from → slice_range text from to ≡ []
slice_none text from to past = let none : to - from ≡ 0 = omega (arith, past) in
    ap (λ n. take n (drop from text)) none

-- ---- leaves in order

pub placed_order : (from end : ℕ) (places : List LeafPlace) → ArePlaced from end places → from ≤ end
placed_order from end [] placed = placed
placed_order from end (leaf ∷ others) placed =
    let more = placed_order leaf.at end others placed.1 in omega (arith, placed.0, more)

placed_from : (from mid end : ℕ) (places : List LeafPlace) → from ≤ mid → ArePlaced mid end places
    → ArePlaced from end places
placed_from from mid end [] order placed = omega (arith, order, placed)
placed_from from mid end (leaf ∷ others) order placed = (omega (arith, order, placed.0), placed.1)

pub placed_both : (from mid end : ℕ) (first second : List LeafPlace) → ArePlaced from mid first
    → ArePlaced mid end second → ArePlaced from end (first ++ second)
placed_both from mid end [] second placed more = placed_from from mid end second placed more
placed_both from mid end (leaf ∷ others) second placed more =
    (placed.0, placed_both leaf.at mid end others second placed.1 more)

-- ---- the text that is woven

pub woven_front : (text more : List ℕ) (from end : ℕ) (places : List LeafPlace) (label : ℕ → List ℕ)
    → ArePlaced from end places → end ≤ length text
    → woven (text ++ more) from end places label ≡ woven text from end places label
woven_front text more from end [] label placed within = slice_front text more from end placed within
woven_front text more from end (leaf ∷ others) label placed within =
    let later = placed_order leaf.at end others placed.1 in
    ap (λ l. l ++ (label leaf.vertex ++ woven (text ++ more) leaf.at end others label))
    (slice_front text more from leaf.at placed.0 (omega (arith, later, within)))
    ∙ ap (λ l. slice_range text from leaf.at ++ (label leaf.vertex ++ l))
    (woven_front text more leaf.at end others label placed.1 within)

pub woven_both : (text : List ℕ) (from mid end : ℕ) (first second : List LeafPlace) (label : ℕ → List ℕ)
    → ArePlaced from mid first → ArePlaced mid end second
    → woven text from mid first label ++ woven text mid end second label ≡ woven text from end (first ++ second) label
woven_both text from mid end [] [] label placed more = sym (slice_more text from mid end placed more)
woven_both text from mid end [] (leaf ∷ others) label placed more =
    let rest = label leaf.vertex ++ woven text leaf.at end others label in
    sym (append_assoc (slice_range text from mid) (slice_range text mid leaf.at) rest)
    ∙ ap (λ l. l ++ rest) (sym (slice_more text from mid leaf.at placed more.0))
woven_both text from mid end (leaf ∷ others) second label placed more =
    let a = slice_range text from leaf.at in
    let b = label leaf.vertex in
    let c = woven text leaf.at mid others label in
    let d = woven text mid end second label in
    append_assoc a (b ++ c) d ∙ (ap (λ l. a ++ l) (append_assoc b c d)
    ∙ ap (λ l. a ++ (b ++ l)) (woven_both text leaf.at mid end others second label placed.1 more))
