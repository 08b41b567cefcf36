-- Lists that are gone through, item by item.
use Rattle.std.proofs.Common.{◌≡◌, ◌<◌, ◌++◌, List, ◌∷◌, length, length-append, ap, ◌∙◌, arith}

-- a list goes on with the next of the items that are left
pub goes_on : {X : Type 0} (all front left : List X) (x : X) (after : List X) → all ≡ front ++ left → left ≡ x ∷ after
    → all ≡ front ++ x ∷ after
goes_on all front left x after whole next = whole ∙ ap (λ l. front ++ l) next

pub is_longer : {X : Type 0} (all front : List X) (x : X) (after : List X) → all ≡ front ++ x ∷ after
    → length front < length all
is_longer all front x after whole = omega (arith, ap length whole, length-append front (x ∷ after))
