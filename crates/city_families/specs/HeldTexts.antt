-- Texts that are held with what all of them end in once.
use Rattle.std.specs.Prelude.{◌≡◌, ◌++◌, ℕ, Bool, List, [], ◌∷◌, map, slice_range}
use Rattle.std.specs.List.{AllByRecursion}
use Rattle.city_feature.specs.Ended.{IsOwnPart}

-- texts: what each begins with, what all of them end in, and whether the former is made when it is asked for
pub record HeldTexts : Type 0 where
  pub own : List (List ℕ)
  pub common : List ℕ
  pub is_made : Bool

-- texts that begin so, and all end in the same
abbrev pub with_end : List ℕ → List (List ℕ) → List (List ℕ)
with_end common own = map (λ one. one ++ common) own

-- the texts themselves
abbrev pub texts_in : HeldTexts → List (List ℕ)
texts_in held = with_end held.common held.own

-- what each begins with is what a feature has of its own before that end
abbrev pub AreOwnParts : HeldTexts → Type 0
AreOwnParts held = AllByRecursion (λ own. IsOwnPart own held.common) held.own

-- the pieces of bytes that end at these places, the first from `from` on
abbrev pub pieces : List ℕ → ℕ → List ℕ → List (List ℕ)
pieces bytes from [] = []
pieces bytes from (end ∷ ends) = slice_range bytes from end ∷ pieces bytes end ends

-- What was appended makes with this tail the whole text.
abbrev pub HasGrown : List ℕ → List ℕ → List ℕ → List ℕ → Type 0
HasGrown line line' tail text = (own : List ℕ) × (line' ≡ line ++ own) × (own ++ tail ≡ text)
