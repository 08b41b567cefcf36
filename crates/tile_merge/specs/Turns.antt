-- Lists in turn: the first item of each that has one, then the second items, and so on.
use Rattle.std.specs.Prelude.{◌≡◌, ◌++◌, ℕ, zero, suc, List, [], ◌∷◌, length, take, drop, map, flat_map, max}

-- the first item of each list that has one
abbrev pub firsts : {X : Type 0} → List (List X) → List X
firsts lists = flat_map (take 1) lists

-- the lists without their first items
abbrev pub rests : {X : Type 0} → List (List X) → List (List X)
rests lists = map (drop 1) lists

-- the length of the longest list
abbrev pub longest : {X : Type 0} → List (List X) → ℕ
longest [] = 0
longest (list ∷ others) = max (length list) (longest others)

-- so many rounds, each of which takes the first items
unfoldable pub rounds : {X : Type 0} → ℕ → List (List X) → List X
rounds zero lists = []
rounds (suc n) lists = firsts lists ++ rounds n (rests lists)

abbrev pub turns : {X : Type 0} → List (List X) → List X
turns lists = rounds (longest lists) lists

-- the list is these lists in turn
abbrev pub AreTurns : {X : Type 0} → List (List X) → List X → Type 0
AreTurns lists out = out ≡ turns lists
