-- Names that lie one after another in the same bytes, each up to an end of its own.
use Rattle.std.specs.Prelude.{◌≡◌, ◌≤◌, ℕ, zero, suc, List, [], ◌∷◌}
use Rattle.std.specs.List.{slice_range}

-- the names, of which the first begins at `start`
abbrev pub names_between : ℕ → List ℕ → List ℕ → List (List ℕ)
names_between start [] bytes = []
names_between start (end ∷ ends) bytes = slice_range bytes start end ∷ names_between end ends bytes

-- The ends do not fall from `start` on, and the last is how many bytes there are.
abbrev pub AreEnds : ℕ → List ℕ → ℕ → Type 0
AreEnds start [] size = start ≡ size
AreEnds start (end ∷ ends) size = (start ≤ end) × AreEnds end ends size

-- where the name at a place begins, where the first begins at `start`
abbrev pub begin_of : ℕ → ℕ → List ℕ → ℕ
begin_of start zero ends = start
begin_of start (suc place) [] = start
begin_of start (suc place) (end ∷ ends) = begin_of end place ends
