-- Vertices that are moved by a shift, and features that are kept of others.
use Rattle.std.specs.Prelude.{◌&&◌, Bool, true, false, List, [], ◌∷◌, nat_le, unsigned_abs, if◌then◌else◌}
use Rattle.byte_streams.specs.Limits.{max_steps}
use Rattle.city_grid.specs.Axes.{Triple, sum}

abbrev pub is_in_range : Triple → Bool
is_in_range p =
    nat_le (unsigned_abs p.x) max_steps
    && (nat_le (unsigned_abs p.y) max_steps && nat_le (unsigned_abs p.z) max_steps)

-- the vertex moved by a shift; where it was, if it would leave the range
abbrev pub moved_or_same : Triple → Triple → Triple
moved_or_same k p = if is_in_range (sum p k) then sum p k else p

-- those at whose places it is true
abbrev pub chosen_of : {X : Type 0} → List Bool → List X → List X
chosen_of [] xs = []
chosen_of (b ∷ bs) [] = []
chosen_of (true ∷ bs) (x ∷ xs) = x ∷ chosen_of bs xs
chosen_of (false ∷ bs) (x ∷ xs) = chosen_of bs xs
